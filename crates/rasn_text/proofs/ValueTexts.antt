-- Texts of values and of attributes.
use Rattle.std.proofs.Common.{◌≡◌, ◌++◌, ◌∷◌, [], ℕ, ◌<◌, List, Result, Ok, Err, OnOk, inl, inr, refl, ap, subst, ◌∙◌, append_assoc}
use Rattle.std.specs.Prelude.{chars}
use Rattle.std.proofs.lemmas.List.Elements.{All-weaker}
use Rattle.std.proofs.lemmas.Str.{chars-IsAscii}
use Rattle.std.proofs.lemmas.Str.Ascii.{IsAscii-from_all}
use Rattle.rasn_types.specs.CharacterString.{AreAdmitted, IsAdmitted, IsWithinAscii}
use Rattle.rasn_types.specs.declared.types.strings.alphabet.Alphabet.{Alphabet}
use Rattle.rasn_types.specs.Text.{dotted}
use Rattle.rasn_pkix.specs.declared.attribute_type_and_value.AttributeTypeAndValue.{AttributeTypeAndValue}
use Rattle.rasn_text.specs.Escapes.{escaped, octets_text}
use Rattle.rasn_text.specs.ShortNames.{IsShortName, HasNoShortName}
use Rattle.rasn_text.specs.Joined.{IsAppended}
use Rattle.rasn_text.specs.Names.{IsString, IsValueText, IsAttributeText}

pub on_ok : {T E : Type 0} (r : Result T E) (P Q : Type 0) → (P → Q) → OnOk r P → OnOk r Q
on_ok (Ok v) P Q f p = f p
on_ok (Err e) P Q f p = p

-- The octets of ASCII are its characters.
pub own_characters : (a : Alphabet) → IsWithinAscii a → (s : List ℕ) → AreAdmitted a s → chars s ≡ s
own_characters a ascii s admitted = chars-IsAscii s (IsAscii-from_all s (All-weaker (IsAdmitted a) (λ b. b < 128) ascii s admitted))

pub string_text : (octets s shown old new : List ℕ) → IsString octets s → chars s ≡ s → shown ≡ s → new ≡ old ++ escaped (chars shown) → IsAppended (IsValueText octets) old new
string_text octets s shown old new is own same n = (escaped (chars shown), inl (s, is, ap (λ l. escaped (chars l)) same ∙ ap escaped own), n)

pub named : (a : AttributeTypeAndValue) (kind octets name old begun marked new : List ℕ) → kind ≡ a.type_value → octets ≡ a.value → IsShortName kind name → begun ≡ old ++ name → marked ≡ begun ++ 61 ∷ []
    → IsAppended (IsValueText octets) marked new → IsAppended (IsAttributeText a) old new
named a kind octets name old begun marked new k o s e f (value, v, g) = (
  name ++ 61 ∷ value,
  inl (name, value, subst (λ l. IsShortName l name) k s, subst (λ l. IsValueText l value) o v, refl),
  g ∙ (ap (λ l. l ++ value) (f ∙ ap (λ l. l ++ 61 ∷ []) e) ∙ (append_assoc (old ++ name) (61 ∷ []) value ∙ append_assoc old name (61 ∷ value))),
)

pub numbered : (a : AttributeTypeAndValue) (kind octets old marked new : List ℕ) → kind ≡ a.type_value → octets ≡ a.value → HasNoShortName kind → marked ≡ old ++ (dotted a.type_value ++ 61 ∷ [])
    → new ≡ marked ++ octets_text octets → IsAppended (IsAttributeText a) old new
numbered a kind octets old marked new k o none e g = (
  dotted a.type_value ++ 61 ∷ octets_text octets,
  inr (subst HasNoShortName k none, ap (λ l. dotted a.type_value ++ 61 ∷ octets_text l) o),
  g ∙ (ap (λ l. l ++ octets_text octets) e ∙ (append_assoc old (dotted a.type_value ++ 61 ∷ []) (octets_text octets) ∙ ap (λ l. old ++ l) (append_assoc (dotted a.type_value) (61 ∷ []) (octets_text octets)))),
)
