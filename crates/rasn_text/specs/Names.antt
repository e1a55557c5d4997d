-- The text of a distinguished name (RFC 4514, 2).
use Rattle.std.specs.Prelude.{◌≡◌, ◌⊎◌, ℕ, List, [], ◌∷◌, ◌++◌, reverse}
use Rattle.rasn_types.specs.Tags.{in_universal}
use Rattle.rasn_types.specs.Shapes.{Shape, Tree, leaf, utf8, printable, ia5, numbers}
use Rattle.rasn_types.specs.Trees.{unconstrained}
use Rattle.rasn_types.specs.Grammar.{Reads, top}
use Rattle.rasn_types.specs.Text.{dotted}
use Rattle.rasn_types.specs.declared.types.codec.Codec.TheVariants.{Ber}
use Rattle.rasn_pkix.specs.declared.attribute_type_and_value.AttributeTypeAndValue.{AttributeTypeAndValue}
use Rattle.rasn_pkix.specs.declared.relative_distinguished_name.RelativeDistinguishedName.{RelativeDistinguishedName}
use Rattle.rasn_pkix.specs.declared.name.Name.{Name}
use Rattle.rasn_pkix.specs.declared.name.Name.TheVariants.{RdnSequence}
use Rattle.rasn_text.specs.Joined.{AreJoined}
use Rattle.rasn_text.specs.Escapes.{escaped, octets_text}
use Rattle.rasn_text.specs.ShortNames.{IsShortName, HasNoShortName}

-- All of the octets are such a value in BER.
abbrev pub IsValue : Shape → List ℕ → Tree → Type 0
IsValue shape octets t = Reads Ber shape 128 (top Ber) octets t []

abbrev pub IsNoValue : Shape → List ℕ → Type 0
IsNoValue shape octets = (t : Tree) → IsValue shape octets t → ⊥

-- The octets are a UTF8String, a PrintableString or an IA5String with these characters.
abbrev pub IsString : List ℕ → List ℕ → Type 0
IsString octets characters = IsValue (leaf utf8 (in_universal 12) unconstrained) octets (numbers characters)
    ⊎ (IsValue (leaf printable (in_universal 19) unconstrained) octets (numbers characters)
    ⊎ IsValue (leaf ia5 (in_universal 22) unconstrained) octets (numbers characters))

-- The value of an attribute with a short name (2.4).
abbrev pub IsValueText : List ℕ → List ℕ → Type 0
IsValueText octets text = ((characters : List ℕ) × IsString octets characters × (text ≡ escaped characters))
    ⊎ (((characters : List ℕ) → IsString octets characters → ⊥) × (text ≡ octets_text octets))

-- An attribute: its type, an equals sign and its value (2.3).
abbrev pub IsAttributeText : AttributeTypeAndValue → List ℕ → Type 0
IsAttributeText a text = ((name : List ℕ) × (value : List ℕ) × IsShortName a.type_value name × IsValueText a.value value × (text ≡ name ++ 61 ∷ value))
    ⊎ (HasNoShortName a.type_value × (text ≡ dotted a.type_value ++ 61 ∷ octets_text a.value))

-- The attributes of a relative distinguished name, with plus signs between them (2.2).
abbrev pub IsRelativeText : List AttributeTypeAndValue → List ℕ → Type 0
IsRelativeText attributes text = AreJoined IsAttributeText 43 attributes text

-- The relative distinguished names, the last one first, with commas between them (2.1).
abbrev pub AreRelativesText : List RelativeDistinguishedName → List ℕ → Type 0
AreRelativesText relatives text = AreJoined (λ r. IsRelativeText r.value) 44 (reverse relatives) text

abbrev pub IsNameText : Name → List ℕ → Type 0
IsNameText (RdnSequence relatives) text = AreRelativesText relatives.items text
