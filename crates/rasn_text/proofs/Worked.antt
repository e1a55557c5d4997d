-- The worked names.
use Rattle.std.proofs.Common.{◌≡◌, ℕ, ◌<◌, List, [], ◌∷◌, ◌++◌, length, codes, inl, inr, refl, subst, rules, arith}
use Rattle.std.specs.Prelude.{chars}
use Rattle.std.specs.List.{All}
use Rattle.std.proofs.lemmas.List.{append-nil}
use Rattle.std.proofs.lemmas.List.Elements.{All-from_recursion}
use Rattle.std.proofs.lemmas.Str.{chars-IsAscii, IsUtf8-from_ascii}
use Rattle.std.proofs.lemmas.Str.Ascii.{IsAscii-from_all}
use lib.Utf8.{encode}
use Rattle.rasn_types.specs.Tags.{in_universal}
use Rattle.rasn_types.specs.Shapes.{leaf, utf8, numbers}
use Rattle.rasn_types.specs.Trees.{unconstrained}
use Rattle.rasn_types.specs.Grammar.{Reads, parts_of}
use Rattle.rasn_types.specs.declared.types.codec.Codec.TheVariants.{Ber}
use Rattle.rasn_types.specs.Text.{dotted}
use Rattle.rasn.proofs.ReadBack.Headers.{octets_read}
use Rattle.rasn_pkix.specs.declared.attribute_type_and_value.AttributeTypeAndValue.{AttributeTypeAndValue}
use Rattle.rasn_text.specs.Escapes.{escaped}
use Rattle.rasn_text.specs.ShortNames.{IsShortName, HasNoShortName}
use Rattle.rasn_text.specs.Names.{IsValue, IsValueText, IsAttributeText, IsRelativeText, AreRelativesText}
use Rattle.rasn_text.specs.WorkedNames.{common_name, unit, user, domain, unknown, attribute, text_attribute, below_example, jim, WorkedNames}

-- The UTF8String with these octets.
utf8_read : (l : List ℕ) → All (λ c. c < 128) l → length l < 128 → IsValue (leaf utf8 (in_universal 12) unconstrained) (12 ∷ length l ∷ (l ++ [])) (numbers (chars l))
unfolding Reads parts_of
utf8_read l small short = ((l, octets_read Ber 12 l [] 128 (omega arith) (omega arith) short, (refl, IsUtf8-from_ascii l (IsAscii-from_all l small))), tt)

value_text : (l : List ℕ) → All (λ c. c < 128) l → length l < 128 → IsValueText (12 ∷ length l ∷ l) (escaped l)
value_text l small short =
    let own = chars-IsAscii l (IsAscii-from_all l small) in
    let P : List ℕ → Type 0 = λ z. IsValue (leaf utf8 (in_universal 12) unconstrained) (12 ∷ length l ∷ z) (numbers l) in
    let Q : List ℕ → Type 0 = λ z. IsValue (leaf utf8 (in_universal 12) unconstrained) (12 ∷ length l ∷ (l ++ [])) (numbers z) in
    inl (l, inl (subst P (append-nil l) (subst Q own (utf8_read l small short))), refl)

-- An attribute with a short name, and a relative distinguished name of one attribute.
named_text : (kind name l : List ℕ) → IsShortName kind name → All (λ c. c < 128) l → length l < 128 → IsAttributeText (text_attribute kind l) (name ++ 61 ∷ escaped l)
named_text kind name l s small short = inl (name, escaped l, s, value_text l small short, refl)

alone : (a : AttributeTypeAndValue) (text : List ℕ) → IsAttributeText a text → IsRelativeText (a ∷ []) text
alone a text is = (text ∷ [], (is, tt), refl)

domain_named : IsShortName domain (codes "DC")
domain_named = inr (inr (inr (inr (inr (inr (inr (inr (inl (refl, refl)))))))))

net : IsRelativeText (text_attribute domain (codes "net") ∷ []) (codes "DC=net")
unfolding encode
net = alone _ _ (named_text domain (codes "DC") (codes "net") domain_named (All-from_recursion (λ c. c < 128) (codes "net") (search rules)) (omega arith))

example : IsRelativeText (text_attribute domain (codes "example") ∷ []) (codes "DC=example")
unfolding encode
example = alone _ _ (named_text domain (codes "DC") (codes "example") domain_named (All-from_recursion (λ c. c < 128) (codes "example") (search rules)) (omega arith))

below : (last : List AttributeTypeAndValue) (text : List ℕ) → IsRelativeText last text → AreRelativesText (below_example last) (text ++ codes ",DC=example,DC=net")
below last text is = (text ∷ codes "DC=example" ∷ codes "DC=net" ∷ [], (is, (example, (net, tt))), refl)

common_text : (l : List ℕ) → All (λ c. c < 128) l → length l < 128 → IsRelativeText (text_attribute common_name l ∷ []) (codes "CN=" ++ escaped l)
common_text l small short = alone _ _ (named_text common_name (codes "CN") l (inl (refl, refl)) small short)

sales : IsRelativeText (text_attribute unit (codes "Sales") ∷ text_attribute common_name (codes "J.  Smith") ∷ []) (codes "OU=Sales+CN=J.  Smith")
unfolding encode
sales = (
  codes "OU=Sales" ∷ codes "CN=J.  Smith" ∷ [],
  (
    named_text unit (codes "OU") (codes "Sales") (inr (inr (inr (inr (inr (inr (inl (refl, refl)))))))) (All-from_recursion (λ c. c < 128) (codes "Sales") (search rules)) (omega arith),
    (named_text common_name (codes "CN") (codes "J.  Smith") (inl (refl, refl)) (All-from_recursion (λ c. c < 128) (codes "J.  Smith") (search rules)) (omega arith), tt),
  ),
  refl,
)

unknown_unnamed : HasNoShortName unknown
unknown_unnamed name s = grind arith

serial_unnamed : HasNoShortName (2 ∷ 5 ∷ 4 ∷ 5 ∷ [])
serial_unnamed name s = grind arith

-- An attribute without a short name has one text.
unknown_alone : (text : List ℕ) → IsAttributeText (attribute unknown (4 ∷ 2 ∷ 72 ∷ 105 ∷ [])) text → text ≡ dotted unknown ++ codes "=#04024869"
unknown_alone text (inl (name, value, s, v, e)) = absurd (unknown_unnamed name s)
unknown_alone text (inr (none, e)) = e

nothing_alone : (text : List ℕ) → AreRelativesText [] text → text ≡ []
nothing_alone text ([], z, e) = e
nothing_alone text (t ∷ ts, z, e) = absurd z

pub worked : WorkedNames
unfolding encode
worked = record {
  one_attribute = below (text_attribute user (codes "jsmith") ∷ []) _ (alone _ _ (named_text user (codes "UID") (codes "jsmith") (inr (inr (inr (inr (inr (inr (inr (inl (refl, refl))))))))) (All-from_recursion (λ c. c < 128) (codes "jsmith") (search rules)) (omega arith)));
  two_attributes = below (text_attribute unit (codes "Sales") ∷ text_attribute common_name (codes "J.  Smith") ∷ []) _ sales;
  special = below (text_attribute common_name jim ∷ []) _ (common_text jim (All-from_recursion (λ c. c < 128) jim (search rules)) (omega arith));
  control = below (text_attribute common_name (codes "Before" ++ 13 ∷ codes "After") ∷ []) _ (common_text (codes "Before" ++ 13 ∷ codes "After") (All-from_recursion (λ c. c < 128) (codes "Before" ++ 13 ∷ codes "After") (search rules)) (omega arith));
  no_short_name = ((dotted unknown ++ codes "=#04024869") ∷ [], (alone _ _ (inr (unknown_unnamed, refl)), tt), refl);
  beyond_ascii = refl;
  at_the_ends = refl;
  one_space = refl;
  number_sign = refl;
  no_relative = ([], tt, refl);
  serial_number = serial_unnamed;
  one_text_alone = unknown_alone;
  no_text_for_none = nothing_alone;
}
