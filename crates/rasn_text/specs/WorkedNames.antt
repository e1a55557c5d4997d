-- The names of the examples of RFC 4514, 4, with their texts, and what isn't a text.
use Rattle.std.specs.Prelude.{◌≡◌, ℕ, List, [], ◌∷◌, ◌++◌, length, codes}
use Rattle.rasn_pkix.specs.declared.attribute_type_and_value.AttributeTypeAndValue.{AttributeTypeAndValue}
use Rattle.rasn_pkix.specs.declared.relative_distinguished_name.RelativeDistinguishedName.{RelativeDistinguishedName}
use Rattle.rasn_types.specs.Text.{dotted}
use Rattle.rasn_text.specs.Escapes.{escaped}
use Rattle.rasn_text.specs.ShortNames.{HasNoShortName}
use Rattle.rasn_text.specs.Names.{IsAttributeText, AreRelativesText}

abbrev pub common_name : List ℕ
common_name = 2 ∷ 5 ∷ 4 ∷ 3 ∷ []

abbrev pub unit : List ℕ
unit = 2 ∷ 5 ∷ 4 ∷ 11 ∷ []

abbrev pub user : List ℕ
user = 0 ∷ 9 ∷ 2342 ∷ 19200300 ∷ 100 ∷ 1 ∷ 1 ∷ []

abbrev pub domain : List ℕ
domain = 0 ∷ 9 ∷ 2342 ∷ 19200300 ∷ 100 ∷ 1 ∷ 25 ∷ []

abbrev pub unknown : List ℕ
unknown = 1 ∷ 3 ∷ 6 ∷ 1 ∷ 4 ∷ 1 ∷ 1466 ∷ 0 ∷ []

-- An attribute with any value, and one with the UTF8String of these octets.
abbrev pub attribute : List ℕ → List ℕ → AttributeTypeAndValue
attribute kind value = record { type_value = kind; value = value }

abbrev pub text_attribute : List ℕ → List ℕ → AttributeTypeAndValue
text_attribute kind text = attribute kind (12 ∷ length text ∷ text)

abbrev pub relative : List AttributeTypeAndValue → RelativeDistinguishedName
relative attributes = record { value = attributes }

-- DC=net and DC=example, each a relative distinguished name, and then this one.
abbrev pub below_example : List AttributeTypeAndValue → List RelativeDistinguishedName
below_example last = relative (text_attribute domain (codes "net") ∷ []) ∷ relative (text_attribute domain (codes "example") ∷ []) ∷ relative last ∷ []

abbrev pub jim : List ℕ
jim = codes "James " ++ 34 ∷ codes "Jim" ++ 34 ∷ codes " Smith, III"

abbrev pub escaped_jim : List ℕ
escaped_jim = codes "James " ++ 92 ∷ 34 ∷ codes "Jim" ++ 92 ∷ 34 ∷ codes " Smith" ++ 92 ∷ codes ", III"

pub record WorkedNames : Type 0 where
  pub one_attribute : AreRelativesText (below_example (text_attribute user (codes "jsmith") ∷ [])) (codes "UID=jsmith,DC=example,DC=net")
  pub two_attributes : AreRelativesText (below_example (text_attribute unit (codes "Sales") ∷ text_attribute common_name (codes "J.  Smith") ∷ [])) (codes "OU=Sales+CN=J.  Smith,DC=example,DC=net")
  pub special : AreRelativesText (below_example (text_attribute common_name jim ∷ [])) (codes "CN=" ++ escaped_jim ++ codes ",DC=example,DC=net")
  pub control : AreRelativesText (below_example (text_attribute common_name (codes "Before" ++ 13 ∷ codes "After") ∷ [])) (codes "CN=Before" ++ 92 ∷ codes "0dAfter,DC=example,DC=net")
  pub no_short_name : AreRelativesText (relative (attribute unknown (4 ∷ 2 ∷ 72 ∷ 105 ∷ []) ∷ []) ∷ []) (dotted unknown ++ codes "=#04024869")
  pub beyond_ascii : escaped (76 ∷ 117 ∷ 269 ∷ 105 ∷ 263 ∷ []) ≡ codes "Lu" ++ 196 ∷ 141 ∷ 105 ∷ 196 ∷ 135 ∷ []
  pub at_the_ends : escaped (codes " a #b ") ≡ 92 ∷ codes " a #b" ++ 92 ∷ codes " "
  pub one_space : escaped (codes " ") ≡ 92 ∷ codes " "
  pub number_sign : escaped (codes "#") ≡ 92 ∷ codes "#"
  pub no_relative : AreRelativesText [] []
  pub serial_number : HasNoShortName (2 ∷ 5 ∷ 4 ∷ 5 ∷ [])
  pub one_text_alone : (text : List ℕ) → IsAttributeText (attribute unknown (4 ∷ 2 ∷ 72 ∷ 105 ∷ [])) text → text ≡ dotted unknown ++ codes "=#04024869"
  pub no_text_for_none : (text : List ℕ) → AreRelativesText [] text → text ≡ []
