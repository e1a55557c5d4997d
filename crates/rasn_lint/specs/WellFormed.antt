-- Encodings that follow DER at every depth, whatever their type (X.690 8.1, 10, 11).
use Rattle.std.specs.Prelude.{◌≡◌, ℕ, List, [], ◌∷◌, Bool, true, false}
use Rattle.rasn_types.specs.Contents.{joined_lists}
use Rattle.rasn_types.specs.Framing.{Frame, definite}
use Rattle.rasn_types.specs.declared.types.tag.Tag.{Tag}
use Rattle.rasn_types.specs.Tags.{der_form}
use Rattle.rasn_types.specs.Truth.{IsWhether}
use Rattle.rasn_lint.specs.declared.der.universal.ContentsRule.{ContentsRule}
use Rattle.rasn_lint.specs.declared.der.universal.ContentsRule.TheVariants.{Values, Set, Unknown}
use Rattle.rasn_lint.specs.Contents.{AllowsContents}
use Rattle.rasn_lint.specs.Order.{IsInOrder}
use Rattle.rasn_lint.specs.Universal.{rule_of}

-- The contents of a constructed encoding that follows the rule may be these encodings.
abbrev pub AllowsParts : ContentsRule → List (List ℕ) → Type 0
AllowsParts Values parts = Unit {0}
AllowsParts Set parts = IsInOrder parts
AllowsParts Unknown parts = Unit {0}
AllowsParts rule parts = ⊥

mutual
  -- All of the octets are one encoding, with a header of DER. Its contents are allowed for its tag: any octets or those
  -- of the universal type, or well-formed encodings, one after the other.
  pub data IsWellFormed : List ℕ → Type 0 where
    primitive : {text : List ℕ} (tag : Tag) (contents : List ℕ)
        → Frame der_form text tag false [] (definite contents) → AllowsContents (rule_of tag) contents → IsWellFormed text
    constructed : {text : List ℕ} (tag : Tag) (parts : List (List ℕ))
        → Frame der_form text tag true [] (definite (joined_lists parts)) → AllowsParts (rule_of tag) parts → AreWellFormed parts → IsWellFormed text

  pub data AreWellFormed : List (List ℕ) → Type 0 where
    none : AreWellFormed []
    one_more : {part : List ℕ} {parts : List (List ℕ)} → IsWellFormed part → AreWellFormed parts → AreWellFormed (part ∷ parts)

-- The octets are well-formed encodings, one after the other.
abbrev pub AreEncodings : List ℕ → Type 0
AreEncodings l = (parts : List (List ℕ)) × (l ≡ joined_lists parts) × AreWellFormed parts

-- Whether an encoding with this tag, form and contents is allowed, if its contents are well formed.
abbrev pub AllowsEncoding : Bool → Tag → Bool → List ℕ → Type 0
AllowsEncoding b tag false contents = IsWhether b (AllowsContents (rule_of tag) contents)
AllowsEncoding b tag true contents = (parts : List (List ℕ)) → contents ≡ joined_lists parts → AreWellFormed parts → IsWhether b (AllowsParts (rule_of tag) parts)
