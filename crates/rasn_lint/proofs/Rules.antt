-- What is asked of an encoding, by the rule of its tag.
use Rattle.std.proofs.Common.{◌≡◌, ℕ, List, Bool, true, false, refl, sym, subst}
use Rattle.rasn_types.specs.declared.types.tag.Tag.{Tag}
use Rattle.rasn_types.specs.Contents.{joined_lists}
use Rattle.rasn_types.specs.Truth.{IsWhether}
use Rattle.rasn_lint.specs.declared.der.universal.ContentsRule.{ContentsRule}
use Rattle.rasn_lint.specs.declared.der.universal.ContentsRule.TheVariants.{Values, Set, Unknown}
use Rattle.rasn_lint.specs.Contents.{AllowsContents}
use Rattle.rasn_lint.specs.Universal.{rule_of}
use Rattle.rasn_lint.specs.WellFormed.{AllowsParts, AreWellFormed, AllowsEncoding}

pub no_parts : (rule : ContentsRule) → (rule ≡ Values → ⊥) → (rule ≡ Set → ⊥) → (rule ≡ Unknown → ⊥) → (parts : List (List ℕ)) → AllowsParts rule parts → ⊥
no_parts Values a b c parts h = a refl
no_parts Set a b c parts h = b refl
no_parts Unknown a b c parts h = c refl
no_parts _ a b c parts h = h

module _ (r : Bool) (tag : Tag) (bit : Bool) (contents : List ℕ) (rule : ContentsRule) (is : rule ≡ rule_of tag) where
  pub allowed_plain : bit ≡ false → IsWhether r (AllowsContents rule contents) → AllowsEncoding r tag bit contents
  allowed_plain e h = subst (λ b. AllowsEncoding r tag b contents) (sym e) (subst (λ x. IsWhether r (AllowsContents x contents)) is h)

  pub allowed_nested : bit ≡ true → ((parts : List (List ℕ)) → contents ≡ joined_lists parts → AreWellFormed parts → IsWhether r (AllowsParts rule parts)) → AllowsEncoding r tag bit contents
  allowed_nested e h =
      let g : AllowsEncoding r tag true contents = λ parts q w. subst (λ x. IsWhether r (AllowsParts x parts)) is (h parts q w) in
      subst (λ b. AllowsEncoding r tag b contents) (sym e) g
