-- What departs of an encoding, by the rule of its tag.
use Rattle.std.specs.Prelude.{IfOk, MatchOption}
use Rattle.std.proofs.Common.{◌≡◌, inl, ℕ, List, [], Bool, true, false, Option, Some, None, Result, Ok, Err, sym, ap, ◌∙◌, subst}
use Rattle.std.specs.declared.alloc.AllocError.{AllocError}
use Rattle.rasn_types.specs.Contents.{joined_lists}
use Rattle.rasn_types.specs.declared.types.tag.Tag.{Tag}
use Rattle.rasn_types.specs.declared.error.decode.DecodeError.{DecodeError}
use Rattle.rasn_types.specs.Truth.{IsWhether}
use Rattle.rasn_lint.specs.declared.der.universal.ContentsRule.{ContentsRule}
use Rattle.rasn_lint.specs.declared.der.universal.ContentsRule.TheVariants.{Values, Set, Unknown}
use Rattle.rasn_types.specs.declared.error.decode.DerDecodeErrorKind.{DerDecodeErrorKind}
use Rattle.rasn_types.specs.declared.error.decode.DerDecodeErrorKind.TheVariants.{SetOfOutOfOrder}
use Rattle.rasn_lint.specs.Contents.{AllowsContents}
use Rattle.rasn_lint.specs.Place.{der_error}
use Rattle.rasn_lint.specs.Refusals.{constructed_kind, no_primitive, form_error, IsReadError, IsContentsError}
use Rattle.rasn_lint.specs.Universal.{rule_of}
use Rattle.rasn_lint.specs.Untyped.{HasNoForm, HasWrongContents, IsUnordered}
use Rattle.rasn_lint.specs.WellFormed.{AllowsParts, AreWellFormed, AreEncodings, AllowsEncoding}
use Rattle.rasn_lint.proofs.Forms.{primitive_one}
use Rattle.rasn_lint.proofs.Rules.{no_parts, allowed_plain, allowed_nested}

-- ---- forms

-- What is said of the form, and of the primitive one.
abbrev pub IsFormFault : ContentsRule → Bool → Option DecodeError → Type 0
IsFormFault rule bit f = MatchOption f (HasNoForm rule bit → ⊥) (λ e. HasNoForm rule bit × (e ≡ form_error rule bit))

abbrev pub IsPrimitiveForm : Bool → Option DecodeError → Type 0
IsPrimitiveForm bit f = MatchOption f (bit ≡ true) (λ e. (bit ≡ false) × (e ≡ no_primitive))

never_primitive : (bit : Bool) (rule : ContentsRule) → ((contents : List ℕ) → AllowsContents rule contents → ⊥) → AllowsParts rule [] → (f : Option DecodeError) → IsPrimitiveForm bit f → IsFormFault rule bit f
never_primitive bit rule n a None h = λ x. subst (λ b. HasNoForm rule b) h x [] a
never_primitive bit rule n a (Some e) (h, q) = subst (λ b. HasNoForm rule b × (e ≡ form_error rule b)) (sym h) (n, q)

module _ (rule : ContentsRule) (bit : Bool) where
  pub any_form : rule ≡ Unknown → HasNoForm rule bit → ⊥
  any_form r h = go bit (subst (λ x. HasNoForm x bit) r h)
    where
      go : (b : Bool) → HasNoForm Unknown b → ⊥
      go false n = n [] tt
      go true n = n [] tt

  pub values_constructed : rule ≡ Values → (f : Option DecodeError) → IsPrimitiveForm bit f → IsFormFault rule bit f
  values_constructed r = never_primitive bit rule (λ contents h. subst (λ x. AllowsContents x contents) r h) (subst (λ x. AllowsParts x []) (sym r) tt)

  pub set_constructed : rule ≡ Set → (f : Option DecodeError) → IsPrimitiveForm bit f → IsFormFault rule bit f
  set_constructed r = never_primitive bit rule (λ contents h. subst (λ x. AllowsContents x contents) r h) (subst (λ x. AllowsParts x []) (sym r) (inl tt))

  pub never_constructed : bit ≡ true → (rule ≡ Values → ⊥) → (rule ≡ Set → ⊥) → (rule ≡ Unknown → ⊥) → (kind : DerDecodeErrorKind) → kind ≡ constructed_kind rule → (error : DecodeError) → error ≡ der_error kind
      → HasNoForm rule bit × (error ≡ form_error rule bit)
  never_constructed e a b c kind p error q = subst (λ z. HasNoForm rule z × (error ≡ form_error rule z)) (sym e) (no_parts rule a b c, q ∙ ap der_error p)

  pub may_be_primitive : bit ≡ false → (rule ≡ Values → ⊥) → (rule ≡ Set → ⊥) → HasNoForm rule bit → ⊥
  may_be_primitive e a b h = let p = primitive_one rule a b in subst (λ z. HasNoForm rule z) e h p.0 p.1

-- ---- contents

pub no_values : (rule : ContentsRule) → rule ≡ Values → HasNoForm rule false
no_values rule r contents h = subst (λ x. AllowsContents x contents) r h

pub no_set : (rule : ContentsRule) → rule ≡ Set → HasNoForm rule false
no_set rule r contents h = subst (λ x. AllowsContents x contents) r h

-- What is said of the contents.
abbrev pub IsWrongFault : Tag → Bool → List ℕ → Option DecodeError → Type 0
IsWrongFault tag bit contents f = MatchOption f (HasWrongContents tag bit contents → ⊥) (λ e. AllowsEncoding false tag bit contents × IsContentsError (rule_of tag) tag bit contents e)

module _ (rule : ContentsRule) (tag : Tag) (bit : Bool) (contents : List ℕ) (is : rule ≡ rule_of tag) where
  -- Encodings that are well formed and in order are allowed in the form of the rule.
  in_form : AreEncodings contents → (AreEncodings contents → IsUnordered rule contents → ⊥) → (x : ContentsRule) → x ≡ rule → (HasNoForm x true → ⊥)
      → ((parts : List (List ℕ)) → contents ≡ joined_lists parts → AreWellFormed parts → AllowsParts x parts → ⊥) → ⊥
  in_form w h Values q form n = n w.0 w.1 w.2 tt
  in_form w h Unknown q form n = n w.0 w.1 w.2 tt
  in_form w h Set q form n = h w (sym q, n)
  in_form w h _ q form n = form (λ parts a. a)

  pub unordered : bit ≡ true → (f : Option DecodeError) → MatchOption f (AreEncodings contents → IsUnordered rule contents → ⊥) (λ e. IsUnordered rule contents × (e ≡ der_error SetOfOutOfOrder))
      → IsWrongFault tag bit contents f
  unordered e None h = λ x. in_form (x.1 e) h (rule_of tag) (sym is) (subst (λ b. HasNoForm (rule_of tag) b → ⊥) e x.0) (subst (λ b. AllowsEncoding false tag b contents) e x.2)
  unordered e (Some x) ((s, n), q) = (
    allowed_nested false tag bit contents rule is e (λ parts q w. subst (λ z. IsWhether false (AllowsParts z parts)) (sym s) (n parts q w)),
    subst (λ b. IsContentsError (rule_of tag) tag b contents x) (sym e) q,
  )

  pub allowed : bit ≡ false → IsWhether true (AllowsContents rule contents) → HasWrongContents tag bit contents → ⊥
  allowed e a x = subst (λ b. AllowsEncoding false tag b contents) e x.2 (subst (λ z. AllowsContents z contents) is a)

  pub refused_plain : bit ≡ false → IsWhether false (AllowsContents rule contents) → (r : Result (Option DecodeError) AllocError)
      → IfOk r (λ f. MatchOption f (HasNoForm rule false) (IsReadError rule tag contents)) → IfOk r (IsWrongFault tag bit contents)
  refused_plain e n (Err a) h = tt
  refused_plain e n (Ok None) h = λ x. x.0 (subst (λ b. HasNoForm (rule_of tag) b) (sym e) (subst (λ z. HasNoForm z false) is h))
  refused_plain e n (Ok (Some x)) h = (
    allowed_plain false tag bit contents rule is e n,
    subst (λ b. IsContentsError (rule_of tag) tag b contents x) (sym e) (subst (λ z. IsReadError z tag contents x) is h),
  )
