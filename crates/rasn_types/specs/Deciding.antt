-- The rules by which `search` finds the law of a struct with a derived `==` from the laws of its fields.
use Rattle.std.proofs.Common.{ℕ, ℤ, List, Bool, ◌&&◌, Option}
use Rattle.std.specs.Prelude.{nat_eq}
use Rattle.std.specs.Bool.{beq}
use Rattle.std.specs.Option.{option_eq}
use Rattle.std.specs.Ordering.{int_eq}
use Rattle.std.specs.Cmp.{IsEquivalence, on_equiv, and_equiv, nat_eq_equiv, int_eq_equiv, bool_eq_equiv}
use Rattle.std.specs.Cmp.Lexicographic.{pointwise, lists_equiv, options_equiv}
use Rattle.rasn_types.specs.Equality.{part, last, no_parts, signed_decided, unsigned_decided, bool_decided, bits_decided, octets_decided, text_decided, day_decided, instant_decided, option_decided, list_decided, number_not_absent, numbers_not_absent, bits_not_absent, instant_not_absent, day_not_absent, bool_not_absent, list_not_absent, parts_not_absent, set_elements_not_absent}
use Rattle.rasn_types.specs.SetOf.{set_of_eq, set_of_equiv, set_of_told}

-- SET OF requires that `==` of its elements is an equivalence. It is one on what f selects of an element, and on all
-- parts.

module _ {K : Type 0} where
  pub flags_alike : (f : K → Bool) → IsEquivalence (λ x y. beq (f x) (f y))
  flags_alike f = on_equiv f bool_eq_equiv

  pub unsigned_alike : (f : K → ℕ) → IsEquivalence (λ x y. nat_eq (f x) (f y))
  unsigned_alike f = on_equiv f nat_eq_equiv

  pub signed_alike : (f : K → ℤ) → IsEquivalence (λ x y. int_eq (f x) (f y))
  signed_alike f = on_equiv f int_eq_equiv

  pub parts_alike : {E F : K → K → Bool} → IsEquivalence E → IsEquivalence F → IsEquivalence (λ x y. E x y && F x y)
  parts_alike e f = and_equiv e f

  pub options_alike : {X : Type 0} (f : K → Option X) (E : X → X → Bool) → IsEquivalence E → IsEquivalence (λ x y. option_eq E (f x) (f y))
  options_alike f E e = on_equiv f (options_equiv e)

  pub lists_alike : {X : Type 0} (f : K → List X) (E : X → X → Bool) → IsEquivalence E → IsEquivalence (λ x y. pointwise E (f x) (f y))
  lists_alike f E e = on_equiv f (lists_equiv e)

  pub sets_alike : {X : Type 0} (f : K → List X) (E : X → X → Bool) → IsEquivalence E → IsEquivalence (λ x y. set_of_eq E (f x) (f y))
  sets_alike f E e = on_equiv f (set_of_equiv e)

-- `Prim.search deciding depth 64` proves the law. The laws of type parameters and of your own CHOICE types are named
-- before `deciding`.
pub ruleset deciding = (last, part, no_parts, bool_decided, unsigned_decided, signed_decided, bits_decided, octets_decided, text_decided, day_decided, instant_decided, option_decided, list_decided, set_of_told, number_not_absent, numbers_not_absent, bits_not_absent, instant_not_absent, day_not_absent, bool_not_absent, list_not_absent, parts_not_absent, set_elements_not_absent, flags_alike, unsigned_alike, signed_alike, options_alike, lists_alike, sets_alike, options_equiv, lists_equiv, parts_alike)
