use Rattle.std.proofs.Common.{◌≡◌, ◌++◌, ◌-◌, ◌*◌, ◌^◌, ◌∷◌, ◌+◌, ◌<◌, Fits, w64, rules, arith, length-append, length, sym, ap, ◌∙◌, subst}
use Rattle.rasn_types.specs.Contents.{number_of_digits, sign_text, IsShortestExponent}
use Rattle.rasn_schema.specs.Numerals.{IsTenPart, digits_of, exponent_or_zero, moved_exponent}
use Rattle.rasn_schema.proofs.Places.{moved_is}
use Rattle.rasn_schema.proofs.RealTexts.{not_empty}
use Rattle.rasn_schema.proofs.RealDecimals.{TenPart, ten_part, nothing_left, is_nothing, canonical_items}
use Rattle.rasn_schema.proofs.RealNumerals.{of_zero}
use Rattle.rasn_schema.proofs.real_decimal.contents_of.Goals as goal

pub returns-then-is_empty : goal.returns-then-is_empty
returns-then-is_empty c =
    let n = c.args.numeral.now in
    let d : c.deref.result.now ≡ n.whole.now ++ n.after.now = c.deref.ensures.value ∙ (c.in_ok-extend_from_slice.ensures.items ∙ ap (λ z. z ++ n.after.now) c.in_ok-digits.ensures.items) in
    of_zero n (ap number_of_digits (sym d) ∙ nothing_left c.deref.result.now c.without_zeros_after-kept.result.now c.without_zeros-shown.result.now (length c.deref.result.now - length c.without_zeros_after-kept.result.now)
    c.without_zeros_after-kept.ensures.same c.without_zeros-shown.ensures.same (is_nothing c.is_empty.result c.without_zeros-shown.result.now c.is_empty.ensures c.if-is_empty.true))

pub returns : goal.returns
returns c =
    let n = c.args.numeral.now in
    let shift = c.len.result - length c.without_zeros_after-kept.result.now in
    let d : c.deref.result.now ≡ n.whole.now ++ n.after.now = c.deref.ensures.value ∙ (c.in_ok-extend_from_slice.ensures.items ∙ ap (λ z. z ++ n.after.now) c.in_ok-digits.ensures.items) in
    let e : length c.deref.result.now ≡ c.len.result = c.deref.ensures.len ∙ sym c.len.ensures in
    let t : TenPart c.deref.result.now c.without_zeros-shown.result.now shift =
    ten_part c.deref.result.now c.without_zeros_after-kept.result.now c.without_zeros-shown.result.now shift c.without_zeros_after-kept.ensures.all c.without_zeros-shown.ensures.all
    (subst (λ z. number_of_digits c.deref.result.now ≡ number_of_digits c.without_zeros_after-kept.result.now * 10 ^ (z - length c.without_zeros_after-kept.result.now)) e c.without_zeros_after-kept.ensures.same)
    c.without_zeros-shown.ensures.same c.without_zeros-shown.ensures.short c.without_zeros_after-kept.ensures.short
    (not_empty c.is_empty.result c.without_zeros-shown.result.now c.is_empty.ensures c.if-is_empty.false) in
    let m = number_of_digits c.without_zeros-shown.result.now in
    let p : IsTenPart (digits_of n) m shift = (t.last, ap number_of_digits (sym d) ∙ t.is.1) in
    let w : Fits w64 c.len.result = search rules in
    let f = w.fits in
    let g = ap length d ∙ length-append n.whole.now n.after.now in
    let zeros_few : shift < 2 ^ 64 = omega arith in
    let after_few : length n.after.now < 2 ^ 64 = omega arith in
    let x = subst (IsShortestExponent c.in_ok-exponent.exponent.items) (moved_is (exponent_or_zero n.exponent) shift (length n.after.now) zeros_few after_few) c.in_ok-exponent.ensures in (
      m,
      shift,
      p,
      canonical_items c.in_ok-contents.contents.items c.without_zeros-shown.result.now c.in_ok-exponent.exponent.items n.is_negative (moved_exponent n shift)
          (c.in_ok-contents.ensures ∙ ap (λ z. 3 ∷ (sign_text n.is_negative ++ (c.without_zeros-shown.result.now ++ 46 ∷ 69 ∷ z))) c.deref-2.ensures.value) t.first t.last x,
    )
