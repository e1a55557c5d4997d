use Rattle.std.proofs.Common.{◌≡◌, pos, ap, ◌∙◌}
use Rattle.std.proofs.lemmas.Result.{IfOk-weaker}
use Rattle.rasn_types.specs.Framing.{number_in}
use Rattle.rasn_types.specs.Contents.{signed}
use Rattle.rasn_types.proofs.Integer.TwosComplement.{are_octets}
use Rattle.rasn_schema.proofs.RealViews.{number_of_zeros, zeros_of_number}
use Rattle.rasn_schema.proofs.Exponents.{times_one}
use Rattle.rasn_schema.proofs.RealMade.{no_odd_part, of_binary}
use Rattle.rasn_schema.proofs.real_binary.contents_of_binary.Goals as goal

pub returns-then-is_zero : goal.returns-then-is_zero
returns-then-is_zero c = λ octets w. no_odd_part (number_in 256 c.args.mantissa.now) w.0 w.1 (number_of_zeros c.args.mantissa.now c.if-is_zero.ensures) w.2

pub odd_part-requires : goal.odd_part-requires
odd_part-requires c = λ e. c.if-is_zero.ensures (zeros_of_number c.args.mantissa.now (are_octets c.args.mantissa.now c.type_inv.mantissa) e)

pub returns : goal.returns
returns c =
    IfOk-weaker c.binary_contents.result _ _
    (λ found h. of_binary c.args.is_negative (number_in 256 c.args.mantissa.now) (signed c.args.exponent.now) _ (number_in 256 c.in_ok-odd.odd.items) c.in_ok-odd.zeros _ found c.in_ok-odd.ensures.1
    (ap signed c.deref-2.ensures.value ∙ (c.in_ok-exponent.ensures.is ∙ times_one (signed c.args.exponent.now) (pos c.in_ok-odd.zeros))) (ap (number_in 256) c.deref.ensures.value) h)
    c.binary_contents.ensures
