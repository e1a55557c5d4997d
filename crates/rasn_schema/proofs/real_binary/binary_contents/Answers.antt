use Rattle.std.proofs.Common.{subst}
use Rattle.rasn_types.specs.Framing.{number_in}
use Rattle.rasn_types.specs.Contents.{IsCanonicalBinary}
use Rattle.rasn_schema.proofs.RealMade.{too_long}
use Rattle.rasn_schema.proofs.real_binary.binary_contents.Goals as goal

pub returns-then-exponent-gt255 : goal.returns-then-exponent-gt255
returns-then-exponent-gt255 c = λ octets i.
    too_long c.shortest-exponent.result.now _ c.shortest-exponent.ensures.octets c.shortest-exponent.ensures.short c.shortest-exponent.ensures.same c.if-exponent-gt255.true octets _ _ i

pub returns : goal.returns
returns c = subst (IsCanonicalBinary c.in_ok-number_contents.field-0.items c.args.is_negative (number_in 256 c.args.mantissa.now)) c.shortest-exponent.ensures.same c.in_ok-number_contents.ensures
