-- Octets that are no whole value, and octets that are one.
use Rattle.std.proofs.Common.{[], pos}
use Rattle.rasn_types.specs.Shapes.{number}
use Rattle.rasn.proofs.Worked.Octets.{worked}
use Rattle.rasn_c.specs.WorkedWhole.{WorkedWhole}

pub worked_whole : WorkedWhole
worked_whole = record {
  five_is_refused_by_cer = λ t h. worked.strict_true t [] h;
  five_is_true_by_ber = λ h. h (number (pos 1)) worked.lenient_true;
  memory_may_run_out = λ rule s octets. tt;
  no_whole_value_is_a_refusal = λ rule s octets h. h;
}
