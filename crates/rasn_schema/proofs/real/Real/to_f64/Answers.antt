use Rattle.std.proofs.Common.{sym, subst, to_bits, from_bits}
use Rattle.std.specs.Float.{binary64}
use Rattle.std.specs.Float.Ieee.{neg}
use Rattle.rasn_schema.specs.Reals.{HasBits, IsShownAs}
use Rattle.rasn_types.proofs.Integer.TwosComplement.{shortest_some}
use Rattle.rasn_schema.proofs.Doubles.{double_number, double_back, zero_back, minus_zero_back, infinity_back, minus_infinity_back, nan_back}
use Rattle.rasn_schema.proofs.real.Real.to_f64.Goals as goal

pub float_from_bits-result : goal.float_from_bits-result
float_from_bits-result c = double_number c.in-Some.bits _ _ _ c.in-Some.ensures

pub returns-in-Zero : goal.returns-in-Zero
returns-in-Zero c = subst (λ v. HasBits v (to_bits binary64 (from_bits binary64 0))) (sym c.in-Zero.is) zero_back

pub returns-in-MinusZero : goal.returns-in-MinusZero
returns-in-MinusZero c = subst (λ v. HasBits v (to_bits binary64 (neg (from_bits binary64 0)))) (sym c.in-MinusZero.is) minus_zero_back

pub returns-in-Infinity : goal.returns-in-Infinity
returns-in-Infinity c = subst (λ v. HasBits v (to_bits binary64 (from_bits binary64 0x7ff0_0000_0000_0000))) (sym c.in-Infinity.is) infinity_back

pub returns-in-MinusInfinity : goal.returns-in-MinusInfinity
returns-in-MinusInfinity c = subst (λ v. HasBits v (to_bits binary64 (from_bits binary64 0xfff0_0000_0000_0000))) (sym c.in-MinusInfinity.is) minus_infinity_back

pub returns-in-NotANumber : goal.returns-in-NotANumber
returns-in-NotANumber c = subst (λ v. HasBits v (to_bits binary64 (from_bits binary64 0x7ff8_0000_0000_0000))) (sym c.in-NotANumber.is) nan_back

pub returns-in-Some : goal.returns-in-Some
returns-in-Some c = subst (λ v. HasBits v (to_bits binary64 (from_bits binary64 c.in-Some.bits))) (sym c.in-Binary.is) (double_back c.in-Some.bits _ _ _ c.in-Some.ensures)

pub double_bits-requires-clause-some : goal.double_bits-requires-clause-some
double_bits-requires-clause-some c = shortest_some c.in-Binary.exponent.now (subst (λ v. IsShownAs c.requires.0 v) c.in-Binary.is c.requires.1).1
