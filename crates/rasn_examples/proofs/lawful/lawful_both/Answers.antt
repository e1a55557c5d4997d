use Rattle.std.proofs.Common.{arith, inr}
use Rattle.rasn_types.specs.Lawful.{IsLawful}
use Rattle.rasn.proofs.ReadBack.Headers.{no_eoc}
use Rattle.rasn_examples.proofs.lawful.lawful_both.Goals as goal

pub returns : goal.returns
unfolding IsLawful
returns g c = λ first first_solid second second_solid. (no_eoc 16 (omega arith), inr (first_solid, first, tt, inr (second_solid, second, tt, tt)))
