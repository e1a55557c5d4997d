use Rattle.std.proofs.Common.{arith}
use Rattle.rasn_types.proofs.CharacterString.Texts.{length-units_of}
use Rattle.rasn_types.proofs.types.strings.bmp.UnitsIterator.size_hint.Goals as goal

pub returns-clause-lower : goal.returns-clause-lower
returns-clause-lower c = let k = length-units_of c.self.inside.octets.now in rw (← c.self.view_is) (λ _. omega arith)

pub returns-clause-upper : goal.returns-clause-upper
returns-clause-upper c = let k = length-units_of c.self.inside.octets.now in rw (← c.self.view_is) (tt, omega arith)
