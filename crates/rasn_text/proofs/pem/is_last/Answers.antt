use Rattle.std.specs.Cmp.Lexicographic.{told_text}
use Rattle.rasn_text.proofs.PemBlocks.{whether_last}
use Rattle.rasn_text.proofs.pem.is_last.Goals as goal

pub returns-in-Some : goal.returns-in-Some
returns-in-Some c = whether_last c.args.line.now c.in-Some.last.now c.args.label.now c.eq.result c.in-Some.ensures (told_text _ _ _ c.eq.ensures)
