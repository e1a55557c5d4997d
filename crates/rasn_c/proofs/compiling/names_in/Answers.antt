use Rattle.std.proofs.Common.{refl, arith}
use Rattle.std.proofs.lemmas.Str.Pattern.{split_parts}
use Rattle.rasn_c.proofs.Compiled.{no_point}
use Rattle.rasn_c.proofs.compiling.names_in.Goals as goal

pub returns-in-Some : goal.returns-in-Some
returns-in-Some c =
    let parts = rw c.in-Some.is at (split_parts 46 c.args.name.now c.split_once.result c.split_once.ensures.cases (omega arith)) in
    (no_point c.in-Some.module.now parts.1, parts.0)

pub returns-in-None : goal.returns-in-None
returns-in-None c = (no_point c.args.name.now (rw c.in-None.is at (split_parts 46 c.args.name.now c.split_once.result c.split_once.ensures.cases (omega arith))), refl)
