use Rattle.std.proofs.Common.{rules, arith}
use Rattle.rasn_schema.specs.Trees.{tree_of}
use Rattle.rasn_dynamic.proofs.Unknown.{value_shorter}
use Rattle.rasn_dynamic.proofs.find.pass_unknown.Goals as goal

pub returns-in-Ok : goal.returns-in-Ok
returns-in-Ok c =
    let d = c.in-Ok.ensures.reads in
    let l = value_shorter _ _ _ d in
    (search rules, (tree_of c.in-Ok.value, d, λ e. omega (arith, l, e)))
