use Rattle.rasn_de.proofs.Leaves.Integer.{empty_is}
use Rattle.rasn_lint.proofs.Steps.{nested_result}
use Rattle.rasn_lint.proofs.der.is_well_formed.Goals as goal

pub returns-then-encoding-clause-exact : goal.returns-then-encoding-clause-exact
returns-then-encoding-clause-exact c =
    nested_result c.args.octets.now c.in-Some.encoding.tag c.in-Some.encoding.is_constructed c.in-Some.encoding.contents.now c.in-Some.encoding.rest.now c.in-Some.ensures.frame c.are_encodings.result c.if-encoding.true
    (empty_is _ c.if-not-is_empty.ensures) c.if-not-is_allowed.ensures c.are_encodings.ensures
