use Rattle.rasn_enc.proofs.Leaves.ObjectIdentifier.{object_refused}
use Rattle.rasn_enc.proofs.ber.enc.object_identifier.ObjectIdentifierEncode.encode_with_tag_and_constraints.Goals as goal

pub returns-clause-refused : goal.returns-clause-refused
returns-clause-refused c = rw (← c.arcs.ensures.arcs) (object_refused _ c.args.tag c.args._constraints.now _ _ c.encode_object_identifier.ensures.fails)
