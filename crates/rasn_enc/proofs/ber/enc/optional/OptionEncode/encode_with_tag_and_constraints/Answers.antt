use Rattle.std.proofs.Common.{ap, ◌∙◌}
use Rattle.rasn_types.specs.Shapes.{tagged_as}
use Rattle.rasn_types.specs.Trees.{option_tree}
use Rattle.rasn_enc.proofs.Constructed.Optional.{there_encoded, there_refused, left_out}
use Rattle.rasn_enc.proofs.ber.enc.optional.OptionEncode.encode_with_tag_and_constraints.Goals as goal
use Rattle.rasn_enc.proofs.ber.enc.optional.OptionEncode.encode_with_tag_and_constraints.Goals.{in_default-via-in-Some+else-is_present, in_default-via-in_default}

pub returns-in-Some-clause-ok : goal.returns-in-Some-clause-ok
returns-in-Some-clause-ok g c = there_encoded (tagged_as c.args.tag c.args.constraints.now g.T.AsnType.shape) _ _ _ _ (ap (option_tree g.T.AsnType.tree) c.in-Some.is) c.if-is_present.ensures _ _ c.encode_with_tag_and_constraints.ensures.ok

pub returns-in-Some-clause-refused : goal.returns-in-Some-clause-refused
returns-in-Some-clause-refused g c = there_refused (tagged_as c.args.tag c.args.constraints.now g.T.AsnType.shape) _ _ _ _ (ap (option_tree g.T.AsnType.tree) c.in-Some.is) c.if-is_present.ensures _ c.encode_with_tag_and_constraints.ensures.refused

pub returns-in_default-clause-ok : goal.returns-in_default-clause-ok
returns-in_default-clause-ok g c = left_out (tagged_as c.args.tag c.args.constraints.now g.T.AsnType.shape) _ _ (elim c.in_default.branch [
  | in_default-via-in-Some+else-is_present w ↦ ap (option_tree g.T.AsnType.tree) w.in-Some.is ∙ w.if-is_present.ensures
  | in_default-via-in_default w ↦ ap (option_tree g.T.AsnType.tree) w.in_default.is
])
