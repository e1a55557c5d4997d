use Rattle.std.proofs.Common.{ap, ◌∙◌}
use Rattle.rasn_enc.specs.Extension.{group_tree}
use Rattle.rasn_enc.proofs.Constructed.Optional.{there_encoded, there_refused, left_out}
use Rattle.rasn_enc.proofs.ber.enc.Encoder.encode_extension_addition_group.Goals as goal
use Rattle.rasn_enc.proofs.ber.enc.Encoder.encode_extension_addition_group.Goals.{in_default-via-in-Some+else-is_present, in_default-via-in_default}

pub returns-in-Some-clause-ok : goal.returns-in-Some-clause-ok
returns-in-Some-clause-ok g c = there_encoded g.E.AsnType.shape _ _ _ _ (ap (group_tree g.E.AsnType.tree) c.in-Some.is) c.if-is_present.ensures _ _ c.encode.ensures.ok

pub returns-in-Some-clause-refused : goal.returns-in-Some-clause-refused
returns-in-Some-clause-refused g c = there_refused g.E.AsnType.shape _ _ _ _ (ap (group_tree g.E.AsnType.tree) c.in-Some.is) c.if-is_present.ensures _ c.encode.ensures.refused

pub returns-in_default-clause-ok : goal.returns-in_default-clause-ok
returns-in_default-clause-ok g c = left_out g.E.AsnType.shape _ _ (elim c.in_default.branch [
  | in_default-via-in-Some+else-is_present w ↦ ap (group_tree g.E.AsnType.tree) w.in-Some.is ∙ w.if-is_present.ensures
  | in_default-via-in_default w ↦ ap (group_tree g.E.AsnType.tree) w.in_default.is
])
