use Rattle.std.proofs.Common.{◌≡◌, map, take}
use Rattle.rasn_schema_octets.proofs.list.forms_of.Given as goal

abbrev pub invariant-loop-part : goal.invariant-loop-part
invariant-loop-part g l = map g.F.AsnType.tree l.forms.items ≡ map g.T.Mirrored.says (take l.part-index l.parts)
