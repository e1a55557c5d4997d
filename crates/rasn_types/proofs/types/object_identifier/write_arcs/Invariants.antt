use Rattle.std.proofs.Common.{take, flat_map}
use Rattle.std.specs.Fmt.{HasWritten, IsPlainFormatter}
use Rattle.rasn_types.specs.Text.{point_and_arc}
use Rattle.rasn_types.proofs.types.object_identifier.write_arcs.Given as goal

abbrev pub invariant-loop-arc : goal.invariant-loop-arc
invariant-loop-arc g l =
    IsPlainFormatter l.initial.f → HasWritten g.W.Write.write_str_gives l.initial.f (flat_map point_and_arc (take l.arc-index l.fn.arcs)) l.f
