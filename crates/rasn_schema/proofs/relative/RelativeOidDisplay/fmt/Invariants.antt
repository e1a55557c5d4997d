use Rattle.std.proofs.Common.{◌++◌, take, flat_map, decimal}
use Rattle.std.specs.Fmt.{HasWritten, IsPlainFormatter}
use Rattle.rasn_types.specs.Text.{point_and_arc}
use Rattle.rasn_schema.proofs.relative.RelativeOidDisplay.fmt.Given as goal

abbrev pub invariant-loop-arc : goal.invariant-loop-arc
invariant-loop-arc g l =
    IsPlainFormatter l.fn.f → HasWritten g.W.Write.write_str_gives l.fn.f (decimal l.first ++ flat_map point_and_arc (take l.arc-index l.arc-items)) l.f
