use Rattle.std.proofs.Common.{take, flat_map}
use Rattle.std.specs.Fmt.{HasWritten, IsPlainFormatter}
use Rattle.rasn_dynamic.specs.Paths.{point_and_index}
use Rattle.rasn_dynamic.proofs.path.write_indices.Given as goal

abbrev pub invariant-loop-index : goal.invariant-loop-index
invariant-loop-index g l =
    IsPlainFormatter l.initial.f → HasWritten g.W.Write.write_str_gives l.initial.f (flat_map point_and_index (take l.index-index l.fn.indices)) l.f
