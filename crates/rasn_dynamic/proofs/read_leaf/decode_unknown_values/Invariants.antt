use Rattle.std.proofs.Common.{◌≡◌, true, List, map, length, None}
use Rattle.rasn_types.specs.Shapes.{Tree, any}
use Rattle.rasn_de.specs.SequenceOf.{DecodesInTurn}
use Rattle.rasn_schema.specs.Trees.{tree_of}
use Rattle.rasn_schema.specs.Fitting.{AreOctets, EachFits}
use Rattle.rasn_dynamic.specs.Inside.{DecodesTree}
use Rattle.rasn_dynamic.proofs.read_leaf.decode_unknown_values.Given as goal

abbrev pub invariant-loop-decoder : goal.invariant-loop-decoder
invariant-loop-decoder g l = ((ts : List Tree) × (g.M.Made.KEEP ≡ true → map tree_of l.values.items ≡ ts) × DecodesInTurn (DecodesTree (any None)) l.fn.decoder ts l.decoder)
    × (g.M.Made.KEEP ≡ true → EachFits AreOctets l.values.items)

abbrev pub decreases-loop-decoder : goal.decreases-loop-decoder
decreases-loop-decoder g l = length l.decoder.rest
