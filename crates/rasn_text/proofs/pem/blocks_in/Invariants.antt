use Rattle.std.proofs.Common.{◌++◌, ◌≤◌, ◌-◌, List, drop, length, map}
use Rattle.rasn_text.specs.declared.pem.Block.{Block}
use Rattle.rasn_text.specs.Pem.{AreBlocks}
use Rattle.rasn_text.proofs.pem.blocks_in.Given as goal

-- Blocks of the lines that are left follow those that were found.
abbrev pub invariant-loop-place : goal.invariant-loop-place
invariant-loop-place l = (l.place ≤ length l.lines) × ((bs : List Block) → AreBlocks (length l.lines) (drop l.place (map (λ x. x.now) l.lines)) bs → AreBlocks (length l.lines) (map (λ x. x.now) l.lines) (l.blocks.items ++ bs))

abbrev pub decreases-loop-place : goal.decreases-loop-place
decreases-loop-place l = length l.lines - l.place
