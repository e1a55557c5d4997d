-- What a call of a decoder returns.
use Rattle.std.specs.Prelude.{◌≡◌, ℕ, List, Bool}
use Rattle.rasn_types.specs.declared.types.codec.Codec.{Codec}
use Rattle.rasn_types.specs.Shapes.{Shape, Tree, items, Parts}
use Rattle.rasn_types.specs.Readings.{Reading, ReadsInOrder}
use Rattle.rasn_types.specs.Grammar.{Reads, parts_of}
use Rattle.rasn_de.specs.State.{State, at, IsEnd, Call}
use Rattle.rasn_de.specs.Outcomes.{Exact, Outcome, outcome}

-- A call that reads by R: its outcome is exactly what R relates to the remaining input, it leaves a suffix of that
-- input, and it changes nothing else. R takes the rules, the remaining depth, and whether end-of-contents octets may
-- end the contents.
pub record DecodesExactly (R : Codec → ℕ → Bool → Reading Tree) (old : State) (o : Outcome) (new : State) : Type 0 where
  pub stays : new ≡ at old new.rest
  pub end : IsEnd old.rest new.rest
  pub exact : Exact (R old.rule old.depth old.closing) old.rest o

-- What a call that reads by R returns, if tree gives the tree of each value.
abbrev pub DecodesBy : {T : Type 0} → (Codec → ℕ → Bool → Reading Tree) → (T → Tree) → Call T
DecodesBy R tree old result new = DecodesExactly R old (outcome tree result new.rest) new

-- A value of the shape is decoded.
abbrev pub Decodes : {T : Type 0} → Shape → (T → Tree) → Call T
Decodes shape tree old result new = DecodesBy (λ rule. Reads rule shape) tree old result new

-- Parts are read in their order, as the list of their trees.
unfoldable pub ReadsParts : Parts → Codec → ℕ → Bool → Reading Tree
ReadsParts parts rule depth closing input t rest = (ts : List Tree) × (t ≡ items ts) × ReadsInOrder rule (parts_of rule parts depth closing) closing input ts rest

abbrev pub DecodesParts : {T : Type 0} → Parts → (T → Tree) → Call T
DecodesParts parts tree old result new = DecodesBy (ReadsParts parts) tree old result new
