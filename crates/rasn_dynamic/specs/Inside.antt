-- The contents of a value that holds others, and its header. Lists and sets of elements are in Typed.antt, since their size is asked after their end.
use Rattle.std.specs.Prelude.{◌≡◌, ℕ, Bool}
use Rattle.rasn_types.specs.declared.types.codec.Codec.{Codec}
use Rattle.rasn_types.specs.Shapes.{Tree, Shape, leaf, any, prefix, choice, open_choice, option, seq, set, sorted_set, list, set_of, unknown, presences, count, IsFirstOf, Parts, Presence, sought_in}
use Rattle.rasn_types.specs.Readings.{Reading, ReadsPart, ReadsSeq, ReadsChoice, ReadsSet, ReadsSortedSet}
use Rattle.rasn_types.specs.Grammar.{Reads, parts_of, ReadsOpenChoice}
use Rattle.rasn_de.specs.State.{Call}
use Rattle.rasn_de.specs.Decodes.{Decodes, DecodesBy}
use Rattle.rasn_de.specs.declared.ber.de.constructed.ConstructedHeader.{ConstructedHeader}
use Rattle.rasn_de.specs.Constructed.{sequence_header, prefix_header}

unfoldable pub ReadsInside : Shape → Codec → ℕ → Bool → Reading Tree
ReadsInside (leaf kind tag bounds) rule depth closing = λ input t rest. ⊥
ReadsInside (any tag) rule depth closing = λ input t rest. ⊥
ReadsInside (prefix tag s) rule depth closing = Reads rule s depth closing
ReadsInside (choice ps) rule depth closing = λ input t rest. ⊥
ReadsInside (open_choice ps) rule depth closing = λ input t rest. ⊥
ReadsInside (option tag s) rule depth closing = λ input t rest. ⊥
ReadsInside (seq tag ps) rule depth closing = ReadsSeq rule (parts_of rule ps depth closing) closing
ReadsInside (set tag ps) rule depth closing = ReadsSet rule (presences ps) (ReadsChoice rule 0 (parts_of rule ps depth closing)) closing
ReadsInside (sorted_set extensible tag ps) rule depth closing =
    ReadsSortedSet rule extensible (presences ps) (count ps) (ReadsOpenChoice rule (IsFirstOf ps) (count ps) (ReadsChoice rule 0 (parts_of rule ps depth closing))) closing
ReadsInside (list tag s size) rule depth closing = λ input t rest. ⊥
ReadsInside (set_of tag s size) rule depth closing = λ input t rest. ⊥
ReadsInside unknown rule depth closing = λ input t rest. ⊥

abbrev pub IsHeaderOf : Shape → ConstructedHeader → Type 0
IsHeaderOf (leaf kind tag bounds) d = ⊥
IsHeaderOf (any tag) d = ⊥
IsHeaderOf (prefix tag s) d = d ≡ prefix_header tag
IsHeaderOf (choice ps) d = ⊥
IsHeaderOf (open_choice ps) d = ⊥
IsHeaderOf (option tag s) d = ⊥
IsHeaderOf (seq tag ps) d = d ≡ sequence_header tag
IsHeaderOf (set tag ps) d = d ≡ sequence_header tag
IsHeaderOf (sorted_set extensible tag ps) d = d ≡ sequence_header tag
IsHeaderOf (list tag s size) d = ⊥
IsHeaderOf (set_of tag s size) d = ⊥
IsHeaderOf unknown d = ⊥

-- the components of a SEQUENCE
abbrev pub ReadsSequence : Parts → Codec → ℕ → Bool → Reading Tree
ReadsSequence ps rule depth closing = ReadsSeq rule (parts_of rule ps depth closing) closing

-- one of them
abbrev pub ReadsComponent : Presence → Shape → Codec → ℕ → Bool → Reading Tree
ReadsComponent p s rule depth closing = ReadsPart rule p (sought_in p s) (Reads rule s depth closing) closing

-- ---- what is read, as a tree

abbrev pub DecodesTree : Shape → Call Tree
DecodesTree s = Decodes s (λ (t : Tree). t)

-- a component of a SEQUENCE
abbrev pub DecodesComponent : Presence → Shape → Call Tree
DecodesComponent p s = DecodesBy (ReadsComponent p s) (λ (t : Tree). t)
