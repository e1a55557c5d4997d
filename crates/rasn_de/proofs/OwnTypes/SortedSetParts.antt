-- A SET is read where its parts are read inside.
use Rattle.std.proofs.Common.{◌≡◌, ◌≢◌, ◌-◌, ◌⊎◌, inl, ℕ, Bool, true, false, List, Result, Ok}
use Rattle.rasn_types.specs.declared.types.tag.Tag.{Tag}
use Rattle.rasn_types.specs.declared.error.decode.DecodeError.{DecodeError}
use Rattle.rasn_types.specs.Framing.{AreOctets}
use Rattle.rasn_types.specs.Shapes.{Tree, choice_by, sorted_set, Parts}
use Rattle.rasn_types.specs.Readings.{Reading}
use Rattle.rasn_types.specs.Grammar.{Reads}
use Rattle.rasn_de.specs.Headers.{Header}
use Rattle.rasn_de.specs.Segments.{octets_inside}
use Rattle.rasn_de.specs.State.{State, Call}
use Rattle.rasn_de.specs.Outcomes.{Exact, outcome}
use Rattle.rasn_de.specs.Decodes.{Decodes, DecodesBy}
use Rattle.rasn_de.specs.Constructed.{sequence_header, constructed_header_at, is_indefinite_extent, contents_state, DecodesInside}
use Rattle.rasn_de.specs.SetPartTypes.{MakesOfReadings, DecodesSetPartContents, set_by}
use Rattle.rasn_de.proofs.Constructed.Reads.{IsCut, held_decodes, held_constructed, constructed_held}
use Rattle.rasn_de.proofs.Constructed.SetContents.{slots_collected}
use Rattle.rasn_de.proofs.Constructed.SortedSetContents.{SortedSetReads, sorted_collects}
use Rattle.rasn_de.proofs.OwnTypes.SetPartTypes.{makes_members}
use Rattle.rasn_de.proofs.OwnTypes.SortedSets.{listed_decodes}

module _ {D : Type 0} (extensible : Bool) (ps : Parts) (tree : D → Tree) (names : List (List ℕ)) where
  abbrev pub Inside : Call D
  Inside = DecodesSetPartContents extensible ps tree names

  pub members_decode : (old : State) (r : Result D DecodeError) (new : State) → Inside old r new → DecodesBy (SortedSetReads extensible ps) tree old r new
  members_decode old r new k =
      let made = MakesOfReadings extensible ps tree names old.rule in
      sorted_collects extensible ps (λ (t : Tree). t) tree old (λ (l : List Tree). l) made (makes_members extensible ps tree names old.rule) r new (slots_collected (Decodes (choice_by extensible ps) (λ (t : Tree). t)) made old r new k)

  module _ (tag : Tag) (old : State) (o : old.depth ≢ 0 → AreOctets old.rest) where
    abbrev pub Contents : Bool → Reading Tree
    Contents c = SortedSetReads extensible ps old.rule (old.depth - 1) c

    inside_exact : (h : Header) → constructed_header_at (sequence_header tag) old.rule old.depth old.rest ≡ Ok h → (r : Result D DecodeError) (left : State) → Inside (contents_state (sequence_header tag) old h) r left
        → Exact (Contents (is_indefinite_extent h.extent)) (octets_inside h.extent h.rest) (outcome tree r left.rest) ⊎ IsCut (sequence_header tag) Contents old o h left.rest
    inside_exact h e r left k = inl (members_decode (contents_state (sequence_header tag) old h) r left k).exact

    pub sorted_parts_decode : (result : Result D DecodeError) (new : State) → DecodesInside Inside (sequence_header tag) old result new → Decodes (sorted_set extensible tag ps) tree old result new
    unfolding Reads
    sorted_parts_decode result new k =
        held_decodes (sequence_header tag) Contents old o tree Inside inside_exact (λ rule. Reads rule (sorted_set extensible tag ps)) (held_constructed tag 1 Contents old o old.rest) (constructed_held tag 1 Contents old o old.rest) result new k

pub set_parts_decode : {D : Type 0} (extensible : Bool) (ps : Parts) (tree : D → Tree) (tag : Tag) (old : State) (result : Result D DecodeError) (new : State) → Decodes (sorted_set extensible tag ps) tree old result new
    → Decodes (set_by extensible tag ps) tree old result new
set_parts_decode true ps tree tag old result new k = k
set_parts_decode false ps tree tag old result new k = listed_decodes ps tree tag old result new k
