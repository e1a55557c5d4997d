-- A SET is read where its components are, and a function makes them its parts.
use Rattle.std.proofs.Common.{◌≡◌, ◌≢◌, ℕ, ◌-◌, ◌⊎◌, inl, inr, Bool, List, map, Result, Ok, Err, subst}
use Rattle.rasn_types.specs.declared.types.tag.Tag.{Tag}
use Rattle.rasn_types.specs.declared.error.decode.DecodeError.{DecodeError}
use Rattle.rasn_types.specs.Framing.{AreOctets}
use Rattle.rasn_types.specs.Shapes.{Tree, Shape, choice, set, Parts}
use Rattle.rasn_types.specs.Readings.{Reading}
use Rattle.rasn_types.specs.Grammar.{Reads}
use Rattle.rasn_de.specs.Headers.{Header}
use Rattle.rasn_de.specs.Segments.{octets_inside}
use Rattle.rasn_de.specs.State.{State, IsEnd, Call}
use Rattle.rasn_de.specs.Outcomes.{Exact, outcome}
use Rattle.rasn_de.specs.Decodes.{Decodes}
use Rattle.rasn_de.specs.Constructed.{sequence_header, constructed_header_at, is_indefinite_extent, contents_state, DecodesInside}
use Rattle.rasn_de.specs.SequenceOf.{DecodesInTurnFrom, FailsAtElement}
use Rattle.rasn_de.specs.Set.{FailsAtComponent, no_tag, falls, not_read, DecodesComponents, DecodesSetContents, MakesSet}
use Rattle.rasn_de.proofs.Constructed.Reads.{IsCut, held_decodes, held_constructed, constructed_held}
use Rattle.rasn_de.proofs.Constructed.SetOfElements.{came}
use Rattle.rasn_de.proofs.Constructed.Opening.{kept_same}
use Rattle.rasn_de.proofs.Headers.Ends.{IsEnd-trans}
use Rattle.rasn_de.proofs.Constructed.SetContents.{SetReads, set_collects}

-- Components that are read, or the one that isn't, leave an end of the input.
module _ {F : Type 0} (s : Shape) (piece : F → Tree) where
  passed_leaves : (old here : State) (vs : List F) (bs : List (List ℕ)) → DecodesInTurnFrom (Decodes s piece) old vs bs here → IsEnd old.rest here.rest
  passed_leaves old here vs bs p = (came s piece old here vs bs p).come.1

  stops_leaves : (here : State) (e : DecodeError) (new : State) → FailsAtElement (Decodes s piece) here e new → IsEnd here.rest new.rest
  stops_leaves here e new (inl k) = k.end
  stops_leaves here e new (inr (v, k, x)) = k.end

  unread_leaves : (bs : List (List ℕ)) (here : State) (e : DecodeError) (new : State) → FailsAtComponent (FailsAtElement (Decodes s piece)) bs here e new → IsEnd here.rest new.rest
  unread_leaves bs here e new (no_tag a p q) = (kept_same here new q).end
  unread_leaves bs here e new (falls a t n f w q) = (kept_same here new q).end
  unread_leaves bs here e new (not_read f w) = stops_leaves here e new w

  pub collects_leaves : {S L : Type 0} (elements : L → List F) (by : L → Result S DecodeError → Type 0) (old : State) (r : Result S DecodeError) (new : State)
      → DecodesSetContents (DecodesComponents (Decodes s piece) elements) by old r new → IsEnd old.rest new.rest
  collects_leaves elements by old (Ok v) new (fields, p, m) = passed_leaves old new (elements fields) p.0 p.1.0
  collects_leaves elements by old (Err e) new (inl (vs, bs, here, (p, o), n, u)) = IsEnd-trans old.rest here.rest new.rest (passed_leaves old here vs bs p) (unread_leaves bs here e new u)
  collects_leaves elements by old (Err e) new (inr (fields, p, m)) = passed_leaves old new (elements fields) p.0 p.1.0

-- A function is called on components that are read.
pub collects_called : {F S L : Type 0} (read : Call F) (elements : L → List F) (by : L → Result S DecodeError → Type 0) (old : State) (fields : L) (r : Result S DecodeError) (new : State)
    → DecodesComponents read elements old (Ok fields) new → by fields r → DecodesSetContents (DecodesComponents read elements) by old r new
collects_called read elements by old fields (Ok v) new h m = (fields, h, m)
collects_called read elements by old fields (Err e) new h m = inr (fields, h, m)

module _ {F S L : Type 0} (s : Shape) (ps : Parts) (same : s ≡ choice ps) (piece : F → Tree) (tree : S → Tree) (elements : L → List F) (by : L → Result S DecodeError → Type 0)
    (tag : Tag) (old : State) (o : old.depth ≢ 0 → AreOctets old.rest) (H : (fs : L) (r : Result S DecodeError) → by fs r → MakesSet ps tree (map piece (elements fs)) r) where
  abbrev pub Read : Call S
  Read = DecodesSetContents (DecodesComponents (Decodes s piece) elements) by

  abbrev pub R : Bool → Reading Tree
  R c = SetReads ps old.rule (old.depth - 1) c

  inside_exact : (h : Header) → constructed_header_at (sequence_header tag) old.rule old.depth old.rest ≡ Ok h → (r : Result S DecodeError) (left : State) → Read (contents_state (sequence_header tag) old h) r left
      → Exact (R (is_indefinite_extent h.extent)) (octets_inside h.extent h.rest) (outcome tree r left.rest) ⊎ IsCut (sequence_header tag) R old o h left.rest
  inside_exact h e r left k =
      let i = contents_state (sequence_header tag) old h in
      inl (set_collects ps piece tree i elements by H r left (subst (λ z. DecodesSetContents (DecodesComponents (Decodes z piece) elements) by i r left) same k)).exact

  pub set_decodes : (result : Result S DecodeError) (new : State) → DecodesInside Read (sequence_header tag) old result new → Decodes (set tag ps) tree old result new
  unfolding Reads
  set_decodes result new k =
      held_decodes (sequence_header tag) R old o tree Read inside_exact (λ rule. Reads rule (set tag ps)) (held_constructed tag 1 R old o old.rest) (constructed_held tag 1 R old o old.rest) result new k
