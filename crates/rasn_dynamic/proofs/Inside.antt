-- A value that holds others is read if its contents are.
use Rattle.std.proofs.Common.{◌≡◌, ◌≢◌, ℕ, ◌-◌, ◌⊎◌, inl, Bool, Result, Ok, subst}
use Rattle.rasn_types.specs.declared.types.tag.Tag.{Tag}
use Rattle.rasn_types.specs.declared.error.decode.DecodeError.{DecodeError}
use Rattle.rasn_types.specs.Framing.{AreOctets}
use Rattle.rasn_types.specs.Shapes.{Tree, Shape, leaf, any, prefix, choice, open_choice, option, seq, set, sorted_set, list, set_of, unknown, Parts}
use Rattle.rasn_types.specs.Readings.{Reading}
use Rattle.rasn_types.specs.Grammar.{Reads}
use Rattle.rasn_de.specs.Headers.{Header}
use Rattle.rasn_de.specs.Segments.{octets_inside}
use Rattle.rasn_de.specs.State.{State}
use Rattle.rasn_de.specs.Outcomes.{Exact, outcome}
use Rattle.rasn_de.specs.Decodes.{Decodes, DecodesBy}
use Rattle.rasn_de.specs.declared.ber.de.constructed.ConstructedHeader.{ConstructedHeader}
use Rattle.rasn_de.specs.Constructed.{sequence_header, prefix_header, constructed_header_at, is_indefinite_extent, contents_state, DecodesInside}
use Rattle.rasn_de.proofs.Constructed.Reads.{IsCut, held_decodes, held_constructed, constructed_held}
use Rattle.rasn_de.proofs.Constructed.Prefix.{prefix_decodes}
use Rattle.rasn_dynamic.specs.Inside.{ReadsInside, IsHeaderOf}

abbrev itself : Tree → Tree
itself t = t

module _ (old : State) (o : old.depth ≢ 0 → AreOctets old.rest) (r : Result Tree DecodeError) (new : State) where
  abbrev pub Inner : Shape → ℕ → Bool → Reading Tree
  Inner s levels c = ReadsInside s old.rule (old.depth - levels) c

  abbrev pub Call : Shape → ConstructedHeader → Type 0
  Call s d = DecodesInside (DecodesBy (ReadsInside s) itself) d old r new

  answers : (s : Shape) (d : ConstructedHeader) (h : Header) → constructed_header_at d old.rule old.depth old.rest ≡ Ok h → (q : Result Tree DecodeError) (left : State)
      → DecodesBy (ReadsInside s) itself (contents_state d old h) q left
      → Exact (Inner s d.levels (is_indefinite_extent h.extent)) (octets_inside h.extent h.rest) (outcome itself q left.rest) ⊎ IsCut d (Inner s d.levels) old o h left.rest
  answers s d h e q left w = inl w.exact

  as_prefix : (tag : Tag) (s : Shape) → Call (prefix tag s) (prefix_header tag) → Decodes (prefix tag s) itself old r new
  unfolding ReadsInside
  as_prefix tag s k = prefix_decodes itself s tag old o r new k

  as_seq : (tag : Tag) (ps : Parts) → Call (seq tag ps) (sequence_header tag) → Decodes (seq tag ps) itself old r new
  unfolding Reads ReadsInside
  as_seq tag ps k =
      let R = Inner (seq tag ps) 1 in
      held_decodes (sequence_header tag) R old o itself (DecodesBy (ReadsInside (seq tag ps)) itself) (answers (seq tag ps) (sequence_header tag)) (λ rule. Reads rule (seq tag ps))
      (held_constructed tag 1 R old o old.rest) (constructed_held tag 1 R old o old.rest) r new k

  as_set : (tag : Tag) (ps : Parts) → Call (set tag ps) (sequence_header tag) → Decodes (set tag ps) itself old r new
  unfolding Reads ReadsInside
  as_set tag ps k =
      let R = Inner (set tag ps) 1 in
      held_decodes (sequence_header tag) R old o itself (DecodesBy (ReadsInside (set tag ps)) itself) (answers (set tag ps) (sequence_header tag)) (λ rule. Reads rule (set tag ps))
      (held_constructed tag 1 R old o old.rest) (constructed_held tag 1 R old o old.rest) r new k

  as_sorted_set : (extensible : Bool) (tag : Tag) (ps : Parts) → Call (sorted_set extensible tag ps) (sequence_header tag) → Decodes (sorted_set extensible tag ps) itself old r new
  unfolding Reads ReadsInside
  as_sorted_set extensible tag ps k =
      let s = sorted_set extensible tag ps in
      let R = Inner s 1 in
      held_decodes (sequence_header tag) R old o itself (DecodesBy (ReadsInside s) itself) (answers s (sequence_header tag)) (λ rule. Reads rule s)
      (held_constructed tag 1 R old o old.rest) (constructed_held tag 1 R old o old.rest) r new k

  pub inside_decodes : (s : Shape) (d : ConstructedHeader) → IsHeaderOf s d → Call s d → Decodes s itself old r new
  inside_decodes (leaf kind tag bounds) d h k = absurd h
  inside_decodes (any tag) d h k = absurd h
  inside_decodes (prefix tag s) d h k = as_prefix tag s (subst (Call (prefix tag s)) h k)
  inside_decodes (choice ps) d h k = absurd h
  inside_decodes (open_choice ps) d h k = absurd h
  inside_decodes (option tag s) d h k = absurd h
  inside_decodes (seq tag ps) d h k = as_seq tag ps (subst (Call (seq tag ps)) h k)
  inside_decodes (set tag ps) d h k = as_set tag ps (subst (Call (set tag ps)) h k)
  inside_decodes (sorted_set extensible tag ps) d h k = as_sorted_set extensible tag ps (subst (Call (sorted_set extensible tag ps)) h k)
  inside_decodes (list tag s size) d h k = absurd h
  inside_decodes (set_of tag s size) d h k = absurd h
  inside_decodes unknown d h k = absurd h
