-- A value under an explicit tag is read if it is alone in the tag's contents.
use Rattle.std.proofs.Common.{◌≡◌, ◌≢◌, ℕ, ◌-◌, ◌⊎◌, inl, List, Bool, true, Result, Ok, refl}
use Rattle.rasn_types.specs.declared.types.tag.Tag.{Tag}
use Rattle.rasn_types.specs.declared.error.decode.DecodeError.{DecodeError}
use Rattle.rasn_types.specs.Framing.{AreOctets}
use Rattle.rasn_types.specs.Shapes.{Tree, Shape, prefix}
use Rattle.rasn_types.specs.Readings.{Reading}
use Rattle.rasn_types.specs.Grammar.{Reads}
use Rattle.rasn_de.specs.Headers.{Header}
use Rattle.rasn_de.specs.Segments.{octets_inside}
use Rattle.rasn_de.specs.State.{State}
use Rattle.rasn_de.specs.Outcomes.{Exact, outcome}
use Rattle.rasn_de.specs.Decodes.{Decodes}
use Rattle.rasn_de.specs.Constructed.{prefix_header, constructed_header_at, is_indefinite_extent, contents_state, DecodesInside}
use Rattle.rasn_de.proofs.Headers.Frames.{written_bit, as_it_is}
use Rattle.rasn_de.proofs.Constructed.Reads.{Held, IsCut, held_decodes}

module _ {D : Type 0} (tree : D → Tree) (s : Shape) (tag : Tag) (old : State) (o : old.depth ≢ 0 → AreOctets old.rest) where
  abbrev pub R : Bool → Reading Tree
  R c = Reads old.rule s (old.depth - 1) c

  inside_exact : (h : Header) → constructed_header_at (prefix_header tag) old.rule old.depth old.rest ≡ Ok h → (r : Result D DecodeError) (left : State) → Decodes s tree (contents_state (prefix_header tag) old h) r left
      → Exact (R (is_indefinite_extent h.extent)) (octets_inside h.extent h.rest) (outcome tree r left.rest) ⊎ IsCut (prefix_header tag) R old o h left.rest
  inside_exact h e r left k = inl k.exact

  there : (input : List ℕ) (t : Tree) (r : List ℕ) → Held (prefix_header tag) R old o input t r → Reads old.rule (prefix tag s) old.depth old.closing input t r
  unfolding Reads
  there input t r (n, bit, q, i) = (n, bit, written_bit old.rule tag tag true bit q.1, i)

  back : (input : List ℕ) (t : Tree) (r : List ℕ) → Reads old.rule (prefix tag s) old.depth old.closing input t r → Held (prefix_header tag) R old o input t r
  unfolding Reads
  back input t r (n, bit, w, i) = (n, bit, (refl, as_it_is old.rule tag true bit w), i)

  pub prefix_decodes : (result : Result D DecodeError) (new : State) → DecodesInside (Decodes s tree) (prefix_header tag) old result new → Decodes (prefix tag s) tree old result new
  prefix_decodes result new k = held_decodes (prefix_header tag) R old o tree (Decodes s tree) inside_exact (λ rule. Reads rule (prefix tag s)) (there old.rest) (back old.rest) result new k
