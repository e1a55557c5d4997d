-- A SEQUENCE is read if its contents are.
use Rattle.std.proofs.Common.{◌≡◌, ◌≢◌, ℕ, ◌-◌, ◌⊎◌, inl, inr, Bool, true, List, [], Option, Some, None, Result, Ok, Err, ap, subst}
use Rattle.std.specs.Prelude.{IfErr}
use Rattle.std.specs.declared.alloc.AllocError.{AllocError}
use Rattle.rasn_types.specs.declared.types.tag.Tag.{Tag}
use Rattle.rasn_types.specs.declared.types.codec.Codec.{Codec}
use Rattle.rasn_types.specs.declared.error.decode.DecodeError.{DecodeError}
use Rattle.rasn_types.specs.Framing.{AreOctets, Extent, definite, indefinite}
use Rattle.rasn_types.specs.Shapes.{Tree, seq, Parts}
use Rattle.rasn_types.specs.Readings.{Reading}
use Rattle.rasn_types.specs.Grammar.{Reads}
use Rattle.rasn_types.specs.Described.{describes}
use Rattle.rasn_de.specs.Headers.{Header}
use Rattle.rasn_de.specs.Segments.{octets_inside, end_at, end_of_contents_at}
use Rattle.rasn_de.specs.State.{State, IsEnd, Call, EachCall}
use Rattle.rasn_de.specs.Steps.{NamesRules}
use Rattle.rasn_de.specs.Outcomes.{Exact, outcome}
use Rattle.rasn_de.specs.Decodes.{Decodes, DecodesParts}
use Rattle.rasn_de.specs.Constructed.{sequence_header, constructed_header_at, is_indefinite_extent, contents_state, DecodesInside}
use Rattle.rasn_de.specs.Sequence.{is_read_by_initializer, MakesInitial, DecodesContents, MakesAllMissing}
use Rattle.rasn_de.proofs.Constructed.Reads.{Held, related, IsCut, held_decodes, held_constructed, constructed_held}
use Rattle.rasn_de.proofs.Constructed.Contents.{IsInside}
use Rattle.rasn_de.proofs.Constructed.Opening.{kept_same}
use Rattle.rasn_de.proofs.Any.Nothing.{parts_nothing}
use Rattle.rasn_de.proofs.Constructed.SequenceContents.{SeqReads, fills_exact}

-- The initializer leaves all, and the closure an end of it.
pub fills_leaves : {D : Type 0} (starts : List ℕ → Bool) (initial : State → Result D DecodeError → Type 0) (called : Call D)
    → EachCall called (λ o r n. IsEnd o.rest n.rest) → EachCall (DecodesContents starts initial called) (λ o r n. IsEnd o.rest n.rest)
fills_leaves starts initial called leaves o r n (inl (s, i, e)) = (kept_same o n e).end
fills_leaves starts initial called leaves o r n (inr (s, c)) = leaves o r n c

-- Errors name the rules where the initializer's and the closure's do.
pub initial_rules : {I D : Type 0} (made : I → Result D AllocError → Type 0) (init : Option I) (s : State) (r : Result D DecodeError) → MakesInitial made init s r → IfErr r (λ e. e.codec ≡ s.rule)
initial_rules made None s (Ok v) k = tt
initial_rules made None s (Err e) k = ap (λ (x : DecodeError). x.codec) k
initial_rules made (Some i) s (Ok v) k = tt
initial_rules made (Some i) s (Err e) k = ap (λ (x : DecodeError). x.codec) k.2

pub fills_rules : {D : Type 0} (starts : List ℕ → Bool) (initial : State → Result D DecodeError → Type 0) (called : Call D) → ((s : State) (r : Result D DecodeError) → initial s r → IfErr r (λ e. e.codec ≡ s.rule))
    → EachCall called NamesRules → EachCall (DecodesContents starts initial called) NamesRules
fills_rules starts initial called first names o r n (inl (s, i, e)) = first o r i
fills_rules starts initial called first names o r n (inr (s, c)) = names o r n c

-- At the end of an input nothing is read before end-of-contents octets.
cut_none : (rule : Codec) (parts : Parts) (depth : ℕ) (closing : Bool) (t : Tree) (l : List ℕ) → SeqReads parts rule depth closing [] t l → (closing ≡ true) → l ≡ []
cut_none rule parts depth closing t l (ts, e, inl (b, m, r)) c = let f = b.1 in cc
cut_none rule parts depth closing t l (ts, e, inr (b, r)) c = parts_nothing rule parts depth closing ts l r

cut_open : (x : Extent) (rest s : List ℕ) → is_indefinite_extent x ≡ true → end_at x rest [] ≡ Ok s → ⊥
unfolding end_of_contents_at
cut_open (definite c) rest s e f = cc
cut_open indefinite rest s e f = cc

-- the contents of a SEQUENCE of these parts
abbrev pub R : Parts → State → Bool → Reading Tree
R parts old c = SeqReads parts old.rule (old.depth - 1) c

module _ (tag : Tag) (parts : Parts) (old : State) (o : old.depth ≢ 0 → AreOctets old.rest) where
  -- an input that ends with an indefinite header
  cut_inside : (h : Header) → constructed_header_at (sequence_header tag) old.rule old.depth old.rest ≡ Ok h → is_indefinite_extent h.extent ≡ true → octets_inside h.extent h.rest ≡ [] → (t : Tree) (s : List ℕ)
      → Held (sequence_header tag) (R parts old) old o old.rest t s → ⊥
  cut_inside h e c i t s w = go (related (sequence_header tag) (R parts old) old o h e t s w)
    where
      go : IsInside (R parts old) h t s → ⊥
      go (m, y, k) =
          let z = cut_none old.rule parts (old.depth - 1) (is_indefinite_extent h.extent) t m (subst (λ u. R parts old (is_indefinite_extent h.extent) u t m) i y) c in
          cut_open h.extent h.rest s c (subst (λ u. end_at h.extent h.rest u ≡ Ok s) z k)

module _ {I D : Type 0} (root more : ℕ) (extensible flag : Bool) (parts : Parts) (d : describes root more extensible flag parts ≡ true) (tree : D → Tree) (made : I → Result D AllocError → Type 0) (init : Option I)
    (called : Call D) (tag : Tag) (old : State) (o : old.depth ≢ 0 → AreOctets old.rest)
    (H : EachCall called (DecodesParts parts tree)) (bare : MakesAllMissing parts tree made init) where
  abbrev pub Read : Call D
  Read = DecodesContents (is_read_by_initializer root extensible flag) (MakesInitial made init) called

  inside_exact : (h : Header) → constructed_header_at (sequence_header tag) old.rule old.depth old.rest ≡ Ok h → (r : Result D DecodeError) (left : State) → Read (contents_state (sequence_header tag) old h) r left
      → Exact (R parts old (is_indefinite_extent h.extent)) (octets_inside h.extent h.rest) (outcome tree r left.rest) ⊎ IsCut (sequence_header tag) (R parts old) old o h left.rest
  inside_exact h e r left k = elim (fills_exact root more extensible flag parts d tree made init bare called H (contents_state (sequence_header tag) old h) r left k) [
    | inl x ↦ inl x
    | inr (a, b, m) ↦ inr (record {
      none = cut_inside tag parts old o h e a b;
      unfinished = λ s f. cut_open h.extent h.rest s a (subst (λ u. end_at h.extent h.rest u ≡ Ok s) m f);
    })
  ]

  pub sequence_decodes : (result : Result D DecodeError) (new : State) → DecodesInside Read (sequence_header tag) old result new → Decodes (seq tag parts) tree old result new
  unfolding Reads
  sequence_decodes result new k =
      held_decodes (sequence_header tag) (R parts old) old o tree Read inside_exact (λ rule. Reads rule (seq tag parts)) (held_constructed tag 1 (R parts old) old o old.rest) (constructed_held tag 1 (R parts old) old o old.rest) result new k
