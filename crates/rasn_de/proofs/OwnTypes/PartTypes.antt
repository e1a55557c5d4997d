-- A SEQUENCE is read where its parts are read inside, one of which is required or none an addition: empty contents leave all of them out.
use Rattle.std.proofs.Common.{◌≡◌, ◌≢◌, ℕ, ◌⊎◌, ◌||◌, ◌&&◌, not, inl, inr, Bool, true, false, List, [], ◌∷◌, Option, Some, None, Result, Ok, refl, ap, sym, ◌∙◌, subst}
use Rattle.rasn_types.specs.declared.types.tag.Tag.{Tag}
use Rattle.rasn_types.specs.declared.types.codec.Codec.{Codec}
use Rattle.rasn_types.specs.declared.error.decode.DecodeError.{DecodeError}
use Rattle.rasn_types.specs.Tags.{Form, form}
use Rattle.rasn_types.specs.Framing.{AreOctets}
use Rattle.rasn_types.specs.Shapes.{Shape, Tree, seq, Parts, part, required, addition, optional_by, default_by, own, Sought, one_tag, any_of, sought_by, looked_for}
use Rattle.rasn_types.specs.Shapes.Parts.{none}
use Rattle.rasn_types.specs.Readings.{ReadsInOrder, AllMissing, presences_in, IsLeftOut, IsPresent}
use Rattle.rasn_types.specs.Grammar.{Reads, parts_of}
use Rattle.rasn_types.specs.Described.{has_required, has_addition}
use Rattle.rasn_types.proofs.Time.Spellings.{both_true}
use Rattle.rasn_de.specs.Headers.{Header}
use Rattle.rasn_de.specs.Segments.{octets_inside}
use Rattle.rasn_de.specs.State.{State, Call, EachCall}
use Rattle.rasn_de.specs.Outcomes.{Exact, outcome}
use Rattle.rasn_de.specs.Decodes.{Decodes, DecodesParts, ReadsParts}
use Rattle.rasn_de.specs.Constructed.{sequence_header, constructed_header_at, is_indefinite_extent, contents_state, DecodesInside}
use Rattle.rasn_de.specs.PartTypes.{same_own, is_looked_for, needs_no_initializer}
use Rattle.rasn_de.proofs.Headers.Frames.{same_tag_is}
use Rattle.rasn_de.proofs.Constructed.Reads.{Exact-same, IsCut, held_decodes, held_constructed, constructed_held}
use Rattle.rasn_de.proofs.Constructed.SequenceContents.{SeqReads, required_part, no_required}
use Rattle.rasn_de.proofs.Constructed.Sequence.{R}

pub same_own_is : (a b : Option Tag) → same_own a b ≡ true → a ≡ b
same_own_is None None e = refl
same_own_is (Some a) (Some b) e = ap (λ t. Some t) (same_tag_is a b e)
same_own_is None (Some b) e = cc
same_own_is (Some a) None e = cc

-- The tags of a part and of those after it agree.
pub first_agrees : (s : Shape) (tag : Tag) (b : Bool) → is_looked_for s tag && b ≡ true → own s ≡ looked_for tag
first_agrees s tag b e = same_own_is (own s) (looked_for tag) (both_true (is_looked_for s tag) b e).0

pub others_agree : (s : Shape) (tag : Tag) (b : Bool) → is_looked_for s tag && b ≡ true → b ≡ true
others_agree s tag b e = (both_true (is_looked_for s tag) b e).1

left_out : (f : Form) (tags : Sought) (closing : Bool) → IsLeftOut f tags closing []
left_out f (one_tag None) closing = inl refl
left_out f (one_tag (Some t)) closing = inl (inl refl)
left_out f (any_of P) closing = inl (inl refl)

not_present : (f : Form) (tags : Sought) (closing : Bool) → IsPresent f tags closing [] → ⊥
not_present f (one_tag None) closing h = h (inl refl)
not_present f (one_tag (Some t)) closing h = h.0 (inl refl)
not_present f (any_of P) closing h = h.0 (inl refl)

-- Of nothing all parts are read as left out.
all_left : (rule : Codec) (ps : Parts) (depth : ℕ) (closing : Bool) → has_addition ps ≡ false → (ts : List Tree) → AllMissing (presences_in (parts_of rule ps depth closing)) ts
    → ReadsInOrder rule (parts_of rule ps depth closing) closing [] ts []
unfolding parts_of
all_left rule none depth closing n ts m = (m, refl)
all_left rule (part required s ps) depth closing n ts (t, us, e, m, r) = absurd m
all_left rule (part addition s ps) depth closing n ts m = cc
all_left rule (part (optional_by key) s ps) depth closing n ts (t, us, e, m, r) = (t, us, [], e, inl (left_out (form rule) (sought_by key s) closing, m, refl), all_left rule ps depth closing n us r)
all_left rule (part (default_by key d) s ps) depth closing n ts (t, us, e, m, r) = (t, us, [], e, inl (left_out (form rule) (sought_by key s) closing, m, refl), all_left rule ps depth closing n us r)

left_all : (rule : Codec) (ps : Parts) (depth : ℕ) (closing : Bool) → has_addition ps ≡ false → has_required ps ≡ false → (ts : List Tree) (rest : List ℕ)
    → ReadsInOrder rule (parts_of rule ps depth closing) closing [] ts rest → AllMissing (presences_in (parts_of rule ps depth closing)) ts × (rest ≡ [])
unfolding parts_of
left_all rule none depth closing n q ts rest m = m
left_all rule (part required s ps) depth closing n q ts rest m = cc
left_all rule (part addition s ps) depth closing n q ts rest m = cc
left_all rule (part (optional_by key) s ps) depth closing n q ts rest (t, us, l, e, inr (h, x), r) = absurd (not_present (form rule) (sought_by key s) closing h)
left_all rule (part (optional_by key) s ps) depth closing n q ts rest (t, us, l, e, inl (h, m, f), r) =
    let k = left_all rule ps depth closing n q us rest (subst (λ z. ReadsInOrder rule (parts_of rule ps depth closing) closing z us rest) f r) in ((t, us, e, m, k.0), k.1)
left_all rule (part (default_by key d) s ps) depth closing n q ts rest (t, us, l, e, inr (h, x), r) = absurd (not_present (form rule) (sought_by key s) closing h)
left_all rule (part (default_by key d) s ps) depth closing n q ts rest (t, us, l, e, inl (h, m, f), r) =
    let k = left_all rule ps depth closing n q us rest (subst (λ z. ReadsInOrder rule (parts_of rule ps depth closing) closing z us rest) f r) in ((t, us, e, m, k.0), k.1)

no_addition : (a b : Bool) → a || not b ≡ true → a ≡ false → b ≡ false
no_addition true b e f = cc
no_addition false true e f = cc
no_addition false false e f = refl

-- whether the contents are empty and in the definite form
empty_or : (closing : Bool) (input : List ℕ) → ((closing ≡ false) × (input ≡ [])) ⊎ ((closing ≡ false) × (input ≡ []) → ⊥)
empty_or true input = inr (λ e. let f = e.0 in cc)
empty_or false [] = inl (refl, refl)
empty_or false (b ∷ l) = inr (λ e. let f = e.1 in cc)

module _ (parts : Parts) (plain : needs_no_initializer parts ≡ true) (rule : Codec) (depth : ℕ) (closing : Bool) where
  -- What is read in order is the contents of the SEQUENCE.
  in_seq : (input : List ℕ) (t : Tree) (rest : List ℕ) → ReadsParts parts rule depth closing input t rest → SeqReads parts rule depth closing input t rest
  unfolding ReadsParts
  in_seq input t rest (ts, e, i) = go (has_required parts) refl (empty_or closing input)
    where
      go : (b : Bool) → has_required parts ≡ b → ((closing ≡ false) × (input ≡ [])) ⊎ ((closing ≡ false) × (input ≡ []) → ⊥) → SeqReads parts rule depth closing input t rest
      go true q c = (ts, e, inr ((λ b. b.0 (required_part rule parts depth closing q)), i))
      go false q (inr n) = (ts, e, inr ((λ b. n (b.1, b.2)), i))
      go false q (inl (c, f)) =
          let k = left_all rule parts depth closing (no_addition (has_required parts) (has_addition parts) plain q) q ts rest (subst (λ z. ReadsInOrder rule (parts_of rule parts depth closing) closing z ts rest) f i) in
          (ts, e, inl ((no_required rule parts depth closing q, c, f), k.0, k.1 ∙ sym f))

  in_parts : (input : List ℕ) (t : Tree) (rest : List ℕ) → SeqReads parts rule depth closing input t rest → ReadsParts parts rule depth closing input t rest
  unfolding ReadsParts
  in_parts input t rest (ts, e, inr (n, i)) = (ts, e, i)
  in_parts input t rest (ts, e, inl ((n, c, f), m, r)) = (ts, e, go (has_required parts) refl)
    where
      go : (b : Bool) → has_required parts ≡ b → ReadsInOrder rule (parts_of rule parts depth closing) closing input ts rest
      go true q = absurd (n (required_part rule parts depth closing q))
      go false q =
          let k = all_left rule parts depth closing (no_addition (has_required parts) (has_addition parts) plain q) ts m in
          subst (λ z. ReadsInOrder rule (parts_of rule parts depth closing) closing input ts z) (sym (r ∙ f)) (subst (λ z. ReadsInOrder rule (parts_of rule parts depth closing) closing z ts []) (sym f) k)

module _ {D : Type 0} (parts : Parts) (plain : needs_no_initializer parts ≡ true) (tree : D → Tree) (called : Call D) (tag : Tag) (old : State) (o : old.depth ≢ 0 → AreOctets old.rest)
    (H : EachCall called (DecodesParts parts tree)) where
  seq_exact : (s : State) (r : Result D DecodeError) (n : State) → called s r n → Exact (SeqReads parts s.rule s.depth s.closing) s.rest (outcome tree r n.rest)
  seq_exact s r n k = Exact-same (ReadsParts parts s.rule s.depth s.closing) (SeqReads parts s.rule s.depth s.closing) s.rest (outcome tree r n.rest)
      (in_seq parts plain s.rule s.depth s.closing s.rest) (in_parts parts plain s.rule s.depth s.closing s.rest) (H s r n k).exact

  inside_exact : (h : Header) → constructed_header_at (sequence_header tag) old.rule old.depth old.rest ≡ Ok h → (r : Result D DecodeError) (left : State) → called (contents_state (sequence_header tag) old h) r left
      → Exact (R parts old (is_indefinite_extent h.extent)) (octets_inside h.extent h.rest) (outcome tree r left.rest) ⊎ IsCut (sequence_header tag) (R parts old) old o h left.rest
  inside_exact h e r left k = inl (seq_exact (contents_state (sequence_header tag) old h) r left k)

  pub parts_decode : (result : Result D DecodeError) (new : State) → DecodesInside called (sequence_header tag) old result new → Decodes (seq tag parts) tree old result new
  unfolding Reads
  parts_decode result new k =
      held_decodes (sequence_header tag) (R parts old) old o tree called inside_exact (λ rule. Reads rule (seq tag parts)) (held_constructed tag 1 (R parts old) old o old.rest) (constructed_held tag 1 (R parts old) old o old.rest) result new k
