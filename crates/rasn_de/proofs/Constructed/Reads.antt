-- A value that holds others is read if its contents are.
use Rattle.std.proofs.Common.{◌≡◌, ◌≢◌, ℕ, ◌<◌, ◌⊎◌, inl, inr, Bool, true, false, ◌&&◌, not, List, Result, Ok, Err, refl, sym, subst, arith}
use Rattle.rasn_types.specs.declared.types.tag.Tag.{Tag}
use Rattle.rasn_types.specs.declared.types.codec.Codec.{Codec}
use Rattle.rasn_types.specs.declared.error.decode.DecodeError.{DecodeError}
use Rattle.rasn_types.specs.declared.error.decode.DecodeErrorKind.{DecodeErrorKind}
use Rattle.rasn_types.specs.Framing.{AreOctets}
use Rattle.rasn_types.specs.Shapes.{Tree}
use Rattle.rasn_types.specs.Readings.{Reading, ReadsContents}
use Rattle.rasn_de.specs.declared.ber.de.parser.ParseError.{ParseError}
use Rattle.rasn_de.specs.Headers.{Header, header_at}
use Rattle.rasn_de.specs.Segments.{octets_inside, end_at}
use Rattle.rasn_de.specs.State.{State, Call}
use Rattle.rasn_de.specs.Outcomes.{Exact, Outcome, Got, Refused, AllocFailed, refusal, outcome}
use Rattle.rasn_de.specs.declared.ber.de.constructed.ConstructedHeader.{ConstructedHeader}
use Rattle.rasn_de.specs.Constructed.{expected_header, constructed_header_at, is_indefinite_extent, contents_state, Keeps, FailsInside, no_value, inside, not_closed, FinishesInside, DecodesInside}
use Rattle.rasn_de.specs.Decodes.{DecodesBy}
use Rattle.rasn_de.proofs.Leaves.Outcomes.{Exact-none, Exact-refusal}
use Rattle.rasn_types.specs.Tags.{form}
use Rattle.rasn_de.proofs.Headers.Frames.{IsExpected, header_parsed}
use Rattle.rasn_de.proofs.Constructed.Contents.{IsInside, IsLetIn, bit_is, constructed_header_tag, inside_header, header_inside, inside_of, constructed_header_parsed, constructed_header_spelled}

deep : (depth : ℕ) → depth ≢ 0 → 0 < depth
deep depth n = omega arith

-- Readings that relate the same are answered alike.
pub Exact-same : (R S : Reading Tree) (input : List ℕ) (o : Outcome) → ((t : Tree) (r : List ℕ) → R input t r → S input t r) → ((t : Tree) (r : List ℕ) → S input t r → R input t r)
    → Exact R input o → Exact S input o
Exact-same R S input (Got t r) to from x = (to t r x.0, λ u s k. x.1 u s (from u s k))
Exact-same R S input Refused to from x = λ u s k. x u s (from u s k)
Exact-same R S input AllocFailed to from x = tt

-- A call that reads inside leaves an end of the input.
pub kept : {D : Type 0} (read : Call D) (d : ConstructedHeader) (old : State) (result : Result D DecodeError) (new : State) → DecodesInside read d old result new
    → Keeps old new
kept read d old (Ok v) new (k, f) = k
kept read d old (Err e) new (k, f) = k

-- A value with this header, whose contents are read by R.
module _ (d : ConstructedHeader) (R : Bool → Reading Tree) (old : State) (o : old.depth ≢ 0 → AreOctets old.rest) where
  abbrev pub Held : Reading Tree
  Held input t rest = (0 < old.depth) × (bit : Bool) × IsLetIn d old.rule bit × ReadsContents old.rule d.tag bit R input t rest

  octets_of : 0 < old.depth → AreOctets old.rest
  octets_of n = o (omega arith)

  -- where a header isn't there, no value is
  none_there : (f : ParseError) (r : List ℕ) → constructed_header_at d old.rule old.depth old.rest ≡ Err (f, r) → (t : Tree) (s : List ℕ) → Held old.rest t s → ⊥
  none_there f r e t s (n, bit, q, i) = go (inside_header old.rule d.tag (expected_header d old.rule) R old.rest (octets_of n) bit q.1 t s i)
    where
      go : (h : Header) × (header_at (form old.rule) (expected_header d old.rule) old.rest ≡ Ok h) × (h.bit ≡ bit) × IsInside R h t s → ⊥
      go (h, k, b, x) =
          let p = constructed_header_spelled d old.rule old.depth old.rest h n k (subst (λ z. d.must_be_constructed && not z ≡ false) (sym b) q.0) in
          cc

  -- what is related is inside the header that is there
  pub related : (h : Header) → constructed_header_at d old.rule old.depth old.rest ≡ Ok h → (t : Tree) (s : List ℕ) → Held old.rest t s → IsInside R h t s
  related h e t s (n, bit, q, i) =
      let k = constructed_header_parsed d old.rule old.depth old.rest h e in
      inside_of old.rule d.tag (expected_header d old.rule) R old.rest (octets_of n) h k.1 bit q.1 t s i

  module _ (h : Header) (e : constructed_header_at d old.rule old.depth old.rest ≡ Ok h) where
    refused_inside : (k : DecodeErrorKind) → Exact (R (is_indefinite_extent h.extent)) (octets_inside h.extent h.rest) (refusal k) → Exact Held old.rest (refusal k)
    refused_inside k x = Exact-refusal k (R (is_indefinite_extent h.extent)) Held (octets_inside h.extent h.rest) old.rest (λ n t s w. let y = related h e t s w in n t y.0 y.1) x

    got_inside : (v : Tree) (l s : List ℕ) → Exact (R (is_indefinite_extent h.extent)) (octets_inside h.extent h.rest) (Got v l) → end_at h.extent h.rest l ≡ Ok s → Exact Held old.rest (Got v s)
    got_inside v l s x f =
        let k = constructed_header_parsed d old.rule old.depth old.rest h e in
        let n = deep old.depth k.0 in
        let i = header_inside old.rule d.tag (expected_header d old.rule) R old.rest (octets_of n) h k.1 (constructed_header_tag d old.rule) v s (l, x.0, f) in
        let m = header_parsed (form old.rule) (expected_header d old.rule) old.rest h (octets_of n) k.1 in
        let b = subst (λ z. IsExpected (expected_header d old.rule) z h.bit) (constructed_header_tag d old.rule h.tag h.bit m.1) m.1 in
        ((n, h.bit, (k.2, b), i), λ t r w. same t r (related h e t r w))
      where
        same : (t : Tree) (r : List ℕ) → IsInside R h t r → (t ≡ v) × (r ≡ s)
        same t r (m, y, g) =
            let z = x.1 t m y in
            let p : end_at h.extent h.rest l ≡ Ok r = subst (λ u. end_at h.extent h.rest u ≡ Ok r) z.1 g in
            (z.0, cc)

    unclosed_inside : (v : Tree) (l : List ℕ) (f : ParseError) → Exact (R (is_indefinite_extent h.extent)) (octets_inside h.extent h.rest) (Got v l) → end_at h.extent h.rest l ≡ Err f → (t : Tree) (s : List ℕ) → Held old.rest t s → ⊥
    unclosed_inside v l f x g t s w = go (related h e t s w)
      where
        go : IsInside R h t s → ⊥
        go (m, y, k) =
            let z = x.1 t m y in
            let p : end_at h.extent h.rest l ≡ Ok s = subst (λ u. end_at h.extent h.rest u ≡ Ok s) z.1 k in
            cc

  -- Inside nothing can be read, and the value doesn't end at what is left.
  pub record IsCut (h : Header) (left : List ℕ) : Type 0 where
    pub none : (t : Tree) (s : List ℕ) → Held old.rest t s → ⊥
    pub unfinished : (s : List ℕ) → end_at h.extent h.rest left ≡ Ok s → ⊥

  module _ {D : Type 0} (tree : D → Tree) (read : Call D)
      (H : (h : Header) → constructed_header_at d old.rule old.depth old.rest ≡ Ok h → (r : Result D DecodeError) (left : State) → read (contents_state d old h) r left
      → Exact (R (is_indefinite_extent h.extent)) (octets_inside h.extent h.rest) (outcome tree r left.rest) ⊎ IsCut h left.rest) where
    failed : (e : DecodeError) (rest : List ℕ) → FailsInside read d old e rest → Exact Held old.rest (refusal e.kind)
    failed e rest (no_value f k w) = Exact-none e.kind Held old.rest (none_there f rest k)
    failed e rest (inside h k left c w) = elim (H h k (Err e) left c) [
      | inl x ↦ refused_inside h k e.kind x
      | inr n ↦ Exact-none e.kind Held old.rest n.none
    ]
    failed e rest (not_closed h k v left c f g w u) = elim (H h k (Ok v) left c) [
      | inl x ↦ Exact-none e.kind Held old.rest (unclosed_inside h k (tree v) left.rest f x g)
      | inr n ↦ Exact-none e.kind Held old.rest n.none
    ]

    done : (v : D) (rest : List ℕ) → FinishesInside read d old v rest → Exact Held old.rest (Got (tree v) rest)
    done v rest f = elim (H f.header f.opened (Ok v) f.left f.call) [
      | inl x ↦ got_inside f.header f.opened (tree v) f.left.rest rest x f.closed
      | inr n ↦ absurd (n.unfinished rest f.closed)
    ]

    pub held_exact : (result : Result D DecodeError) (new : State) → DecodesInside read d old result new → Exact Held old.rest (outcome tree result new.rest)
    held_exact (Ok v) new (k, f) = done v new.rest f
    held_exact (Err e) new (k, f) = failed e new.rest f

    -- A grammar that has exactly such values is read.
    pub held_decodes : (S : Codec → ℕ → Bool → Reading Tree) → ((t : Tree) (r : List ℕ) → Held old.rest t r → S old.rule old.depth old.closing old.rest t r)
        → ((t : Tree) (r : List ℕ) → S old.rule old.depth old.closing old.rest t r → Held old.rest t r) → (result : Result D DecodeError) (new : State) → DecodesInside read d old result new → DecodesBy S tree old result new
    held_decodes S to from result new k =
        let m = kept read d old result new k in
        record { stays = m.stays; end = m.end; exact = Exact-same Held (S old.rule old.depth old.closing) old.rest (outcome tree result new.rest) to from (held_exact result new k) }

-- A header that has to be constructed is.
module _ (tag : Tag) (levels : ℕ) (R : Bool → Reading Tree) (old : State) (o : old.depth ≢ 0 → AreOctets old.rest) (input : List ℕ) (t : Tree) (rest : List ℕ) where
  pub held_constructed : Held (record { tag = tag; must_be_constructed = true; levels = levels }) R old o input t rest → (0 < old.depth) × ReadsContents old.rule tag true R input t rest
  held_constructed (n, bit, q, i) = (n, subst (λ b. ReadsContents old.rule tag b R input t rest) (bit_is bit q.0) i)

  pub constructed_held : (0 < old.depth) × ReadsContents old.rule tag true R input t rest → Held (record { tag = tag; must_be_constructed = true; levels = levels }) R old o input t rest
  constructed_held (n, i) = (n, true, (refl, refl), i)
