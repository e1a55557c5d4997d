-- What a call answers of lists is what it answers of the grammar.
use Rattle.std.proofs.Common.{◌≡◌, ℕ, Bool, List, Result, Ok, Err, refl, sym, ap, ◌∙◌, subst}
use Rattle.rasn_types.specs.declared.types.tag.Tag.{Tag}
use Rattle.rasn_types.specs.declared.types.codec.Codec.{Codec}
use Rattle.rasn_types.specs.declared.error.decode.DecodeError.{DecodeError}
use Rattle.rasn_types.specs.declared.error.decode.DecodeErrorKind.{DecodeErrorKind}
use Rattle.rasn_types.specs.declared.error.decode.DecodeErrorKind.TheVariants.{OutOfMemory}
use Rattle.rasn_types.specs.Framing.{AreOctets, Extent, definite, indefinite, Frame}
use Rattle.rasn_types.specs.Tags.{IsStrict, form, tag_bit}
use Rattle.rasn_types.specs.Errors.{IsOutOfMemory}
use Rattle.rasn_types.specs.Shapes.{Tree, Kind}
use Rattle.rasn_types.specs.Readings.{Reading}
use Rattle.rasn_types.specs.Contents.{Contents, IsShortest}
use Rattle.rasn_types.specs.Grammar.{ReadsIn, plain_family}
use Rattle.rasn_de.specs.Headers.{Header, header_at, as_written}
use Rattle.rasn_de.specs.Causes.{Cause}
use Rattle.rasn_de.specs.Leaves.{on_header, definite_in, definite_at, Readings, FromContents, LeafAt, DecodesLeaf}
use Rattle.rasn_de.specs.State.{State, at, IsEnd}
use Rattle.rasn_de.specs.Outcomes.{Exact, Got, refusal}
use Rattle.rasn_de.specs.Decodes.{DecodesBy}
use Rattle.rasn_de.proofs.Leaves.Errors.{same_at}
use Rattle.rasn_de.proofs.Headers.Frames.{header_parsed, header_spelled, written_tag, written_bit, as_it_is}
use Rattle.rasn_de.specs.declared.ber.de.parser.ParseError.{ParseError}
use Rattle.rasn_de.proofs.Strings.Reads.{frame_octets}
use Rattle.rasn_de.proofs.Headers.Ends.{IsEnd-refl, IsEnd-frame, IsEnd-header}

-- Where nothing is related, any refusal is right.
pub Exact-none : (k : DecodeErrorKind) (R : Reading Tree) (input : List ℕ) → ((t : Tree) (r : List ℕ) → R input t r → ⊥) → Exact R input (refusal k)
Exact-none OutOfMemory R input h = tt
Exact-none _ R input h = h

-- At a refusal it is enough to show that nothing is related.
pub Exact-refusal : (k : DecodeErrorKind) (R S : Reading Tree) (i j : List ℕ) → (((t : Tree) (r : List ℕ) → R i t r → ⊥) → (t : Tree) (r : List ℕ) → S j t r → ⊥) → Exact R i (refusal k) → Exact S j (refusal k)
Exact-refusal OutOfMemory R S i j f x = tt
Exact-refusal _ R S i j f x = f x

-- What a reading of a list says of a relation.
abbrev pub Agrees : {X : Type 0} → Reading Tree → (X → Tree) → List ℕ → Result (X × List ℕ) (Cause × List ℕ) → Type 0
Agrees R tree l (Ok p) = Exact R l (Got (tree p.0) p.1) × IsEnd l p.1
Agrees R tree l (Err e) = ((t : Tree) (r : List ℕ) → R l t r → ⊥) × IsEnd l e.1

pub decoded_answers : {X Y : Type 0} (R : Codec → ℕ → Bool → Reading Tree) (tree : X → Tree) (see : Y → X) (Is : Readings X) (old new : State) (result : Result Y DecodeError)
    → ((r : Result (X × List ℕ) (Cause × List ℕ)) → Is r → Agrees (R old.rule old.depth old.closing) tree old.rest r) → DecodesLeaf see Is old result new → DecodesBy R (λ y. tree (see y)) old result new
decoded_answers {X} R tree see Is old new (Ok v) a g =
    let h = a (Ok (see v, new.rest)) g.0 in
    record { stays = g.1; end = h.1; exact = h.0 }
decoded_answers {X} R tree see Is old new (Err e) a (cause, f, t, c, s) =
    let h = a (Err (cause, new.rest)) f in
    record { stays = s; end = h.1; exact = Exact-none e.kind (R old.rule old.depth old.closing) old.rest h.0 }

-- Running out of memory says nothing of the reading.
pub alloc_failed : {X : Type 0} (R : Codec → ℕ → Bool → Reading Tree) (tree : X → Tree) (old new : State) (e : DecodeError) → IsOutOfMemory e.kind → new ≡ at old new.rest → IsEnd old.rest new.rest
    → DecodesBy R tree old (Err e) new
alloc_failed R tree old new e m s d = record { stays = s; end = d; exact = subst (λ k. Exact (R old.rule old.depth old.closing) old.rest (refusal k)) (sym m) tt }

pub alloc_failed_before : {X : Type 0} (R : Codec → ℕ → Bool → Reading Tree) (tree : X → Tree) (old new : State) (e : DecodeError) → IsOutOfMemory e.kind → new ≡ old → DecodesBy R tree old (Err e) new
alloc_failed_before R tree old new e m s = alloc_failed R tree old new e m (same_at old new s) (subst (IsEnd old.rest) (sym (ap (λ (x : State). x.rest) s)) (IsEnd-refl old.rest))

-- Definite contents are read exactly where a frame has them.
module _ (rule : Codec) (tag : Tag) (l : List ℕ) (o : AreOctets l) where
  definite_only : (bit : Bool) (c r : List ℕ) → Frame (form rule) l tag bit r (definite c) → (IsStrict rule → bit ≡ tag_bit tag) → definite_at rule tag l ≡ Ok (c, r)
  definite_only bit c r f b = let k = header_spelled (form rule) (as_written rule tag (tag_bit tag)) l tag bit r (definite c) o (as_it_is rule tag (tag_bit tag) bit b) f in rw k refl

  -- what definite_at says
  abbrev pub Framed : Result (List ℕ × List ℕ) (Cause × List ℕ) → Type 0
  Framed (Ok p) = (bit : Bool) × Frame (form rule) l tag bit p.1 (definite p.0) × (IsStrict rule → bit ≡ tag_bit tag)
  Framed (Err e) = IsEnd l e.1

  framed_extent : (h : Header) → header_at (form rule) (as_written rule tag (tag_bit tag)) l ≡ Ok h → (x : Extent) → h.extent ≡ x → Framed (definite_in x h.rest)
  framed_extent h e (definite c) f =
      let n = header_parsed (form rule) (as_written rule tag (tag_bit tag)) l h o e in
      let k = written_tag rule tag h.tag (tag_bit tag) h.bit n.1 in
      (h.bit, subst (λ z. Frame (form rule) l tag h.bit h.rest z) f (subst (λ z. Frame (form rule) l z h.bit h.rest h.extent) k n.0), written_bit rule tag h.tag (tag_bit tag) h.bit n.1)
  framed_extent h e indefinite f = IsEnd-header (form rule) (as_written rule tag (tag_bit tag)) l h o e

  framed_header : (r : Result Header ParseError) → header_at (form rule) (as_written rule tag (tag_bit tag)) l ≡ r → Framed (on_header l r (λ h. definite_in h.extent h.rest))
  framed_header (Ok h) e = framed_extent h e h.extent refl
  framed_header (Err f) e = IsEnd-refl l

  definite_parsed : Framed (definite_at rule tag l)
  definite_parsed = framed_header (header_at (form rule) (as_written rule tag (tag_bit tag)) l) refl

  -- A reading of contents that agrees with a kind's contents.
  module _ {X : Type 0} (kind : Kind) (depth : ℕ) (B : Tree → Type 0) (tree : X → Tree) (read : List ℕ → Result X Cause → Type 0)
      (found : (c : List ℕ) (x : X) → AreOctets c → read c (Ok x) → Contents rule kind c (tree x) × (IsStrict rule → IsShortest kind c) × B (tree x))
      (only : (c : List ℕ) (x : X) (t : Tree) → AreOctets c → read c (Ok x) → Contents rule kind c t → B t → t ≡ tree x)
      (none : (c : List ℕ) (e : Cause) (t : Tree) → AreOctets c → read c (Err e) → Contents rule kind c t → (IsStrict rule → IsShortest kind c) → B t → ⊥) where
    abbrev pub PlainReads : Reading Tree
    PlainReads input t rest = ReadsIn plain_family rule kind tag depth input t rest × B t

    -- what is related has the contents that were read
    contents_there : (d : Result (List ℕ × List ℕ) (Cause × List ℕ)) → definite_at rule tag l ≡ d → (t : Tree) (r : List ℕ) → PlainReads l t r
        → (c : List ℕ) × (d ≡ Ok (c, r)) × AreOctets c × Contents rule kind c t × (IsStrict rule → IsShortest kind c) × B t
    contents_there d e t r ((bit, c, f, k, strict), b) = (c, sym e ∙ definite_only bit c r f (λ s. (strict s).0), (frame_octets l o f).1, k, (λ s. (strict s).1), b)

    agree : (d : Result (List ℕ × List ℕ) (Cause × List ℕ)) → definite_at rule tag l ≡ d → Framed d → (r : Result (X × List ℕ) (Cause × List ℕ)) → FromContents read d r → Agrees PlainReads tree l r
    agree (Ok p) e (bit, f, w) (Ok q) (a, b) =
        let k = found p.0 q.0 (frame_octets l o f).1 a in
        (((subst (λ z. ReadsIn plain_family rule kind tag depth l (tree q.0) z) (sym b) (bit, p.0, f, k.0, λ s. (w s, k.1 s)), k.2), λ t r h. same t r (contents_there (Ok p) e t r h)), subst (IsEnd l) (sym b) (IsEnd-frame l f))
      where
        same : (t : Tree) (r : List ℕ) → (c : List ℕ) × (◌≡◌ {A = Result (List ℕ × List ℕ) (Cause × List ℕ)} (Ok p) (Ok (c, r))) × AreOctets c × Contents rule kind c t × (IsStrict rule → IsShortest kind c) × B t
            → (t ≡ tree q.0) × (r ≡ q.1)
        same t r (c, g, i, j, n, m) =
            let y : p.0 ≡ c = cc in
            let z : p.1 ≡ r = cc in
            (only c q.0 t i (subst (λ u. read u (Ok q.0)) y a) j m, sym z ∙ sym b)
    agree (Ok p) e (bit, f, w) (Err q) (a, b) = (λ t r h. nothing t r (contents_there (Ok p) e t r h), subst (IsEnd l) (sym b) (IsEnd-frame l f))
      where
        nothing : (t : Tree) (r : List ℕ) → (c : List ℕ) × (◌≡◌ {A = Result (List ℕ × List ℕ) (Cause × List ℕ)} (Ok p) (Ok (c, r))) × AreOctets c × Contents rule kind c t × (IsStrict rule → IsShortest kind c) × B t → ⊥
        nothing t r (c, g, i, j, n, m) =
            let y : p.0 ≡ c = cc in
            none c q.0 t i (subst (λ u. read u (Err q.0)) y a) j n m
    agree (Err d) e f (Ok q) a = cc
    agree (Err d) e f (Err q) a = (λ t r w. nothing t r (contents_there (Err d) e t r w), let z : q ≡ d = cc in subst (λ (u : Cause × List ℕ). IsEnd l u.1) (sym z) f)
      where
        nothing : (t : Tree) (r : List ℕ) → (c : List ℕ) × (◌≡◌ {A = Result (List ℕ × List ℕ) (Cause × List ℕ)} (Err d) (Ok (c, r))) × AreOctets c × Contents rule kind c t × (IsStrict rule → IsShortest kind c) × B t → ⊥
        nothing t r (c, g, i, j, n, m) = cc

    -- The reading of a value agrees with the grammar's.
    pub plain_agrees : (r : Result (X × List ℕ) (Cause × List ℕ)) → LeafAt read rule tag l r → Agrees PlainReads tree l r
    plain_agrees r a = agree (definite_at rule tag l) refl definite_parsed r a

-- what follows definite contents
pub definite_end : (rule : Codec) (tag : Tag) (l : List ℕ) → AreOctets l → (c r : List ℕ) → definite_at rule tag l ≡ Ok (c, r) → IsEnd l r
definite_end rule tag l o c r e =
    let f = subst (Framed rule tag l o) e (definite_parsed rule tag l o) in
    IsEnd-frame l f.1
