-- Open types are read exactly where the grammar has them.
use Rattle.std.proofs.Common.{◌≡◌, ◌≢◌, ℕ, ◌+◌, ◌-◌, ◌≤◌, ◌⊎◌, inl, inr, Bool, true, List, [], ◌∷◌, ◌++◌, length, take, Option, Some, None, Result, Ok, Err, refl, sym, ap, ◌∙◌, subst, arith, append_assoc, length-append}
use Rattle.std.proofs.lemmas.List.{append_cancel_right}
use Rattle.std.proofs.Math.Seq.{take-append_seam}
use Rattle.rasn_types.specs.declared.types.tag.Tag.{Tag}
use Rattle.rasn_types.specs.declared.types.codec.Codec.{Codec}
use Rattle.rasn_types.specs.declared.types.codec.Codec.TheVariants.{Ber, Cer, Der}
use Rattle.rasn_types.specs.Tags.{form, IsStrict}
use Rattle.rasn_types.specs.Framing.{AreOctets, Extent, definite, indefinite, Frame}
use Rattle.rasn_types.specs.Shapes.{Tree, numbers, any, looked_for}
use Rattle.rasn_types.specs.declared.types.any.Any.{Any}
use Rattle.rasn_types.specs.declared.error.decode.DecodeError.{DecodeError}
use Rattle.rasn_types.specs.Readings.{Reading}
use Rattle.rasn_types.specs.Grammar.{Reads, ReadsAny, ReadsOpen}
use Rattle.rasn_types.proofs.Headers.Frames.{frame_one}
use Rattle.rasn_types.proofs.Encoding.Complete.{whole_one, wholes_one}
use Rattle.rasn_de.specs.declared.ber.de.parser.ParseError.{ParseError}
use Rattle.rasn_de.specs.Headers.{Header, header_at, as_written}
use Rattle.rasn_de.specs.Skipping.{Skipped, EncodingsToEnd, IsUnparsable, IsFault, Exactly}
use Rattle.rasn_de.specs.Any.{ReadsOpenOctets, OpenAt, as_lists, DecodesOpenType, BorrowsOpenType, SkipsValue}
use Rattle.std.specs.Borrow.{Bor}
use Rattle.std.specs.Prelude.{IfOk}
use Rattle.rasn_de.specs.State.{State, at, IsEnd}
use Rattle.rasn_de.specs.Outcomes.{Exact, Outcome, Got, Refused, refusal}
use Rattle.rasn_types.specs.Errors.{IsOutOfMemory}
use Rattle.rasn_de.specs.Steps.{IsErrorOf}
use Rattle.rasn_de.specs.Decodes.{Decodes}
use Rattle.rasn_de.proofs.Leaves.Outcomes.{Exact-none}
use Rattle.rasn_de.proofs.Leaves.Errors.{same_at}
use Rattle.rasn_de.proofs.Headers.Frames.{header_parsed, header_spelled, IsExpected}
use Rattle.rasn_de.proofs.Headers.Ends.{IsEnd-refl, IsEnd-frame, IsEnd-trans}

-- what precedes the last octets
front_is : (l text rest : List ℕ) → l ≡ text ++ rest → take (length l - length rest) l ≡ text
front_is l text rest e =
    let n : length (text ++ rest) - length rest ≡ length text = simp length-append (omega arith) in
    rw (e, n) (take-append_seam text rest)

-- One whole encoding: all that precedes what follows.
pub encoding_open : (rule : Codec) (input : List ℕ) (t : ℕ) (rest : List ℕ) → Exactly (Skipped rule input) (IsFault rule input) (Ok (t, rest))
    → OpenAt rule None input (Ok (take (length input - length rest) input, rest))
encoding_open rule input t rest (s, one) = ((s.text, ap numbers front, s.whole, s.is), same)
  where
    front : take (length input - length rest) input ≡ s.text
    front = front_is input s.text rest s.is

    same : (u : Tree) (r : List ℕ) → ReadsAny rule input u r → (u ≡ numbers (take (length input - length rest) input)) × (r ≡ rest)
    same u r (text, e, w, is) =
        let k = whole_one rest r s.whole w (sym s.is ∙ is) in
        let m : text ++ rest ≡ s.text ++ rest = ap (λ z. text ++ z) k.0 ∙ (sym is ∙ s.is) in
        (e ∙ ap numbers (append_cancel_right text s.text rest m ∙ sym front), sym k.0)

pub encoding_refused : (rule : Codec) (input : List ℕ) (f : ParseError) → Exactly (Skipped rule input) (IsFault rule input) (Err f) → OpenAt rule None input (Err f)
encoding_refused rule input f (never, fault) =
    ((λ u s w. never _ s (record { text = w.0; whole = w.2; is = w.3; steps_are = refl })), fault)

-- the tag, and the constructed bit where it has to be that of an explicit tag
written_is : (rule : Codec) (wanted tag : Tag) (bit : Bool) → IsExpected (as_written rule wanted true) tag bit → (tag ≡ wanted) × (IsStrict rule → bit ≡ true)
written_is Ber wanted tag bit h = (h, λ s. absurd s)
written_is Cer wanted tag bit h = (h, λ s. absurd s)
written_is Der wanted tag bit h = (h.0, λ s. h.1)

is_written : (rule : Codec) (tag : Tag) (bit : Bool) → (IsStrict rule → bit ≡ true) → IsExpected (as_written rule tag true) tag bit
is_written Ber tag bit h = refl
is_written Cer tag bit h = refl
is_written Der tag bit h = (refl, h tt)

not_both : (a : List ℕ) → definite a ≡ indefinite → ⊥
not_both a e = cc

module _ (rule : Codec) (tag : Tag) (input : List ℕ) (o : AreOctets input) where
  module _ (h : Header) (found : header_at (form rule) (as_written rule tag true) input ≡ Ok h) where
    head : (tag_is : h.tag ≡ tag) × (IsStrict rule → h.bit ≡ true)
    head = written_is rule tag h.tag h.bit (header_parsed (form rule) (as_written rule tag true) input h o found).1

    frame : (x : Extent) → h.extent ≡ x → Frame (form rule) input tag h.bit h.rest x
    frame x e = subst (λ z. Frame (form rule) input z h.bit h.rest x) head.0 (subst (λ z. Frame (form rule) input h.tag h.bit h.rest z) e (header_parsed (form rule) (as_written rule tag true) input h o found).0)

    -- contents of definite length
    pub tagged_definite : (contents : List ℕ) → h.extent ≡ definite contents → OpenAt rule (Some tag) input (Ok (contents, h.rest))
    tagged_definite contents e = ((h.bit, contents, refl, head.1, inl (frame (definite contents) e)), same)
      where
        same : (u : Tree) (r : List ℕ) → ReadsOpen rule tag input u r → (u ≡ numbers contents) × (r ≡ h.rest)
        same u r (bit, c, is, strict, inl f) =
            let k = frame_one input (frame (definite contents) e) f in
            let d : contents ≡ c = let x = k.extent in cc in
            (is ∙ ap numbers (sym d), sym k.rest)
        same u r (bit, c, is, strict, inr (body, f, w, b)) = absurd (not_both contents (frame_one input (frame (definite contents) e) f).extent)

    -- contents up to their end-of-contents octets
    pub tagged_closed : h.extent ≡ indefinite → (t : ℕ) (after : List ℕ) → Exactly (EncodingsToEnd rule h.rest) (IsUnparsable rule h.rest) (Ok (t, after))
        → OpenAt rule (Some tag) input (Ok (take (length h.rest - length after - 2) h.rest, after)) × (length after + 2 ≤ length h.rest)
    tagged_closed e t after (closed, one) =
        (((h.bit, closed.nested, ap numbers front, head.1, inr (h.rest, frame indefinite e, closed.inside, closed.is)), same), longer)
      where
        longer : length after + 2 ≤ length h.rest
        longer = rw closed.is (simp length-append (omega arith))

        front : take (length h.rest - length after - 2) h.rest ≡ closed.nested
        front =
            let n : length h.rest - length after - 2 ≡ length h.rest - length (0 ∷ 0 ∷ after) = omega arith in
            rw n (front_is h.rest closed.nested (0 ∷ 0 ∷ after) closed.is)

        same : (u : Tree) (r : List ℕ) → ReadsOpen rule tag input u r → (u ≡ numbers (take (length h.rest - length after - 2) h.rest)) × (r ≡ after)
        same u r (bit, c, is, strict, inl f) = absurd (not_both c (sym (frame_one input (frame indefinite e) f).extent))
        same u r (bit, c, is, strict, inr (body, f, w, b)) =
            let p : h.rest ≡ body = (frame_one input (frame indefinite e) f).rest in
            let k = wholes_one after r closed.inside w (sym closed.is ∙ (p ∙ b)) in
            let m : c ++ (0 ∷ 0 ∷ after) ≡ closed.nested ++ (0 ∷ 0 ∷ after) = ap (λ z. c ++ (0 ∷ 0 ∷ z)) k.0 ∙ (sym b ∙ (sym p ∙ closed.is)) in
            (is ∙ ap numbers (append_cancel_right c closed.nested (0 ∷ 0 ∷ after) m ∙ sym front), sym k.0)

    -- contents that aren't closed
    pub tagged_unparsable : h.extent ≡ indefinite → (f : ParseError) → Exactly (EncodingsToEnd rule h.rest) (IsUnparsable rule h.rest) (Err f) → OpenAt rule (Some tag) input (Err f)
    tagged_unparsable e f (never, unparsable) = (none, inr (h, found, e, unparsable))
      where
        none : (u : Tree) (r : List ℕ) → ReadsOpen rule tag input u r → ⊥
        none u r (bit, c, is, strict, inl g) = not_both c (sym (frame_one input (frame indefinite e) g).extent)
        none u r (bit, c, is, strict, inr (body, g, w, b)) =
            let p : h.rest ≡ body = (frame_one input (frame indefinite e) g).rest in
            never _ r (record { nested = c; inside = w; is = p ∙ b; steps_are = refl })

  pub tagged_refused : (f : ParseError) → header_at (form rule) (as_written rule tag true) input ≡ Err f → OpenAt rule (Some tag) input (Err f)
  tagged_refused f e = (none, inl e)
    where
      no : (bit : Bool) (rest : List ℕ) (x : Extent) → (IsStrict rule → bit ≡ true) → Frame (form rule) input tag bit rest x → ⊥
      no bit rest x strict g = let p = header_spelled (form rule) (as_written rule tag true) input tag bit rest x o (is_written rule tag bit strict) g in cc

      none : (u : Tree) (r : List ℕ) → ReadsOpen rule tag input u r → ⊥
      none u r (bit, c, is, strict, inl g) = no bit r (definite c) strict g
      none u r (bit, c, is, strict, inr (body, g, w, b)) = no bit body indefinite strict g

-- What follows an open type ends the list.
pub open_end : (rule : Codec) (tag : Option Tag) (input : List ℕ) (p : List ℕ × List ℕ) → OpenAt rule tag input (Ok p) → IsEnd input p.1
open_end rule None input p ((text, e, w, is), one) = (text, is)
open_end rule (Some tag) input p ((bit, c, is, strict, inl f), one) = IsEnd-frame input f
open_end rule (Some tag) input p ((bit, c, is, strict, inr (body, f, w, b)), one) =
    IsEnd-trans input body p.1 (IsEnd-frame input f) (c ++ (0 ∷ 0 ∷ []), b ∙ simp append_assoc)

pub opens_end : (rule : Codec) (tag : Option Tag) (input : List ℕ) (r : Result (Bor (List ℕ) × Bor (List ℕ)) ParseError) → OpenAt rule tag input (as_lists r) → IfOk r (λ p. IsEnd input p.1.now)
opens_end rule tag input (Ok p) h = open_end rule tag input (p.0.now, p.1.now) h
opens_end rule tag input (Err e) h = tt

reads_octets : (rule : Codec) (tag : Option Tag) (depth : ℕ) (closing : Bool) (input : List ℕ) (o : Outcome) → Exact (ReadsOpenOctets rule tag) input o → Exact (Reads rule (any tag) depth closing) input o
unfolding Reads
reads_octets rule None depth closing input o h = h
reads_octets rule (Some tag) depth closing input o h = h

-- What a call answers of an open type is what the grammar has.
pub open_decodes : (tag : Tag) (old new : State) (result : Result Any DecodeError) → DecodesOpenType tag old result new → Decodes (any (looked_for tag)) numbers old result new
open_decodes tag old new (Ok a) (x, s) = record {
  stays = s;
  end = open_end old.rule (looked_for tag) old.rest (a, new.rest) x;
  exact = reads_octets old.rule (looked_for tag) old.depth old.closing old.rest (Got (numbers a) new.rest) x;
}
open_decodes tag old new (Err e) (h, s) = record {
  stays = same_at old new s;
  end = subst (IsEnd old.rest) (sym (ap (λ (x : State). x.rest) s)) (IsEnd-refl old.rest);
  exact = exactly h;
}
  where
    R : Reading Tree
    R = Reads old.rule (any (looked_for tag)) old.depth old.closing

    exactly : (IsOutOfMemory e.kind × (e.codec ≡ old.rule) × (p : List ℕ × List ℕ) × OpenAt old.rule (looked_for tag) old.rest (Ok p) × (p.0 ≢ [])) ⊎ ((f : ParseError) × OpenAt old.rule (looked_for tag) old.rest (Err f) × IsErrorOf f old e) → Exact R old.rest (refusal e.kind)
    exactly (inl (m, c, p, x, n)) = subst (λ k. Exact R old.rest (refusal k)) (sym m) tt
    exactly (inr (f, x, k)) = Exact-none e.kind R old.rest (reads_octets old.rule (looked_for tag) old.depth old.closing old.rest Refused x.0)

pub borrowed_decodes : (tag : Tag) (old new : State) (result : Result (Bor (List ℕ)) DecodeError) → BorrowsOpenType tag old result new → Decodes (any (looked_for tag)) (λ o. numbers o.now) old result new
borrowed_decodes tag old new (Ok o) g = open_decodes tag old new (Ok o.now) g
borrowed_decodes tag old new (Err e) (h, s) = open_decodes tag old new (Err e) (inr h, s)

-- what is passed
pub skipped_at : (old new : State) (n : ℕ) (rest : List ℕ) → Exactly (Skipped old.rule old.rest) (IsFault old.rule old.rest) (Ok (n, rest)) → new ≡ at old rest → SkipsValue old (Ok n) new
skipped_at old new n rest x s =
    let r : new.rest ≡ rest = ap (λ (z : State). z.rest) s in
    (subst (λ z. Exactly (Skipped old.rule old.rest) (IsFault old.rule old.rest) (Ok (n, z))) (sym r) x, s ∙ ap (λ z. at old z) (sym r))
