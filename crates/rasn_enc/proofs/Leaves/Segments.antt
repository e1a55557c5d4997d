-- Strings of octets or bits in one piece, and cut in segments.
use Rattle.std.proofs.Common.{◌≡◌, ℕ, ◌<◌, ◌≤◌, List, [], ◌∷◌, ◌++◌, length, take, drop, inl, inr, refl, sym, ap, ap₂, ◌∙◌, arith}
use Rattle.std.proofs.lemmas.List.{append_assoc, append-nil, take-append-drop}
use Rattle.rasn_types.specs.Tags.{tag_bit}
use Rattle.rasn_types.specs.Framing.{Begins}
use Rattle.rasn_types.specs.Contents.{joined_lists}
use Rattle.rasn_types.specs.Bytes.{Writing, AreCut, Each, PrimitiveEncoding, IsCer, WritesString}
use Rattle.rasn_types.specs.declared.types.tag.Tag.{Tag}
use Rattle.rasn_types.specs.declared.types.codec.Codec.{Codec}
use Rattle.rasn_enc.specs.View.{View, LeavesOthers, appended}
use Rattle.rasn_enc.specs.Primitive.{Appends}
use Rattle.rasn_enc.specs.Segments.{IsSegment, AppendsSegments, AppendsSegmented}
use Rattle.rasn_enc.proofs.Leaves.Primitive.{definite_begins, cons_begins}

pub joined_one : {X : Type 0} (xs : List (List X)) (x : List X) → joined_lists (xs ++ x ∷ []) ≡ joined_lists xs ++ x
joined_one [] x = append-nil x
joined_one (y ∷ xs) x = ap (λ l. y ++ l) (joined_one xs x) ∙ sym (append_assoc y (joined_lists xs) x)

-- One more piece after octets that follow others.
pub joined_behind : (a b c piece : List ℕ) (bs : List (List ℕ)) → c ≡ b ++ piece → b ≡ a ++ joined_lists bs → c ≡ a ++ joined_lists (bs ++ piece ∷ [])
joined_behind a b c piece bs e k = e ∙ (ap (λ l. l ++ piece) k ∙ (append_assoc a (joined_lists bs) piece ∙ ap (λ l. a ++ l) (sym (joined_one bs piece))))

-- A value after a view that leaves the others alone.
pub others_more : (v w u : View) (octets : List ℕ) (tags : List Tag) → u ≡ appended w octets tags → LeavesOthers v w → LeavesOthers v u
others_more v w u octets tags e k = record { rule = ap (λ (x : View). x.rule) e ∙ k.rule; below = ap (λ (x : View). x.below) e ∙ k.below }

pub each_one : {X Y : Type 0} (R : X → Y → Type 0) (ps : List X) (bs : List Y) (p : X) (b : Y) → Each R ps bs → R p b → Each R (ps ++ p ∷ []) (bs ++ b ∷ [])
each_one R [] bs p b e s = (b, [], ap (λ l. l ++ b ∷ []) e, s, refl)
each_one R (q ∷ ps) bs p b (c, more, e, r, f) s = (c, more ++ b ∷ [], ap (λ l. l ++ b ∷ []) e, r, each_one R ps more p b f s)

pub cut_at : {X : Type 0} (n : ℕ) (rest piece tail : List X) → piece ≡ take n rest → tail ≡ drop n rest → rest ≡ piece ++ tail
cut_at n rest piece tail e f = sym (take-append-drop n rest) ∙ ap₂ (λ a b. a ++ b) (sym e) (sym f)

pub appends_piece : {X : Type 0} (writes : Writing (List X)) (tag : Tag) (xs : List X) (contents : List ℕ) (v w : View) → writes xs contents
    → Appends (PrimitiveEncoding tag contents) tag v w → Appends (IsSegment writes tag xs) tag v w
appends_piece writes tag xs contents v w b a = record { octets = a.octets; written = (contents, b, a.written); appended = a.appended }

module _ {X : Type 0} (writes : Writing (List X)) (size : ℕ) (inner : Tag) where
  abbrev pub AreFull : List (List X) → Type 0
  AreFull [] = Unit {0}
  AreFull (p ∷ ps) = (length p ≡ size) × AreFull ps

  -- Whole segments follow the last list, and the rest of the string remains.
  pub record SegmentsSoFar (xs rest : List X) (v w : View) : Type 0 where
    pub pieces : List (List X)
    pub encoded : List (List ℕ)
    pub is : xs ≡ joined_lists pieces ++ rest
    pub full : AreFull pieces
    pub each : Each (IsSegment writes inner) pieces encoded
    pub octets : w.last.octets ≡ v.last.octets ++ joined_lists encoded
    pub others : LeavesOthers v w

  full_one : (ps : List (List X)) (p : List X) → AreFull ps → length p ≡ size → AreFull (ps ++ p ∷ [])
  full_one [] p h e = (e, tt)
  full_one (q ∷ ps) p h e = (h.0, full_one ps p h.1 e)

  cut_one : (ps : List (List X)) (p : List X) → AreFull ps → 0 < length p → length p ≤ size → AreCut size (ps ++ p ∷ [])
  cut_one [] p h some few = (some, few)
  cut_one (q ∷ []) p h some few = (h.0, (some, few))
  cut_one (q ∷ r ∷ ps) p h some few = (h.0, cut_one (r ∷ ps) p h.1 some few)

  module _ (xs rest : List X) (v w u : View) (k : SegmentsSoFar xs rest v w) (piece : List X) (a : Appends (IsSegment writes inner piece) inner w u) where
    octets_more : u.last.octets ≡ v.last.octets ++ joined_lists (k.encoded ++ a.octets ∷ [])
    octets_more = joined_behind v.last.octets w.last.octets u.last.octets a.octets k.encoded (ap (λ (x : View). x.last.octets) a.appended) k.octets

    pub segments_more : (tail : List X) → rest ≡ piece ++ tail → length piece ≡ size → SegmentsSoFar xs tail v u
    segments_more tail e n = record {
      pieces = k.pieces ++ piece ∷ [];
      encoded = k.encoded ++ a.octets ∷ [];
      is = k.is ∙ (ap (λ l. joined_lists k.pieces ++ l) e ∙ (sym (append_assoc (joined_lists k.pieces) piece tail) ∙ ap (λ l. l ++ tail) (sym (joined_one k.pieces piece))));
      full = full_one k.pieces piece k.full n;
      each = each_one (IsSegment writes inner) k.pieces k.encoded piece a.octets k.each a.written;
      octets = octets_more;
      others = others_more v w u a.octets (inner ∷ []) a.appended k.others;
    }

    pub segments_done : rest ≡ piece → 0 < length piece → length piece ≤ size → AppendsSegments writes size inner xs v u
    segments_done e some few = record {
      encoded = k.encoded ++ a.octets ∷ [];
      segments = record {
        pieces = k.pieces ++ piece ∷ [];
        is = k.is ∙ (ap (λ l. joined_lists k.pieces ++ l) e ∙ sym (joined_one k.pieces piece));
        cut = cut_one k.pieces piece k.full some few;
        each = each_one (IsSegment writes inner) k.pieces k.encoded piece a.octets k.each a.written;
      };
      octets = octets_more;
    }

  -- A whole string.
  pub in_one : (tag : Tag) (xs : List X) (v w : View) → ((IsCer v.rule × (size < length xs)) → ⊥) → Appends (IsSegment writes tag xs) tag v w
      → Appends (WritesString v.rule writes size inner tag xs) tag v w
  in_one tag xs v w uncut a =
      let few : IsCer v.rule → length xs ≤ size = λ cer. let n : (size < length xs) → ⊥ = λ many. uncut (cer, many) in omega (arith, n) in
      record { octets = a.octets; written = inl (few, a.written.0, a.written.1, a.written.2); appended = a.appended }

  pub in_segments : (tag : Tag) (xs : List X) (v w : View) → IsCer v.rule → size < length xs → AppendsSegmented writes size inner tag xs v w
      → Appends (WritesString v.rule writes size inner tag xs) tag v w
  in_segments tag xs v w cer many p = record {
    octets = p.appends.octets;
    written = inr (cer, many, p.segments.pieces, p.encoded, p.segments.is, p.segments.cut, p.segments.each, p.appends.written);
    appended = p.appends.appended;
  }

  pub str_begins : (rule : Codec) (tag : Tag) (xs : List X) (octets : List ℕ) → WritesString rule writes size inner tag xs octets → Begins octets tag
  str_begins rule tag xs octets (inl (few, contents, w, d)) = definite_begins tag (tag_bit tag) contents octets d
  str_begins rule tag xs octets (inr (cer, many, pieces, bs, is, cut, each, d)) = cons_begins rule tag (joined_lists bs) octets d
