-- An open type is refused in one way: there is one place at which skipping stops.
use Rattle.std.proofs.Common.{◌≡◌, ℕ, zero, suc, inl, inr, Bool, true, List, [], ◌∷◌, ◌++◌, Option, Some, None, Result, Err, refl, sym, ap, ◌∙◌, subst, append_assoc}
use Rattle.rasn_types.specs.declared.types.codec.Codec.{Codec}
use Rattle.rasn_types.specs.declared.types.tag.Tag.{Tag}
use Rattle.rasn_types.specs.Tags.{loose, form}
use Rattle.rasn_types.specs.Framing.{AreOctets, Extent, definite, indefinite, Frame, CompleteEncoding, plain, closed, CompleteEncodings, none, one_more}
use Rattle.rasn_types.specs.Shapes.{any, looked_for}
use Rattle.rasn_types.proofs.Headers.Frames.{frame_one}
use Rattle.rasn_types.proofs.Encoding.Complete.{frame_more, whole_one, whole_text_one}
use Rattle.rasn_de.specs.declared.ber.de.parser.ParseError.{ParseError}
use Rattle.rasn_de.specs.declared.ber.de.parser.headers.Expected.TheVariants.{AnyTag}
use Rattle.rasn_de.specs.Headers.{Header, header_at, as_written}
use Rattle.rasn_de.specs.Skipping.{IsNestedIn, IsUnparsable, IsFault}
use Rattle.rasn_de.specs.ValueErrors.{errors_of}
use Rattle.rasn_de.specs.Any.{IsOpenFault, DecodesOpenType}
use Rattle.rasn_de.proofs.Headers.Frames.{header_parsed, header_spelled}
use Rattle.rasn_de.proofs.Headers.Fronts.{frame_not_zero}
use Rattle.rasn_de.proofs.Strings.Reads.{frame_octets}
use Rattle.rasn_de.proofs.Headers.Results.{octets_back}
use Rattle.rasn_de.proofs.Any.Reads.{open_decodes}
use Rattle.rasn.specs.OneRefusal.{ReadsShape, IsRefusedOnce, AreApart}
use Rattle.rasn.proofs.OneRefusal.Calls.{same_fault, exactly_apart}

module _ (rule : Codec) where
  -- Octets at which neither a value nor end-of-contents octets begin.
  abbrev IsStop : List ℕ → Type 0
  IsStop left = ((more : List ℕ) → left ≡ 0 ∷ 0 ∷ more → ⊥) × (f : ParseError) × (header_at (loose rule) AnyTag left ≡ Err f)

  not_framed : (left : List ℕ) (tag : Tag) (bit : Bool) (rest : List ℕ) (x : Extent) → AreOctets left → IsStop left → Frame (loose rule) left tag bit rest x → ⊥
  not_framed left tag bit rest x o (n, f, e) g = let h = header_spelled (loose rule) AnyTag left tag bit rest x o tt g in cc

  -- A complete encoding begins with a header.
  begun : (text rest : List ℕ) → CompleteEncoding rule text → (tag : Tag) × (bit : Bool) × (after : List ℕ) × (x : Extent) × Frame (loose rule) (text ++ rest) tag bit after x
  begun text rest (plain tag bit contents frame) = (tag, bit, [] ++ rest, definite contents, frame_more rest frame)
  begun text rest (closed tag bit body nested frame inside is) = (tag, bit, body ++ rest, indefinite, frame_more rest frame)

  not_whole : (left text rest : List ℕ) → AreOctets left → left ≡ text ++ rest → IsStop left → CompleteEncoding rule text → ⊥
  not_whole left text rest o e s w = let b = begun text rest w in not_framed left b.0 b.1 b.2 b.3 o s (subst (λ l. Frame (loose rule) l b.0 b.1 b.2 b.3) (sym e) b.4)

  not_zeros : (left text rest more : List ℕ) → left ≡ text ++ rest → left ≡ 0 ∷ 0 ∷ more → CompleteEncoding rule text → ⊥
  not_zeros left text rest more e z w = let b = begun text rest w in frame_not_zero (0 ∷ more) (subst (λ l. Frame (loose rule) l b.0 b.1 b.2 b.3) (sym e ∙ z) b.4) refl

  -- What follows complete encodings: the place, or a header whose value isn't closed and that holds the place.
  abbrev Follows : ℕ → List ℕ → List ℕ → Type 0
  Follows zero back left = back ≡ left
  Follows (suc m) back left = (tag : Tag) × (body : List ℕ) × Frame (loose rule) back tag true body indefinite × IsNestedIn rule m body left

  record Split (m : ℕ) (input left : List ℕ) : Type 0 where
    nested : List ℕ
    back : List ℕ
    whole : CompleteEncodings rule nested
    is : input ≡ nested ++ back
    then : Follows m back left

  split : (m : ℕ) (input left : List ℕ) → IsNestedIn rule m input left → Split m input left
  split zero input left (nested, w, e) = record { nested = nested; back = left; whole = w; is = e; then = refl }
  split (suc m) input left (nested, back, tag, body, w, e, f, n) = record { nested = nested; back = back; whole = w; is = e; then = (tag, body, f, n) }

  -- Complete encodings at the front of the same octets are the same, and what follows them is.
  record SameFront (front other rest more : List ℕ) : Type 0 where
    fronts : front ≡ other
    rests : rest ≡ more

  same_front : {input front text other words : List ℕ} (back next rest more : List ℕ) → CompleteEncoding rule front → CompleteEncoding rule other → text ≡ front ++ back → words ≡ other ++ next
      → input ≡ text ++ rest → input ≡ words ++ more → SameFront front other (back ++ rest) (next ++ more)
  same_front {front = front} {other = other} back next rest more v w e f p q =
      let a = ap (λ z. z ++ rest) e ∙ append_assoc front back rest in
      let b = ap (λ z. z ++ more) f ∙ append_assoc other next more in
      let d : front ++ (back ++ rest) ≡ other ++ (next ++ more) = sym a ∙ (sym p ∙ (q ∙ b)) in
      record { fronts = whole_text_one (back ++ rest) (next ++ more) v w d; rests = (whole_one (back ++ rest) (next ++ more) v w d).0 }

  after_first : {input text : List ℕ} (front back rest : List ℕ) → text ≡ front ++ back → input ≡ text ++ rest → input ≡ front ++ (back ++ rest)
  after_first front back rest e p = p ∙ (ap (λ z. z ++ rest) e ∙ append_assoc front back rest)

  -- Octets in which such a place is aren't closed.
  never : {n k : List ℕ} (w : CompleteEncodings rule n) (v : CompleteEncodings rule k) (m : ℕ) (input tail back left : List ℕ) → AreOctets input → IsStop left
      → input ≡ n ++ (0 ∷ 0 ∷ tail) → input ≡ k ++ back → Follows m back left → ⊥
  never none none zero input tail back left o s e f t = s.0 tail (sym t ∙ (sym f ∙ e))
  never none none (suc m) input tail back left o s e f t = frame_not_zero (0 ∷ tail) t.2 (sym f ∙ e)
  never none (one_more front rest first others is) m input tail back left o s e f t = not_zeros input front (rest ++ back) tail (after_first front rest back is f) e first
  never (one_more front rest first others is) none zero input tail back left o s e f t =
      not_whole left front (rest ++ (0 ∷ 0 ∷ tail)) (subst AreOctets (f ∙ t) o) (sym t ∙ (sym f ∙ after_first front rest (0 ∷ 0 ∷ tail) is e)) s first
  never (one_more front rest (plain tag bit contents frame) others is) none (suc m) input tail back left o s e f (t, body, g, n) =
      let a = after_first front rest (0 ∷ 0 ∷ tail) is e in
      let x = (frame_one _ (frame_more (rest ++ (0 ∷ 0 ∷ tail)) frame) (subst (λ l. Frame (loose rule) l t true body indefinite) (sym f ∙ a) g)).extent in
      cc
  never (one_more front rest (closed tag bit inner nested frame inside closes) others is) none (suc m) input tail back left o s e f (t, body, g, n) =
      let a = after_first front rest (0 ∷ 0 ∷ tail) is e in
      let more = rest ++ (0 ∷ 0 ∷ tail) in
      let x : inner ++ more ≡ body = (frame_one _ (frame_more more frame) (subst (λ l. Frame (loose rule) l t true body indefinite) (sym f ∙ a) g)).rest in
      let b : body ≡ nested ++ (0 ∷ 0 ∷ more) = sym x ∙ (ap (λ l. l ++ more) closes ∙ append_assoc nested (0 ∷ 0 ∷ []) more) in
      let p = split m body left n in
      never inside p.whole m body more p.back left (frame_octets back (subst AreOctets f o) g).0 s b p.is p.then
  never (one_more front rest first others is) (one_more ahead next second those those_are) m input tail back left o s e f t =
      let k = same_front rest next (0 ∷ 0 ∷ tail) back first second is those_are e f in
      let a = after_first front rest (0 ∷ 0 ∷ tail) is e in
      never others those m (rest ++ (0 ∷ 0 ∷ tail)) tail back left (octets_back front _ (subst AreOctets a o)) s refl k.rests t

  not_closed : (front rest more back left : List ℕ) (m : ℕ) → AreOctets back → IsStop left → back ≡ front ++ more → CompleteEncoding rule front → Follows m back left → ⊥
  not_closed front rest more back left zero o s e w t = not_whole left front more (subst AreOctets t o) (sym t ∙ e) s w
  not_closed front rest more back left (suc m) o s e (plain tag bit contents frame) (t, body, g, n) =
      let x = (frame_one _ (frame_more more frame) (subst (λ l. Frame (loose rule) l t true body indefinite) e g)).extent in cc
  not_closed front rest more back left (suc m) o s e (closed tag bit inner nested frame inside closes) (t, body, g, n) =
      let x : inner ++ more ≡ body = (frame_one _ (frame_more more frame) (subst (λ l. Frame (loose rule) l t true body indefinite) e g)).rest in
      let b : body ≡ nested ++ (0 ∷ 0 ∷ more) = sym x ∙ (ap (λ l. l ++ more) closes ∙ append_assoc nested (0 ∷ 0 ∷ []) more) in
      let p = split m body left n in
      never inside p.whole m body more p.back left (frame_octets back o g).0 s b p.is p.then

  -- The same place inside a value that isn't closed.
  abbrev OnceBelow : ℕ → Type 0
  OnceBelow zero = Unit {0}
  OnceBelow (suc m) = (i : ℕ) (body left place : List ℕ) → AreOctets body → IsStop left → IsStop place → IsNestedIn rule m body left → IsNestedIn rule i body place → left ≡ place

  meet_here : (m j : ℕ) → OnceBelow m → (input back other left place : List ℕ) → AreOctets input → IsStop left → IsStop place → input ≡ back → input ≡ other → Follows m back left → Follows j other place → left ≡ place
  meet_here zero zero below input back other left place o s t e f a b = sym a ∙ (sym e ∙ (f ∙ b))
  meet_here zero (suc j) below input back other left place o s t e f a (tag, body, g, n) =
      absurd (not_framed left tag true body indefinite (subst AreOctets (e ∙ a) o) s (subst (λ l. Frame (loose rule) l tag true body indefinite) (sym f ∙ (e ∙ a)) g))
  meet_here (suc m) zero below input back other left place o s t e f (tag, body, g, n) b =
      absurd (not_framed place tag true body indefinite (subst AreOctets (f ∙ b) o) t (subst (λ l. Frame (loose rule) l tag true body indefinite) (sym e ∙ (f ∙ b)) g))
  meet_here (suc m) (suc j) below input back other left place o s t e f (tag, body, g, n) (u, inner, h, k) =
      let x : body ≡ inner = (frame_one _ g (subst (λ l. Frame (loose rule) l u true inner indefinite) (sym f ∙ e) h)).rest in
      below j body left place (frame_octets back (subst AreOctets e o) g).0 s t n (subst (λ l. IsNestedIn rule j l place) (sym x) k)

  meet : {n k : List ℕ} (w : CompleteEncodings rule n) (v : CompleteEncodings rule k) (m j : ℕ) → OnceBelow m → (input back other left place : List ℕ) → AreOctets input → IsStop left → IsStop place
      → input ≡ n ++ back → input ≡ k ++ other → Follows m back left → Follows j other place → left ≡ place
  meet none none m j below input back other left place o s t e f a b = meet_here m j below input back other left place o s t e f a b
  meet none (one_more front rest first others is) m j below input back other left place o s t e f a b =
      absurd (not_closed front rest (rest ++ other) back left m (subst AreOctets e o) s (sym e ∙ after_first front rest other is f) first a)
  meet (one_more front rest first others is) none m j below input back other left place o s t e f a b =
      absurd (not_closed front rest (rest ++ back) other place j (subst AreOctets f o) t (sym f ∙ after_first front rest back is e) first b)
  meet (one_more front rest first others is) (one_more ahead next second those those_are) m j below input back other left place o s t e f a b =
      let k = same_front rest next back other first second is those_are e f in
      meet others those m j below (rest ++ back) back other left place (octets_back front _ (subst AreOctets (after_first front rest back is e) o)) s t refl k.rests a b

  one_place : (m : ℕ) (j : ℕ) (input left place : List ℕ) → AreOctets input → IsStop left → IsStop place → IsNestedIn rule m input left → IsNestedIn rule j input place → left ≡ place
  one_place zero j input left place o s t n k =
      let p = split zero input left n in
      let q = split j input place k in
      meet p.whole q.whole zero j tt input p.back q.back left place o s t p.is q.is p.then q.then
  one_place (suc m) j input left place o s t n k =
      let p = split (suc m) input left n in
      let q = split j input place k in
      meet p.whole q.whole (suc m) j (λ i body l r d u v a b. one_place m i body l r d u v a b) input p.back q.back left place o s t p.is q.is p.then q.then

  unparsable_once : (body : List ℕ) (f g : ParseError) → AreOctets body → IsUnparsable rule body f → IsUnparsable rule body g → f ≡ g
  unparsable_once body f g o a b =
      let e = one_place a.levels b.levels body a.left b.left o (a.open_there, f, a.refused) (b.open_there, g, b.refused) a.there b.there in
      let d : ◌≡◌ {A = Result Header ParseError} (Err f) (Err g) = sym a.refused ∙ (ap (header_at (loose rule) AnyTag) e ∙ b.refused) in
      cc

  fault_once : (input : List ℕ) (f g : ParseError) → AreOctets input → IsFault rule input f → IsFault rule input g → f ≡ g
  fault_once input f g o (inl a) (inl b) = cc
  fault_once input f g o (inl a) (inr (tag, body, h, u)) = let k = header_spelled (loose rule) AnyTag input tag true body indefinite o tt h in cc
  fault_once input f g o (inr (tag, body, h, u)) (inl b) = let k = header_spelled (loose rule) AnyTag input tag true body indefinite o tt h in cc
  fault_once input f g o (inr (tag, body, h, u)) (inr (t, inner, k, v)) =
      let e : body ≡ inner = (frame_one input h k).rest in
      unparsable_once inner f g (frame_octets input o k).0 (subst (λ l. IsUnparsable rule l f) e u) v

  open_fault_once : (tag : Option Tag) (input : List ℕ) (f g : ParseError) → AreOctets input → IsOpenFault rule tag input f → IsOpenFault rule tag input g → f ≡ g
  open_fault_once None input f g o a b = fault_once input f g o a b
  open_fault_once (Some tag) input f g o (inl a) (inl b) = cc
  open_fault_once (Some tag) input f g o (inl a) (inr (h, k, e, u)) = cc
  open_fault_once (Some tag) input f g o (inr (h, k, e, u)) (inl b) = cc
  open_fault_once (Some tag) input f g o (inr (h, k, e, u)) (inr (i, l, d, v)) =
      let x : h ≡ i = cc in
      let y = (header_parsed (form rule) (as_written rule tag true) input i o l).0 in
      unparsable_once i.rest f g (frame_octets input o y).0 (subst (λ (z : Header). IsUnparsable rule z.rest f) x u) v

pub open_type_once : (tag : Tag) → IsRefusedOnce (errors_of (DecodesOpenType tag))
open_type_once tag old o e f new other ((inl a, s), m) b = absurd (m a.0)
open_type_once tag old o e f new other ((inr a, s), m) ((inl b, t), n) = absurd (n b.0)
open_type_once tag old o e f new other ((inr (x, a, c), s), m) ((inr (y, b, d), t), n) =
    let z = open_fault_once old.rule (looked_for tag) old.rest x y o a.1 b.1 in (same_fault z c d, s ∙ sym t)

pub open_type_apart : (tag : Tag) → AreApart (errors_of (DecodesOpenType tag)) (ReadsShape (any (looked_for tag)))
open_type_apart tag = exactly_apart _ (ReadsShape (any (looked_for tag))) (λ old o e new a. open_decodes tag old new (Err e) a) (open_type_once tag)
