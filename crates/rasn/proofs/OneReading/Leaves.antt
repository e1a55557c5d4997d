-- A leaf is read in one way.
use Rattle.std.proofs.Common.{◌≡◌, ℕ, suc, ◌+◌, inl, inr, List, [], ◌∷◌, ◌++◌, length, Bool, true, false, ℤ, map, refl, sym, ap, ap₂, ◌∙◌, subst, arith, length-append}
use Rattle.rasn_types.specs.Tags.{Form, form}
use Rattle.rasn_types.specs.declared.types.codec.Codec.{Codec}
use Rattle.rasn_types.specs.declared.types.codec.Codec.TheVariants.{Ber, Cer, Der}
use Rattle.rasn_types.specs.declared.types.tag.Tag.{Tag}
use Rattle.rasn_types.specs.Framing.{Extent, definite, indefinite, Frame, number_in}
use Rattle.rasn_types.specs.Shapes.{Tree, number, bits, numbers, Kind, boolean, null, object_identifier, octet_string, integer, enumerated, fixed, numeric, printable, visible, ia5, any_octets, bmp, universal, utf8, real, time_text, time_digits, utc_time, generalized_time, date}
use Rattle.rasn_types.specs.declared.types.constraints.Constraints.{Constraints}
use Rattle.rasn_types.specs.Contents.{IsBool, Contents, bits_of, joined_lists, BitSegment, ReadsBitSegment, OctetSegment, ReadsString, primitive, segments, closed_segments, ReadsSegments}
use Rattle.rasn_types.specs.BitString.{significant}
use Rattle.rasn_types.specs.Grammar.{Text, units, quads, Family, plain_family, bit_family, named_family, text_family, family, ReadsIn, ReadsLeaf}
use Rattle.rasn_types.proofs.Headers.Frames.{frame_one, split_one}
use Rattle.rasn_de.proofs.Leaves.ObjectIdentifier.{identifier_one}
use Rattle.rasn_types.proofs.Reals.{canonical_one}
use Rattle.rasn.proofs.Time.Texts.{utc_one, generalized_one, date_one}
use Rattle.rasn.proofs.OneReading.Joined.{IsOne}

bool_one : (rule : Codec) (l : List ℕ) (y z : ℤ) → IsBool rule l y → IsBool rule l z → y ≡ z
bool_one Ber l y z (b, p, inl q) (c, r, inl s) = let e = q.1 in let f = s.1 in cc
bool_one Ber l y z (b, p, inl q) (c, r, inr s) = let f : b ≡ c = cc in absurd (s.0 (sym f ∙ q.0))
bool_one Ber l y z (b, p, inr q) (c, r, inl s) = let f : b ≡ c = cc in absurd (q.0 (f ∙ s.0))
bool_one Ber l y z (b, p, inr q) (c, r, inr s) = let e = q.1 in let f = s.1 in cc
bool_one Cer l y z (inl h) (inl k) = let e = h.1 in let f = k.1 in cc
bool_one Cer l y z (inl h) (inr k) = absurd (omega (arith, ap (λ l. number_in 256 l) (sym h.0 ∙ k.0)))
bool_one Cer l y z (inr h) (inl k) = absurd (omega (arith, ap (λ l. number_in 256 l) (sym h.0 ∙ k.0)))
bool_one Cer l y z (inr h) (inr k) = let e = h.1 in let f = k.1 in cc
bool_one Der l y z (inl h) (inl k) = let e = h.1 in let f = k.1 in cc
bool_one Der l y z (inl h) (inr k) = absurd (omega (arith, ap (λ l. number_in 256 l) (sym h.0 ∙ k.0)))
bool_one Der l y z (inr h) (inl k) = absurd (omega (arith, ap (λ l. number_in 256 l) (sym h.0 ∙ k.0)))
bool_one Der l y z (inr h) (inr k) = let e = h.1 in let f = k.1 in cc

contents_one : (rule : Codec) (kind : Kind) (l : List ℕ) (t u : Tree) → Contents rule kind l t → Contents rule kind l u → t ≡ u
contents_one rule boolean l t u h k = h.1 ∙ (ap number (bool_one rule l h.0 k.0 h.2 k.2) ∙ sym k.1)
contents_one rule (integer range) l t u h k = h.0 ∙ sym k.0
contents_one rule (enumerated known) l t u h k = h.0 ∙ sym k.0
contents_one rule null l t u h k = h.0 ∙ sym k.0
contents_one rule object_identifier l t u h k = h.1 ∙ (ap numbers (identifier_one l h.0 k.0 h.2 k.2) ∙ sym k.1)
contents_one rule real l t u h k = h.1 ∙ (ap numbers (canonical_one l h.0 k.0 h.2.0 k.2.0 h.2.1 k.2.1 h.2.2 k.2.2) ∙ sym k.1)
contents_one rule time_text l t u h k = h.0 ∙ sym k.0
contents_one rule (time_digits n) l t u h k = h.0 ∙ sym k.0
contents_one rule kind l t u h k = absurd h

pub units_one : (l a b : List ℕ) → units l a → units l b → a ≡ b
units_one [] a b h k = cc
units_one (x ∷ []) a b h k = absurd h
units_one (x ∷ y ∷ l) a b h k = let e = units_one l h.0 k.0 h.2 k.2 in let p = h.1 in let q = k.1 in cc

pub quads_one : (l a b : List ℕ) → quads l a → quads l b → a ≡ b
quads_one [] a b h k = cc
quads_one (w ∷ []) a b h k = absurd h
quads_one (w ∷ x ∷ []) a b h k = absurd h
quads_one (w ∷ x ∷ y ∷ []) a b h k = absurd h
quads_one (w ∷ x ∷ y ∷ z ∷ l) a b h k = let e = quads_one l h.1 k.1 h.5 k.5 in let f = h.2 in let g = k.2 in let p = h.4 in let q = k.4 in cc

text_one : (rule : Codec) (kind : Kind) (l : List ℕ) (t u : Tree) → Text rule kind l t → Text rule kind l u → t ≡ u
text_one rule octet_string l t u h k = h ∙ sym k
text_one rule (fixed n) l t u h k = h.0 ∙ sym k.0
text_one rule numeric l t u h k = h.0 ∙ sym k.0
text_one rule printable l t u h k = h.0 ∙ sym k.0
text_one rule visible l t u h k = h.0 ∙ sym k.0
text_one rule ia5 l t u h k = h.0 ∙ sym k.0
text_one rule any_octets l t u h k = h ∙ sym k
text_one rule bmp l t u h k = h.1 ∙ (ap numbers (units_one l h.0 k.0 h.2 k.2) ∙ sym k.1)
text_one rule universal l t u h k = h.1 ∙ (ap numbers (quads_one l h.0 k.0 h.2 k.2) ∙ sym k.1)
text_one rule utf8 l t u h k = h.0 ∙ sym k.0
text_one rule utc_time l t u h k = utc_one rule l t u h k
text_one rule generalized_time l t u h k = generalized_one rule l t u h k
text_one rule date l t u h k = date_one rule l t u h k
text_one rule kind l t u h k = absurd h

segment_one : (l : List ℕ) (a b : List Bool) → BitSegment l a → BitSegment l b → a ≡ b
segment_one l a b h k =
    let p = h.is in let q = k.is in
    let e : length h.unused ≡ length k.unused = cc in
    let f : h.octets ≡ k.octets = cc in
    let g : a ++ h.unused ≡ b ++ k.unused = h.all ∙ (ap (λ o. joined_lists (map bits_of o)) f ∙ sym k.all) in
    let n : length a + length h.unused ≡ length b + length k.unused = sym (length-append a h.unused) ∙ (ap length g ∙ length-append b k.unused) in
    (split_one a b h.unused k.unused (omega arith) g).0

primitive_built : {spelling other : Form} {input r s c : List ℕ} {t u : Tag} {x : Extent} → Frame spelling input t false r (definite c) → Frame other input u true s x → ⊥
primitive_built f g = let e = (frame_one _ f g).bit in cc

definite_closed : {spelling other : Form} {input r s c : List ℕ} {t u : Tag} {b d : Bool} → Frame spelling input t b r (definite c) → Frame other input u d s indefinite → ⊥
definite_closed f g = let e = (frame_one _ f g).extent in cc

primitive_one : {X : Type 0} (rule : Codec) (segment : List ℕ → List X → Type 0) → ((l : List ℕ) (a b : List X) → segment l a → segment l b → a ≡ b)
    → (t u : Tag) (input : List ℕ) (a b : List X) (r s : List ℕ)
    → (c : List ℕ) × Frame (form rule) input t false r (definite c) × segment c a
    → (c : List ℕ) × Frame (form rule) input u false s (definite c) × segment c b → (a ≡ b) × (r ≡ s)
primitive_one rule segment one t u input a b r s h k =
    let o = frame_one input h.1 k.1 in
    let e = o.extent in
    let f : h.0 ≡ k.0 = cc in
    (one k.0 a b (subst (λ l. segment l a) f h.2) k.2, o.rest)

zeros_one : (r s : List ℕ) → 0 ∷ 0 ∷ r ≡ 0 ∷ 0 ∷ s → r ≡ s
zeros_one r s e = cc

mutual
  pub str_one : {X : Type 0} (rule : Codec) (segment : List ℕ → List X → Type 0) → ((l : List ℕ) (a b : List X) → segment l a → segment l b → a ≡ b)
      → (inner : Tag) (depth : ℕ) (tag : Tag) → IsOne (ReadsString rule segment inner depth tag)
  str_one rule segment one inner depth tag input a b r s (primitive c f p) (primitive d g q) = primitive_one rule segment one tag tag input a b r s (c, f, p) (d, g, q)
  str_one rule segment one inner depth tag input a b r s (primitive c f p) (segments d has g m) = absurd (primitive_built f g)
  str_one rule segment one inner depth tag input a b r s (primitive c f p) (closed_segments d has g m) = absurd (primitive_built f g)
  str_one rule segment one inner depth tag input a b r s (segments c has f m) (primitive d g q) = absurd (primitive_built g f)
  str_one rule segment one inner depth tag input a b r s (closed_segments c has f m) (primitive d g q) = absurd (primitive_built g f)
  str_one rule segment one inner (suc depth) tag input a b r s (segments c has f m) (segments d too g n) =
      let o = frame_one input f g in
      let e = o.extent in
      let k : c ≡ d = cc in
      ((segments_one rule segment one inner depth false d a b [] [] (subst (λ l. ReadsSegments rule segment inner depth false l a []) k m) n).0, o.rest)
  str_one rule segment one inner depth tag input a b r s (segments c has f m) (closed_segments d too g n) = absurd (definite_closed f g)
  str_one rule segment one inner depth tag input a b r s (closed_segments c has f m) (segments d too g n) = absurd (definite_closed g f)
  str_one rule segment one inner (suc depth) tag input a b r s (closed_segments c has f m) (closed_segments d too g n) =
      let k = (frame_one input f g).rest in
      let o = segments_one rule segment one inner depth true d a b (0 ∷ 0 ∷ r) (0 ∷ 0 ∷ s) (subst (λ l. ReadsSegments rule segment inner depth true l a (0 ∷ 0 ∷ r)) k m) n in
      (o.0, zeros_one r s o.1)

  segments_one : {X : Type 0} (rule : Codec) (segment : List ℕ → List X → Type 0) → ((l : List ℕ) (a b : List X) → segment l a → segment l b → a ≡ b)
      → (inner : Tag) (depth : ℕ) (closing : Bool) → IsOne (ReadsSegments rule segment inner depth closing)
  segments_one rule segment one inner depth closing input a b r s (ReadsSegments.none e) (ReadsSegments.none f) = (refl, refl)
  segments_one rule segment one inner depth closing input a b r s (ReadsSegments.none e) (ReadsSegments.one_more first others middle n h more is) = absurd (n e)
  segments_one rule segment one inner depth closing input a b r s (ReadsSegments.one_more first others middle n h more is) (ReadsSegments.none e) = absurd (n e)
  segments_one rule segment one inner depth closing input a b r s (ReadsSegments.one_more x xs l n h more is) (ReadsSegments.one_more y ys m o k others are) =
      let p = str_one rule segment one inner depth inner input x y l m h k in
      let q = segments_one rule segment one inner depth closing m xs ys r s (subst (λ i. ReadsSegments rule segment inner depth closing i xs r) p.1 more) others in
      (is ∙ (ap₂ (λ v w. v ++ w) p.0 q.0 ∙ sym are), q.1)

reads_in_one : (which : Family) (rule : Codec) (kind : Kind) (tag : Tag) (depth : ℕ) → IsOne (ReadsIn which rule kind tag depth)
reads_in_one plain_family rule kind tag depth input t u r s h k =
    let o = frame_one input h.2 k.2 in
    let e = o.extent in
    let f : h.1 ≡ k.1 = cc in
    (contents_one rule kind k.1 t u (subst (λ l. Contents rule kind l t) f h.3) k.3, o.rest)
reads_in_one bit_family rule kind tag depth input t u r s h k =
    let o = str_one rule (ReadsBitSegment rule) (λ l a b h k. segment_one l a b h.0 k.0) _ depth tag input h.0 k.0 r s h.3 k.3 in
    (h.1 ∙ (ap bits o.0 ∙ sym k.1), o.1)
reads_in_one named_family rule kind tag depth input t u r s h k =
    let o = str_one rule (ReadsBitSegment rule) (λ l a b h k. segment_one l a b h.0 k.0) _ depth tag input h.0 k.0 r s h.3 k.3 in
    (h.1 ∙ (ap (λ (bs : List Bool). bits (significant bs)) o.0 ∙ sym k.1), o.1)
reads_in_one text_family rule kind tag depth input t u r s h k =
    let o = str_one rule OctetSegment (λ l a b p q. p ∙ sym q) _ depth tag input h.0 k.0 r s h.1 k.1 in
    (text_one rule kind k.0 t u (subst (λ l. Text rule kind l t) o.0 h.2) k.2, o.1)

pub leaf_one : (rule : Codec) (kind : Kind) (tag : Tag) (bounds : Constraints) (depth : ℕ) → IsOne (ReadsLeaf rule kind tag bounds depth)
leaf_one rule kind tag bounds depth input t u r s h k = reads_in_one (family kind) rule kind tag depth input t u r s h.0 k.0
