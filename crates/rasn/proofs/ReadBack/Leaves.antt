-- A leaf that is written is read again.
use Rattle.std.proofs.Common.{◌≡◌, ℕ, zero, suc, ◌<◌, ◌≢◌, inl, inr, List, [], ◌∷◌, ◌++◌, length, true, false, ℤ, refl, sym, subst, arith, ap, ◌∙◌}
use Rattle.rasn_types.specs.Tags.{tag_bit, eoc, form, IsStrict, in_universal}
use Rattle.rasn_types.specs.declared.types.codec.Codec.{Codec}
use Rattle.rasn_types.specs.declared.types.codec.Codec.TheVariants.{Ber, Cer, Der}
use Rattle.rasn_types.specs.declared.types.tag.Tag.{Tag}
use Rattle.rasn_types.specs.Framing.{Frame, definite}
use Rattle.rasn_types.specs.Shapes.{Tree, Kind, boolean, null, object_identifier, integer, enumerated, octet_string, fixed, numeric, printable, visible, ia5, any_octets, bmp, universal, utf8, real, time_text, time_digits, utc_time, generalized_time, date, bits}
use Rattle.rasn_types.specs.declared.types.constraints.Constraints.{Constraints}
use Rattle.rasn_types.specs.Readings.{ReadsContents, definite_form, indefinite_form, ReadsMany}
use Rattle.rasn_types.specs.Contents.{joined_lists, ReadsString, primitive, segments, closed_segments, ReadsBitSegment, OctetSegment, Contents, IsBool}
use Rattle.rasn_types.specs.Grammar.{Family, plain_family, bit_family, named_family, text_family, family, ReadsIn, ReadsLeaf, Text, IsBounded}
use Rattle.rasn_types.specs.Bytes.{Writing, Same, PrimitiveEncoding, Each, IsCer, WritesString, WrittenBits, WritesText, WritesOctets, WritesIn}
use Rattle.rasn_types.specs.Carried.{LeafIsWithinLimits, IsCarriedTime}
use Rattle.rasn_types.specs.Lawful.{IsBitFree}
use Rattle.rasn_types.proofs.Headers.Frames.{frame_next}
use Rattle.rasn_types.proofs.CharacterString.Segments.{many_segments}
use Rattle.rasn_types.proofs.Encoding.SameOctets.{in_flat, flat_same}
use Rattle.rasn.proofs.ReadBack.Headers.{no_eoc}
use Rattle.rasn.proofs.Time.Texts.{utc_back, generalized_back, date_back}
use Rattle.rasn.proofs.Included.IntoBer.{bool_in}
use Rattle.rasn.proofs.ReadBack.Constructed.{definite_back, IsReadAs, cons_back, EachReadBack, many_back, each_equal}

-- A written piece is a read segment.
abbrev pub SegmentIsRead : {X : Type 0} → Writing (List X) → (List ℕ → List X → Type 0) → Type 0
SegmentIsRead {X} writes segment = (xs : List X) (l : List ℕ) → writes xs l → segment l xs

in_segments : {X : Type 0} {rule : Codec} {segment : List ℕ → List X → Type 0} {inner : Tag} {depth : ℕ} {tag : Tag} {input : List ℕ} (parts : List (List X)) {rest : List ℕ}
    → (IsStrict rule → ⊥) → ReadsContents rule tag true (λ c. ReadsMany (ReadsString rule segment inner depth inner) c) input parts rest → ReadsString rule segment inner (suc depth) tag input (joined_lists parts) rest
in_segments parts has (definite_form c f m) = segments c has f (many_segments c parts [] m)
in_segments parts has (indefinite_form body f m) = closed_segments body has f (many_segments body parts _ m)

prim_frame : (rule : Codec) (tag : Tag) (c b rest : List ℕ) → tag ≢ eoc → tag_bit tag ≡ false → PrimitiveEncoding tag c b → Frame (form rule) (b ++ rest) tag false rest (definite c)
prim_frame rule tag c b rest one e p = subst (λ x. Frame (form rule) (b ++ rest) tag x rest (definite c)) e (definite_back rest one p)

pieces_back : {X : Type 0} (rule : Codec) (writes : Writing (List X)) (segment : List ℕ → List X → Type 0) → SegmentIsRead writes segment
    → (inner : Tag) → inner ≢ eoc → tag_bit inner ≡ false → (depth : ℕ) (ps : List (List X)) (bs : List (List ℕ))
    → Each (λ p c. (contents : List ℕ) × writes p contents × PrimitiveEncoding inner contents c) ps bs
    → EachReadBack (λ x y. y ≡ x) (ReadsString rule segment inner depth inner) ps bs
pieces_back rule writes segment is inner one e depth [] bs h = h
pieces_back rule writes segment is inner one e depth (p ∷ ps) bs (b, cs, f, (c, w, d), h) = (
  b,
  cs,
  f,
  record {
    is = p;
    same = refl;
    again = λ rest. primitive c (prim_frame rule inner c b rest one e d) (is p c w);
    begins = λ rest. (form rule, inner, frame_next (definite_back {rule = form rule} rest one d));
  },
  pieces_back rule writes segment is inner one e depth ps cs h,
)

cer_segments : (rule : Codec) → IsCer rule → IsStrict rule → ⊥
cer_segments Ber h = absurd h
cer_segments Cer h = λ s. s
cer_segments Der h = absurd h

str_back : {X : Type 0} (rule : Codec) (writes : Writing (List X)) (segment : List ℕ → List X → Type 0) → SegmentIsRead writes segment
    → (size : ℕ) (inner tag : Tag) → inner ≢ eoc → tag ≢ eoc → tag_bit inner ≡ false → tag_bit tag ≡ false → (depth : ℕ) (xs : List X) (b : List ℕ)
    → (IsCer rule → size < length xs → 0 < depth) → WritesString rule writes size inner tag xs b
    → (rest : List ℕ) → ReadsString rule segment inner depth tag (b ++ rest) xs rest
str_back rule writes segment is size inner tag one two e f depth xs b deep (inl (short, c, w, d)) rest =
    primitive c (prim_frame rule tag c b rest two f d) (is xs c w)
str_back {X} rule writes segment is size inner tag one two e f depth xs b deep (inr (cut, long, ps, bs, g, sizes, each, d)) rest = go depth (deep cut long)
  where
    go : (depth : ℕ) → 0 < depth → ReadsString rule segment inner depth tag (b ++ rest) xs rest
    go zero h = absurd (omega arith)
    go (suc n) h =
        let m = many_back (λ x y. y ≡ x) (ReadsString rule segment inner n inner) ps bs (pieces_back rule writes segment is inner one e n ps bs each) in
        let q : IsReadAs (λ c. ReadsMany (ReadsString rule segment inner n inner) c) (joined_lists bs) ps =
        subst (λ us. IsReadAs (λ c. ReadsMany (ReadsString rule segment inner n inner) c) (joined_lists bs) us) (each_equal ps m.0 m.1) m.2 in
        subst (λ ys. ReadsString rule segment inner (suc n) tag (b ++ rest) ys rest) (sym g)
        (in_segments ps (cer_segments rule cut) (cons_back rule tag two (joined_lists bs) b d (λ c. ReadsMany (ReadsString rule segment inner n inner) c) ps q rest))

text_back : (rule : Codec) (kind : Kind) (l : List ℕ) (t : Tree) → IsCarriedTime kind t → WritesText kind l t → Text rule kind l t
text_back rule octet_string l t c h = h
text_back rule (fixed n) l t c h = h
text_back rule numeric l t c h = h
text_back rule printable l t c h = h
text_back rule visible l t c h = h
text_back rule ia5 l t c h = h
text_back rule any_octets l t c h = h
text_back rule bmp l t c h = h
text_back rule universal l t c h = h
text_back rule utf8 l t c h = h
text_back rule utc_time l t c h = utc_back rule l t c h
text_back rule generalized_time l t c h = generalized_back rule l t c h
text_back rule date l t c h = date_back rule l t c h
text_back rule kind l t c h = absurd h

bool_der : (rule : Codec) (l : List ℕ) (z : ℤ) → IsBool Der l z → IsBool rule l z
bool_der Ber l z h = bool_in Der l z h
bool_der Cer l z h = h
bool_der Der l z h = h

contents_der : (rule : Codec) (kind : Kind) (l : List ℕ) (t : Tree) → Contents Der kind l t → Contents rule kind l t
contents_der rule boolean l t (z, e, h) = (z, e, bool_der rule l z h)
contents_der rule (integer range) l t h = h
contents_der rule (enumerated known) l t h = h
contents_der rule null l t h = h
contents_der rule object_identifier l t h = h
contents_der rule real l t (octets, e, (r, d, c, w)) = (octets, e, (r, d, c, λ z. w tt))
contents_der rule time_text l t h = h
contents_der rule (time_digits n) l t h = h
contents_der rule kind l t h = absurd h

in_back : (which : Family) (rule : Codec) (kind : Kind) (tag : Tag) → tag ≢ eoc → IsBitFree which tag → (depth : ℕ) (t : Tree) (b : List ℕ)
    → LeafIsWithinLimits which rule kind depth t → WritesIn which rule kind tag t b → (rest : List ℕ) → ReadsIn which rule kind tag depth (b ++ rest) t rest
in_back plain_family rule kind tag one free depth t b within_limits (c, w, d) rest = (tag_bit tag, c, definite_back rest one d, contents_der rule kind c t w.is, λ z. (refl, w.shortest))
in_back bit_family rule kind tag one free depth t b within_limits (bs, e, w) rest =
    (bs, e, (within_limits bs e).0, str_back rule WrittenBits (ReadsBitSegment rule) (λ xs l w. (w.is, λ z. w.zeros)) 7992 (in_universal 3) tag (no_eoc 3 (omega arith)) one refl free depth bs b (within_limits bs e).1 w rest)
in_back named_family rule kind tag one free depth t b within_limits (bs, e, m, w) rest = (
  bs,
  e ∙ ap bits (sym m),
  (within_limits bs e).0,
  str_back rule WrittenBits (ReadsBitSegment rule) (λ xs l w. (w.is, λ z. w.zeros)) 7992 (in_universal 3) tag (no_eoc 3 (omega arith)) one refl free depth bs b (within_limits bs e).1 w rest,
  λ z. m,
)
in_back text_family rule kind tag one free depth t b within_limits (l, x, w) rest = (
  l,
  str_back rule WritesOctets OctetSegment (λ xs l w. sym w.0) 1000 (in_universal 4) tag (no_eoc 4 (omega arith)) one refl free depth l b (within_limits.1 l x) w rest,
  text_back rule kind l t within_limits.0 x,
)

pub leaf_back : (rule : Codec) (kind : Kind) (tag : Tag) (bounds : Constraints) → tag ≢ eoc → IsBitFree (family kind) tag → (depth : ℕ) (t : Tree) (b : List ℕ)
    → LeafIsWithinLimits (family kind) rule kind depth t → IsBounded kind bounds t → WritesIn (family kind) rule kind tag t b
    → (u : Tree) × Same t u × ((rest : List ℕ) → ReadsLeaf rule kind tag bounds depth (b ++ rest) u rest)
leaf_back rule kind tag bounds one free depth t b within_limits bounded w =
    (t, flat_same t (in_flat (family kind) rule kind tag t b w), λ rest. (in_back (family kind) rule kind tag one free depth t b within_limits w rest, bounded))
