-- A BIT STRING is read exactly where the grammar has one.
use Rattle.std.proofs.Common.{◌≡◌, ◌≢◌, ◌≤◌, ◌<◌, ◌+◌, ◌-◌, ◌*◌, ◌^◌, ℕ, ◌⊎◌, inl, inr, Bool, true, false, ◌&&◌, cond, List, [], ◌∷◌, ◌++◌, length, take, drop, Result, Ok, Err, refl, sym, ap, ◌∙◌, subst, arith}
use Rattle.std.specs.Prelude.{nat_lt}
use Rattle.std.proofs.lemmas.Bool.Decides.{nat_tests}
use Rattle.std.proofs.lemmas.List.{length-append, length-drop, take-append-drop, take_at, drop_at}
use Rattle.rasn_types.specs.declared.types.tag.Tag.{Tag}
use Rattle.rasn_types.specs.declared.types.codec.Codec.{Codec}
use Rattle.rasn_types.specs.declared.types.codec.Codec.TheVariants.{Ber, Cer, Der}
use Rattle.rasn_types.specs.declared.types.constraints.Constraints.{Constraints}
use Rattle.rasn_types.specs.declared.error.decode.DecodeError.{DecodeError}
use Rattle.rasn_types.specs.Framing.{AreOctets, definite}
use Rattle.rasn_types.specs.Tags.{form, in_universal}
use Rattle.rasn_types.specs.Shapes.{Tree, bits, leaf, bit_string, Admits}
use Rattle.rasn_types.specs.Tags.{IsStrict}
use Rattle.rasn_types.specs.Contents.{ReadsString, AllFalse, ReadsBitSegment}
use Rattle.rasn_types.specs.BitString.{bits_in, but_last}
use Rattle.rasn_types.specs.Grammar.{Reads, ReadsLeaf, IsBounded}
use Rattle.rasn_types.proofs.BitString.Bits.{length-bits_in}
use Rattle.rasn_de.specs.declared.ber.de.parser.ParseError.{ParseError}
use Rattle.rasn_de.specs.declared.ber.de.parser.ParseError.TheVariants.{OutOfMemory, InvalidBitString, LengthExceedsPlatformWidth, Der}
use Rattle.rasn_types.specs.declared.error.decode.DerDecodeErrorKind.TheVariants.{NonzeroUnusedBits}
use Rattle.rasn_de.specs.Headers.{is_der, Header, header_at}
use Rattle.rasn_de.specs.declared.ber.de.parser.headers.Expected.TheVariants.{Tagged}
use Rattle.rasn_de.specs.Segments.{string_of, without_memory}
use Rattle.rasn_de.specs.ParserViews.{FailsToParse}
use Rattle.rasn_de.specs.Causes.{Cause, fault, error_kind}
use Rattle.rasn_de.specs.BitString.{is_miscounted, last_bits, is_any_set, segment_bits, bit_string_at, bits_tree, BitsAt, IsOversized, FailsAtBits, refused, gathering, copying, DecodesBitString, DecodesBits}
use Rattle.rasn_de.specs.State.{State, at, IsEnd}
use Rattle.rasn_de.specs.Steps.{IsErrorOf}
use Rattle.rasn_de.specs.CharacterString.{IsOutOfSize}
use Rattle.rasn_de.specs.Decodes.{Decodes}
use Rattle.rasn_de.proofs.Leaves.Outcomes.{Agrees, decoded_answers, alloc_failed, alloc_failed_before}
use Rattle.rasn_de.proofs.Headers.Ends.{IsEnd-refl}
use Rattle.rasn_de.proofs.Headers.Forms.{primitive_form, constructed_form, header_memory}
use Rattle.rasn_de.proofs.Headers.Memory.{NoMemory, none_cond}
use Rattle.rasn_de.proofs.Headers.NextTag.{kind_memory, memory_or}
use Rattle.rasn_de.proofs.Strings.Segments.{IsNested, string_plain, string_plain_fault}
use Rattle.rasn_de.proofs.Leaves.Errors.{refuses_fault}
use Rattle.rasn_de.proofs.Strings.Ends.{string_ends}
use Rattle.rasn_de.proofs.Strings.Reads.{Reads as ReadsBy, string_parsed, string_spelled, string_map}
use Rattle.rasn_de.proofs.Headers.Results.{guarded}
use Rattle.rasn_de.proofs.Strings.Checks.{size_plain}

-- ---- one segment
counted : (u : ℕ) (octets : List ℕ) → is_miscounted u octets ≡ false → (u < 8) × (u ≤ 8 * length octets)
counted u [] e = let h : nat_lt 0 u ≡ false = e in (grind (arith, nat_tests), grind (arith, nat_tests))
counted u (b ∷ l) e = let h : nat_lt 7 u ≡ false = e in let k : u < 8 = grind (arith, nat_tests) in (k, omega arith)

miscounted : (u : ℕ) (octets : List ℕ) → u < 8 → u ≤ 8 * length octets → is_miscounted u octets ≡ false
miscounted u [] h k = let z : u ≡ 0 = omega arith in ap (nat_lt 0) z
miscounted u (b ∷ l) h k = grind (arith, nat_tests)

-- bits of which none is set
all_false : (bs : List Bool) → is_any_set bs ≡ false → AllFalse bs
all_false [] e = tt
all_false (true ∷ bs) e = cc
all_false (false ∷ bs) e = (refl, all_false bs e)

none_set : (bs : List Bool) → AllFalse bs → is_any_set bs ≡ false
none_set [] h = refl
none_set (true ∷ bs) (e, h) = cc
none_set (false ∷ bs) (e, h) = none_set bs h

unset_there : (rule : Codec) (bs : List Bool) → is_der rule && is_any_set bs ≡ false → IsStrict rule → AllFalse bs
unset_there Ber bs e s = absurd s
unset_there Cer bs e s = absurd s
unset_there Der bs e s = all_false bs e

unset : (rule : Codec) (bs : List Bool) → (IsStrict rule → AllFalse bs) → is_der rule && is_any_set bs ≡ false
unset Ber bs h = refl
unset Cer bs h = refl
unset Der bs h = none_set bs (h tt)

segment_there : (rule : Codec) (l : List ℕ) (bs : List Bool) → segment_bits rule l ≡ Ok bs → ReadsBitSegment rule l bs
segment_there rule [] bs e = cc
segment_there rule (u ∷ octets) bs e =
    let unused = last_bits u octets in
    let g = guarded (is_miscounted u octets) (InvalidBitString u) (cond (is_der rule && is_any_set unused) (Err (Der NonzeroUnusedBits)) (Ok (but_last u octets))) bs e in
    let h = guarded (is_der rule && is_any_set unused) (Der NonzeroUnusedBits) (Ok (but_last u octets)) bs g.1 in
    let f = h.1 in
    let m : but_last u octets ≡ bs = cc in
    let k = counted u octets g.0 in
    let n : length unused ≡ u = length-drop (8 * length octets - u) (bits_in octets) ∙ omega (arith, length-bits_in octets, k.1) in (
      record {
        octets = octets;
        unused = unused;
        is = ap (λ z. z ∷ octets) (sym n);
        few = omega (arith, n, k.0);
        all = ap (λ z. z ++ unused) (sym m) ∙ take-append-drop (8 * length octets - u) (bits_in octets);
      },
      unset_there rule unused h.0,
    )

segment_only : (rule : Codec) (l : List ℕ) (bs : List Bool) → ReadsBitSegment rule l bs → segment_bits rule l ≡ Ok bs
segment_only rule l bs (s, w) =
    let n = ap length s.all in
    let c : length bs + length s.unused ≡ 8 * length s.octets = sym (length-append bs s.unused) ∙ (n ∙ length-bits_in s.octets) in
    let p : length bs ≡ 8 * length s.octets - length s.unused = omega (arith, c) in
    let m = miscounted (length s.unused) s.octets s.few (omega (arith, c)) in
    let b : but_last (length s.unused) s.octets ≡ bs = ap (take (8 * length s.octets - length s.unused)) (sym s.all) ∙ take_at bs s.unused (8 * length s.octets - length s.unused) p in
    let u : last_bits (length s.unused) s.octets ≡ s.unused = ap (drop (8 * length s.octets - length s.unused)) (sym s.all) ∙ drop_at bs s.unused (8 * length s.octets - length s.unused) p in
    let z : is_der rule && is_any_set (last_bits (length s.unused) s.octets) ≡ false = ap (λ y. is_der rule && is_any_set y) u ∙ unset rule s.unused w in
    ap (segment_bits rule) s.is ∙ rw (m, z, b) refl

-- ---- the whole string
module _ (rule : Codec) (d : ℕ) (tag : Tag) (l : List ℕ) (o : AreOctets l) where
  bits_not_absent : (bs : List Bool) (r : List ℕ) → bit_string_at rule d tag l ≡ Ok (bs, r) → ReadsString rule (ReadsBitSegment rule) (in_universal 3) d tag l bs r
  bits_not_absent bs r e =
      string_map rule (ReadsBy (segment_bits rule)) (ReadsBitSegment rule) (segment_there rule) (in_universal 3) d tag l bs r (string_parsed rule (segment_bits rule) (in_universal 3) d tag l (bs, r) o e).0

  bits_only : (bs : List Bool) (r : List ℕ) → ReadsString rule (ReadsBitSegment rule) (in_universal 3) d tag l bs r → bit_string_at rule d tag l ≡ Ok (bs, r)
  bits_only bs r s =
      string_spelled rule (segment_bits rule) (in_universal 3) d tag l bs r o (string_map rule (ReadsBitSegment rule) (ReadsBy (segment_bits rule)) (segment_only rule) (in_universal 3) d tag l bs r s)

  pub bits_end : (bs : List Bool) (r : List ℕ) → bit_string_at rule d tag l ≡ Ok (bs, r) → IsEnd l r
  bits_end bs r e = string_ends rule (ReadsBitSegment rule) (in_universal 3) d tag l bs r (bits_not_absent bs r e)

bits_agree : (bounds : Constraints) (rule : Codec) (depth : ℕ) (tag : Tag) (l : List ℕ) → AreOctets l → (r : Result (List Bool × List ℕ) (Cause × List ℕ)) → BitsAt bounds rule depth tag l r
    → Agrees (ReadsLeaf rule bit_string tag bounds depth) bits_tree l r
bits_agree bounds rule depth tag l o (Ok p) (e, n, a) =
    ((((p.0, refl, n, bits_not_absent rule depth tag l o p.0 p.1 e), a), λ t r w. same t r w), bits_end rule depth tag l o p.0 p.1 e)
  where
    same : (t : Tree) (r : List ℕ) → ReadsLeaf rule bit_string tag bounds depth l t r → (t ≡ bits p.0) × (r ≡ p.1)
    same t r ((xs, f, k, s), b) =
        let k = bits_only rule depth tag l o xs r s in
        let m : (xs, r) ≡ p = cc in
        (f ∙ ap (λ (z : List Bool × List ℕ). bits z.0) m, ap (λ (z : List Bool × List ℕ). z.1) m)
bits_agree bounds rule depth tag l o (Err e) (inl (f, h, g)) =
    ((λ t r w. none t r w), subst (λ (z : Cause × List ℕ). IsEnd l z.1) (sym g) (IsEnd-refl l))
  where
    none : (t : Tree) (r : List ℕ) → ReadsLeaf rule bit_string tag bounds depth l t r → ⊥
    none t r ((xs, j, n, s), b) = let k = bits_only rule depth tag l o xs r s in cc
bits_agree bounds rule depth tag l o (Err e) (inr (xs, h, z)) = ((λ t r w. none t r w), bits_end rule depth tag l o xs e.1 h)
  where
    over : IsOversized bounds xs e.0 → length xs < 2 ^ 64 → IsBounded bit_string bounds (bits xs) → ⊥
    over (inl (m, c)) n b = absurd (omega (arith, m, n))
    over (inr (m, a, c)) n b = a b

    none : (t : Tree) (r : List ℕ) → ReadsLeaf rule bit_string tag bounds depth l t r → ⊥
    none t r ((ys, j, n, s), b) =
        let k = bits_only rule depth tag l o ys r s in
        let q : (ys, r) ≡ (xs, e.1) = cc in
        let m : ys ≡ xs = ap (λ (z : List Bool × List ℕ). z.0) q in
        over z (subst (λ (z : List Bool). length z < 2 ^ 64) m n) (subst (λ (z : List Bool). IsBounded bit_string bounds (bits z)) m (subst (IsBounded bit_string bounds) j b))

pub bits_decodes : (tag : Tag) (bounds : Constraints) (old new : State) (result : Result (List Bool) DecodeError) → AreOctets old.rest → DecodesBitString tag bounds old result new → Decodes (leaf bit_string tag bounds) bits_tree old result new
unfolding Reads
bits_decodes tag bounds old new (Ok s) o g =
    decoded_answers (λ rule. Reads rule (leaf bit_string tag bounds)) bits_tree (λ (s : List Bool). s) (BitsAt bounds old.rule old.depth tag old.rest) old new (Ok s) (bits_agree bounds old.rule old.depth tag old.rest o) g
bits_decodes tag bounds old new (Err e) o (inr (inr g)) =
    decoded_answers (λ rule. Reads rule (leaf bit_string tag bounds)) bits_tree (λ (s : List Bool). s) (BitsAt bounds old.rule old.depth tag old.rest) old new (Err e) (bits_agree bounds old.rule old.depth tag old.rest o) g.1
bits_decodes tag bounds old new (Err e) o (inl (m, c, s, k)) = alloc_failed_before (λ rule. Reads rule (leaf bit_string tag bounds)) bits_tree old new e m s
bits_decodes tag bounds old new (Err e) o (inr (inl (m, c, s, k, bs, n, h))) =
    alloc_failed (λ rule. Reads rule (leaf bit_string tag bounds)) bits_tree old new e m s (bits_end old.rule old.depth tag old.rest o bs new.rest h)

-- bits that were gathered
pub collected_bits : (tag : Tag) (old new : State) (bs : List Bool) (rest : List ℕ) → bit_string_at old.rule old.depth tag old.rest ≡ Ok (bs, rest) → new ≡ at old rest → DecodesBits tag old (Ok bs) new
collected_bits tag old new bs rest h e =
    let P : State → Type 0 = λ n. DecodesBits tag old (Ok bs) n in
    subst P (sym e) (h, refl)

-- a fault that was reported after it
pub lacked_bits : (tag : Tag) (old new : State) (f : ParseError) (left : List ℕ) (e : DecodeError) → FailsAtBits old.rule old.depth tag old.rest f left → new ≡ at old left → IsErrorOf f new e → DecodesBits tag old (Err e) new
lacked_bits tag old new f left e w k x =
    let P : State → Type 0 = λ n. IsErrorOf f n e → DecodesBits tag old (Err e) n in
    subst P (sym k) (λ y. (f, y, refl, w)) x

-- bits that weren't
pub collects_refused : (tag : Tag) (bounds : Constraints) (old new : State) (e : DecodeError) → DecodesBits tag old (Err e) new → DecodesBitString tag bounds old (Err e) new
collects_refused tag bounds old new e (f, k, s, lacks) = go f new.rest lacks (ap (λ (x : DecodeError). x.kind) k) refl
  where
    codec_is : e.codec ≡ old.rule
    codec_is = ap (λ (x : DecodeError). x.codec) k

    go : (f : ParseError) (left : List ℕ) → FailsAtBits old.rule old.depth tag old.rest f left → e.kind ≡ error_kind f → new.rest ≡ left → DecodesBitString tag bounds old (Err e) new
    go f left (refused g n read) m r = inr (inr ((λ h. kind_memory g n (sym m ∙ h)), (fault g, inl (g, read, ap (λ z. (fault g, z)) r), m, codec_is, s)))
    go f left (gathering w) m r = inl (m, codec_is, s ∙ ap (λ z. at old z) r, w)
    go f left (copying bs rest n w h) m r = inr (inl (m, codec_is, s, w, bs, n, h ∙ ap (λ z. Ok (bs, z)) (sym r)))

-- 2 ^ 64 bits or more
pub collects_wide : (tag : Tag) (bounds : Constraints) (old new : State) (bs : List Bool) (e : DecodeError) → DecodesBits tag old (Ok bs) new → 2 ^ 64 ≤ length bs → IsErrorOf LengthExceedsPlatformWidth new e → DecodesBitString tag bounds old (Err e) new
collects_wide tag bounds old new bs e (h, k) n x =
    inr (inr (
      (λ m. kind_memory LengthExceedsPlatformWidth (λ e. cc) (sym (ap (λ (y : DecodeError). y.kind) x) ∙ m)),
      refuses_fault (BitsAt bounds old.rule old.depth tag old.rest) old new LengthExceedsPlatformWidth e (inr (bs, h, inl (n, refl))) k x,
    ))

-- bits whose number is within bounds
pub collects_admitted : (tag : Tag) (bounds : Constraints) (old new : State) (bs : List Bool) → DecodesBits tag old (Ok bs) new → length bs < 2 ^ 64 → Admits ◌≤◌ bounds.size (length bs) → DecodesBitString tag bounds old (Ok bs) new
collects_admitted tag bounds old new bs (h, k) n a = ((h, n, a), k)

-- bits whose number isn't
pub collects_size : (tag : Tag) (bounds : Constraints) (old new : State) (bs : List Bool) (f : ParseError) (e : DecodeError) → DecodesBits tag old (Ok bs) new → length bs < 2 ^ 64 → IsOutOfSize bounds.size (length bs) f
    → IsErrorOf f new e → DecodesBitString tag bounds old (Err e) new
collects_size tag bounds old new bs f e (h, k) w (n, i) x =
    inr (inr (
      (λ m. kind_memory f (size_plain bounds.size (length bs) f (n, i)) (sym (ap (λ (y : DecodeError). y.kind) x) ∙ m)),
      refuses_fault (BitsAt bounds old.rule old.depth tag old.rest) old new f e (inr (bs, h, inr (w, n, ap fault i))) k x,
    ))

-- ---- what a header and its contents tell
segment_none : (rule : Codec) (l : List ℕ) → NoMemory (segment_bits rule l)
segment_none rule [] = λ e. cc
segment_none rule (u ∷ octets) = none_cond (is_miscounted u octets) _ _ (λ e. cc) (none_cond (is_der rule && is_any_set (last_bits u octets)) _ _ (λ e. cc) tt)

pub segment_plain : (rule : Codec) (l : List ℕ) (f : ParseError) → segment_bits rule l ≡ Err f → f ≢ OutOfMemory
segment_plain rule l f e = subst NoMemory e (segment_none rule l)

module _ (rule : Codec) (d : ℕ) (tag : Tag) (l : List ℕ) where
  pub no_header : (f : ParseError) → header_at (form rule) (Tagged tag) l ≡ Err f → FailsAtBits rule d tag l f l
  no_header f e = refused f (header_memory rule tag l f e) (rw e refl)

  module _ (h : Header) (e : header_at (form rule) (Tagged tag) l ≡ Ok h) where
    pub one_segment : (c : List ℕ) (bs : List Bool) → (h.bit ≡ false) × (h.extent ≡ definite c) → segment_bits rule c ≡ Ok bs → bit_string_at rule d tag l ≡ Ok (bs, h.rest)
    one_segment c bs (b, x) s = rw e (string_plain rule (segment_bits rule) (in_universal 3) d h c bs b x s)

    pub segment_lacks : (c : List ℕ) (f : ParseError) → (h.bit ≡ false) × (h.extent ≡ definite c) → segment_bits rule c ≡ Err f → FailsAtBits rule d tag l f l
    segment_lacks c f (b, x) s = refused f (subst NoMemory s (segment_none rule c)) (rw e (string_plain_fault rule (segment_bits rule) (in_universal 3) d h c f b x s))

    pub segment_uncopied : (c : List ℕ) (bs : List Bool) → bs ≢ [] → AreOctets l → (h.bit ≡ false) × (h.extent ≡ definite c) → segment_bits rule c ≡ Ok bs → FailsAtBits rule d tag l OutOfMemory h.rest
    segment_uncopied c bs n o p s = copying bs h.rest n (primitive_form rule tag l h c o e p) (one_segment c bs p s)

    pub many_segments : (p : List Bool × List ℕ) → string_of rule (segment_bits rule) (in_universal 3) d h ≡ Ok p → bit_string_at rule d tag l ≡ Ok p
    many_segments p w = rw e w

    pub segments_lack : (f : ParseError) → AreOctets l → IsNested h → FailsToParse (string_of rule (segment_bits rule) (in_universal 3) d h) (string_of rule (without_memory (segment_bits rule)) (in_universal 3) d h) f → FailsAtBits rule d tag l f l
    segments_lack f o n (w, b) = go (memory_or f)
      where
        go : (f ≡ OutOfMemory) ⊎ (f ≢ OutOfMemory) → FailsAtBits rule d tag l f l
        go (inl m) = subst (λ z. FailsAtBits rule d tag l z l) (sym m) (gathering (constructed_form rule tag l h o e n, rw e (b m)))
        go (inr m) = refused f m (rw e (w m))
