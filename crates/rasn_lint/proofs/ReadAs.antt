-- What the reader of DER takes as a value of a universal type has contents that are allowed.
use Rattle.std.specs.Prelude.{MatchOption, IsUtf8}
use Rattle.std.specs.Cow.{cow_str_bytes}
use Rattle.std.specs.declared.borrow.CowSlice.{CowSlice}
use Rattle.std.specs.declared.borrow.CowStr.{CowStr}
use Rattle.std.specs.Prelude.{chars}
use Rattle.std.proofs.lemmas.List.{length-append, take-append-drop, length-take-le, drop_at}
use Rattle.std.proofs.Common.{◌≡◌, ◌≢◌, inl, inr, ◌<◌, ◌-◌, ◌/◌, ◌%◌, ◌^◌, ℕ, ℤ, pos, zero, suc, List, [], ◌∷◌, ◌++◌, map, length, take, drop, Bool, false, Option, None, Result, Ok, Err, Global, refl, sym, ap, ◌∙◌, subst, append_assoc, append-nil, arith}
use Rattle.rasn_types.specs.declared.types.codec.Codec.TheVariants.{Der}
use Rattle.rasn_types.specs.declared.types.tag.Tag.{Tag}
use Rattle.rasn_types.specs.declared.types.strings.alphabet.Alphabet.{Alphabet}
use Rattle.rasn_types.specs.declared.types.strings.alphabet.Alphabet.TheVariants.{Numeric, Printable, Visible, Ia5, Every}
use Rattle.rasn_types.specs.declared.types.bits.cow_bits.CowBits.{CowBits}
use Rattle.rasn_types.specs.declared.error.decode.DecodeError.{DecodeError}
use Rattle.rasn_types.specs.Bytes.{Bytes, DefiniteForm, WritesIn}
use Rattle.rasn_types.specs.Calendar.{Moment, Stamp, Day}
use Rattle.rasn_types.specs.CharacterString.{AreAdmitted, ArePaired, string_kind, units_of}
use Rattle.rasn_types.specs.Contents.{IsShortestInteger, IsBool, is_set, bits_of, joined_lists, BitSegment, AllFalse, ReadsBitSegment, ReadsString, primitive, segments, closed_segments, OctetSegment}
use Rattle.rasn_types.specs.CowBits.{cow_bits_tree}
use Rattle.rasn_types.specs.Framing.{Frame, with_length, definite}
use Rattle.rasn_types.specs.Grammar.{Reads, ReadsIn, family, text_family, Text, units, UtcText, GeneralizedText, top}
use Rattle.rasn_types.specs.Shapes.{Tree, Kind, leaf, number, numbers, instant, on_day, boolean, null, integer, every, bit_string, octet_string, numeric, printable, visible, ia5, utf8, bmp, utc_time, generalized_time, date}
use Rattle.rasn_types.specs.Tags.{der_form, eoc, in_universal, tag_bit}
use Rattle.rasn_types.specs.Time.{DateText}
use Rattle.rasn_types.specs.Trees.{unconstrained, bool_tree}
use Rattle.rasn_types.proofs.Headers.Frames.{frame_one, split_one}
use Rattle.rasn_de.specs.BitString.{DecodesCowBits}
use Rattle.rasn_de.specs.CharacterString.{ByUnits, DecodesString, DecodesRestricted, DecodesText}
use Rattle.rasn_de.specs.Checks.{Checks, ChecksBy}
use Rattle.rasn_de.specs.Decodes.{Decodes}
use Rattle.rasn_de.specs.Enumerated.{NullAt}
use Rattle.rasn_de.specs.Leaves.{BoolAt, DecodesLeaf, DecodesNumber}
use Rattle.rasn_de.specs.OctetString.{cow_tree}
use Rattle.rasn_de.specs.State.{State}
use Rattle.rasn_de.specs.Time.{AtAnyOffset, DecodesTime}
use Rattle.rasn_lint.specs.declared.der.universal.ContentsRule.{ContentsRule}
use Rattle.rasn_lint.specs.declared.der.universal.ContentsRule.TheVariants.{Boolean, Integer, BitString, Null, Utf8, Characters, Units, UtcTime, GeneralizedTime, Date}
use Rattle.rasn_lint.specs.Contents.{IsBoolean, EndsInZeros, IsBitString, IsUtcTime, IsGeneralizedTime, IsDate, AllowsContents}
use Rattle.rasn_lint.specs.Encoding.{start}
use Rattle.rasn_lint.specs.Refusals.{IsFaultOf, RefusesAs, IsReadError}

-- No error means that the contents are allowed.
abbrev pub IsPrimitiveFault : ContentsRule → Tag → List ℕ → Option DecodeError → Type 0
IsPrimitiveFault rule tag contents f = MatchOption f (AllowsContents rule contents) (IsReadError rule tag contents)

paired : (l us : List ℕ) → units l us → ArePaired l
paired [] us h = refl
paired (a ∷ []) us h = absurd h
paired (a ∷ b ∷ l) us (vs, e, h) = let n = paired l vs h in omega (arith, n)

-- A definite form is a frame of DER.
form_frame : (tag : Tag) (bit : Bool) (contents octets : List ℕ) → tag ≢ eoc → DefiniteForm tag bit contents octets → Frame der_form octets tag bit [] (definite contents)
form_frame tag bit contents octets some w =
    with_length w.id w.len contents (record { spells = w.id_spells; is_one = some }) w.len_spells (λ h. (w.id_shortest, w.len_shortest)) (w.is ∙ ap (λ l. w.id ++ (w.len ++ l)) (sym (append-nil contents)))

-- A frame has the tag of a value.
frame_tag : {octets rest contents : List ℕ} {tag : Tag} {bit : Bool} → Frame der_form octets tag bit rest (definite contents) → tag ≢ eoc
frame_tag (with_length id len c a b s e) = a.is_one

-- Unused bits that are zero.
unset : (n : ℕ) → is_set n ≡ false → n ≡ 0
unset zero e = refl
unset (suc n) e = cc

-- If the last bits of an octet aren't set, the octet is a multiple of their weight.
module _ (b : ℕ) where
  one_zero : is_set (b % 2) ≡ false → b % 2 ≡ 0
  one_zero e = unset (b % 2) e

  two_zeros : is_set (b / 2 % 2) ≡ false → b % 2 ≡ 0 → b % 4 ≡ 0
  two_zeros e h = let n = unset (b / 2 % 2) e in omega (arith, n, h)

  three_zeros : is_set (b / 4 % 2) ≡ false → b % 4 ≡ 0 → b % 8 ≡ 0
  three_zeros e h = let n = unset (b / 4 % 2) e in omega (arith, n, h)

  four_zeros : is_set (b / 8 % 2) ≡ false → b % 8 ≡ 0 → b % 16 ≡ 0
  four_zeros e h = let n = unset (b / 8 % 2) e in omega (arith, n, h)

  five_zeros : is_set (b / 16 % 2) ≡ false → b % 16 ≡ 0 → b % 32 ≡ 0
  five_zeros e h = let n = unset (b / 16 % 2) e in omega (arith, n, h)

  six_zeros : is_set (b / 32 % 2) ≡ false → b % 32 ≡ 0 → b % 64 ≡ 0
  six_zeros e h = let n = unset (b / 32 % 2) e in omega (arith, n, h)

  seven_zeros : is_set (b / 64 % 2) ≡ false → b % 64 ≡ 0 → b % 128 ≡ 0
  seven_zeros e h = let n = unset (b / 64 % 2) e in omega (arith, n, h)

  zeros_last : (n : ℕ) → n < 8 → AllFalse (drop (8 - n) (bits_of b)) → b % 2 ^ n ≡ 0
  zeros_last zero few h = omega arith
  zeros_last (suc zero) few (a, h) = one_zero a
  zeros_last (suc (suc zero)) few (a, (c, h)) = two_zeros a (one_zero c)
  zeros_last (suc (suc (suc zero))) few (a, (c, (d, h))) = three_zeros a (two_zeros c (one_zero d))
  zeros_last (suc (suc (suc (suc zero)))) few (a, (c, (d, (e, h)))) = four_zeros a (three_zeros c (two_zeros d (one_zero e)))
  zeros_last (suc (suc (suc (suc (suc zero))))) few (a, (c, (d, (e, (f, h))))) = five_zeros a (four_zeros c (three_zeros d (two_zeros e (one_zero f))))
  zeros_last (suc (suc (suc (suc (suc (suc zero)))))) few (a, (c, (d, (e, (f, (g, h)))))) = six_zeros a (five_zeros c (four_zeros d (three_zeros e (two_zeros f (one_zero g)))))
  zeros_last (suc (suc (suc (suc (suc (suc (suc zero))))))) few (a, (c, (d, (e, (f, (g, (i, h))))))) = seven_zeros a (six_zeros c (five_zeros d (four_zeros e (three_zeros f (two_zeros g (one_zero i))))))
  zeros_last (suc (suc (suc (suc (suc (suc (suc (suc n)))))))) few h = absurd (omega (arith, few))

-- Bits that fill octets, of which the last ones are zero.
ends_in_zeros : (octets : List ℕ) (bs unused : List Bool) → length unused < 8 → AllFalse unused → bs ++ unused ≡ joined_lists (map bits_of octets) → EndsInZeros (length unused) octets
ends_in_zeros [] bs unused few z e = let n = ap length e in let m = length-append bs unused in omega (arith, n, m)
ends_in_zeros (b ∷ []) bs unused few z e =
    let n = ap length e in
    let m = length-append bs unused in
    let k : length bs ≡ 8 - length unused = omega (arith, n, m, few) in
    let whole : bs ++ unused ≡ bits_of b = e ∙ append-nil (bits_of b) in
    let same : drop (8 - length unused) (bits_of b) ≡ unused = ap (drop (8 - length unused)) (sym whole) ∙ drop_at bs unused (8 - length unused) k in
    zeros_last b (length unused) few (subst AllFalse (sym same) z)
ends_in_zeros (b ∷ c ∷ l) bs unused few z e =
    let others : List Bool = joined_lists (map bits_of (c ∷ l)) in
    let n = ap length e in
    let m = length-append bs unused in
    let k = length-append (bits_of c) (joined_lists (map bits_of l)) in
    let front = length-take-le 8 bs (omega (arith, n, m, k, few)) in
    let cut : take 8 bs ++ (drop 8 bs ++ unused) ≡ bits_of b ++ others = sym (append_assoc (take 8 bs) (drop 8 bs) unused) ∙ (ap (λ x. x ++ unused) (take-append-drop 8 bs) ∙ e) in
    let rest = split_one (take 8 bs) (bits_of b) (drop 8 bs ++ unused) others front cut in
    ends_in_zeros (c ∷ l) (drop 8 bs) unused few z rest.1

bits_allowed : (l : List ℕ) (bs : List Bool) (s : BitSegment l bs) → AllFalse s.unused → IsBitString l
bits_allowed l bs s z = subst IsBitString (sym s.is) (s.few, ends_in_zeros s.octets bs s.unused s.few z s.all)

every_admitted : (l : List ℕ) → AreAdmitted Every l
every_admitted l = λ k x h. tt

module _ (tag : Tag) (contents octets : List ℕ) (written : Bytes Der (leaf octet_string tag unconstrained) (numbers contents) octets) where
  in_form : DefiniteForm tag (tag_bit tag) contents octets
  unfolding Bytes
  in_form = go written.1
    where
      go : WritesIn text_family Der octet_string tag (numbers contents) octets → DefiniteForm tag (tag_bit tag) contents octets
      go (l, e, inl (n, c, w, d)) =
          let same : l ≡ contents = cc in
          subst (λ z. DefiniteForm tag (tag_bit tag) z octets) (w.0 ∙ same) d
      go (l, e, inr w) = absurd w.0

  -- What is read is the contents.
  same : {bit : Bool} {rest l : List ℕ} → Frame der_form octets tag bit rest (definite l) → l ≡ contents
  same {bit = bit} {rest = rest} {l = l} f =
      let o = (frame_one octets f (form_frame tag (tag_bit tag) contents octets (frame_tag f) in_form)).extent in
      cc

  module _ (t : Tree) (depth : ℕ) (closing : Bool) (rest : List ℕ) where
    boolean_read : Reads Der (leaf boolean tag unconstrained) depth closing octets t rest → IsBoolean contents
    unfolding Reads
    boolean_read ((bit, l, f, (z, e, w), strict), b) = go (subst (λ x. IsBool Der x z) (same f) w)
      where
        go : IsBool Der contents z → IsBoolean contents
        go (inl h) = inl h.0
        go (inr h) = inr h.0

    integer_read : Reads Der (leaf (integer every) tag unconstrained) depth closing octets t rest → IsShortestInteger contents
    unfolding Reads
    integer_read ((bit, l, f, c, strict), b) = subst IsShortestInteger (same f) (strict tt).1

    null_read : Reads Der (leaf null tag unconstrained) depth closing octets t rest → contents ≡ []
    unfolding Reads
    null_read ((bit, l, f, c, strict), b) = sym (same f) ∙ c.1

    string_read : {X : Type 0} (segment : List ℕ → List X → Type 0) (inner : Tag) (n : ℕ) (xs : List X) → ReadsString Der segment inner n tag octets xs rest → segment contents xs
    string_read segment inner n xs (primitive l f g) = subst (λ z. segment z xs) (same f) g
    string_read segment inner (suc n) xs (segments l strict f inside) = absurd (strict tt)
    string_read segment inner (suc n) xs (closed_segments body strict f inside) = absurd (strict tt)

    text_read : (kind : Kind) → family kind ≡ text_family → Reads Der (leaf kind tag unconstrained) depth closing octets t rest → Text Der kind contents t
    unfolding Reads
    text_read kind q (h, b) = go (subst (λ z. ReadsIn z Der kind tag depth octets t rest) q h)
      where
        go : ReadsIn text_family Der kind tag depth octets t rest → Text Der kind contents t
        go (l, r, w) = subst (λ z. Text Der kind z t) (string_read OctetSegment (in_universal 4) depth l r) w

    utf8_read : Reads Der (leaf utf8 tag unconstrained) depth closing octets t rest → IsUtf8 contents
    utf8_read r = (text_read utf8 refl r).1

    characters_read : (alphabet : Alphabet) → Reads Der (leaf (string_kind alphabet) tag unconstrained) depth closing octets t rest → AreAdmitted alphabet contents
    characters_read Numeric r = (text_read numeric refl r).1
    characters_read Printable r = (text_read printable refl r).1
    characters_read Visible r = (text_read visible refl r).1
    characters_read Ia5 r = (text_read ia5 refl r).1
    characters_read Every r = every_admitted contents

    units_read : Reads Der (leaf bmp tag unconstrained) depth closing octets t rest → ArePaired contents
    units_read r = let w = text_read bmp refl r in paired contents w.0 w.2

    utc_read : Reads Der (leaf utc_time tag unconstrained) depth closing octets t rest → IsUtcTime contents
    utc_read r = let w = text_read utc_time refl r in (w.0, w.2)

    generalized_read : Reads Der (leaf generalized_time tag unconstrained) depth closing octets t rest → IsGeneralizedTime contents
    generalized_read r = let w = text_read generalized_time refl r in (w.0, w.2)

    date_read : Reads Der (leaf date tag unconstrained) depth closing octets t rest → IsDate contents
    date_read r = let w = text_read date refl r in (w.0, w.2)

    bits_read : Reads Der (leaf bit_string tag unconstrained) depth closing octets t rest → IsBitString contents
    unfolding Reads
    bits_read ((bs, e, few, r), b) = let w = string_read (ReadsBitSegment Der) (in_universal 3) depth bs r in bits_allowed contents bs w.0 (w.1 tt)

  -- ---- what a call returns

  module _ (s new : State) (at : s ≡ start octets) where
    read_of : {T : Type 0} (kind : Kind) (tree : T → Tree) (v : T) → Decodes (leaf kind tag unconstrained) tree s (Ok v) new → Reads Der (leaf kind tag unconstrained) 128 (top Der) octets (tree v) new.rest
    read_of kind tree v d = subst (λ (z : State). Reads z.rule (leaf kind tag unconstrained) z.depth z.closing z.rest (tree v) new.rest) at d.exact.0

    fault_is : {T : Type 0} (rule : ContentsRule) (r : Result T DecodeError) (f : Option DecodeError) → ((v : T) → r ≡ Ok v → AllowsContents rule contents) → ((e : DecodeError) → r ≡ Err e → IsReadError rule tag contents e) → IsFaultOf r f → IsPrimitiveFault rule tag contents f
    fault_is rule (Ok v) f ok err h = subst (IsPrimitiveFault rule tag contents) (sym h) (ok v refl)
    fault_is rule (Err e) f ok err h = subst (IsPrimitiveFault rule tag contents) (sym h.0) (err e refl)

    pub boolean_fault : (r : Result Bool DecodeError) → Decodes (leaf boolean tag unconstrained) bool_tree s r new → DecodesLeaf (λ (b : Bool). b) (BoolAt s.rule tag s.rest) s r new → (f : Option DecodeError) → IsFaultOf r f → IsPrimitiveFault Boolean tag contents f
    boolean_fault r d x f = fault_is Boolean r f
        (λ v q. boolean_read _ _ _ _ (read_of boolean bool_tree v (subst (λ z. Decodes (leaf boolean tag unconstrained) bool_tree s z new) q d)))
        (λ e q. (octets, new, written, subst (λ z. RefusesAs Boolean tag z e new) at (subst (λ z. DecodesLeaf (λ (b : Bool). b) (BoolAt s.rule tag s.rest) s z new) q x)))

    pub integer_fault : (r : Result (Unit {0}) DecodeError) → Checks (leaf (integer every) tag unconstrained) s r new → ChecksBy (DecodesNumber (λ (z : ℤ). z) (λ z. ⊥) 0 every tag unconstrained) s r new → (f : Option DecodeError) → IsFaultOf r f → IsPrimitiveFault Integer tag contents f
    integer_fault r d x f = fault_is Integer r f
        (λ v q. let w = subst (λ z. Checks (leaf (integer every) tag unconstrained) s z new) q d in integer_read _ _ _ _ (read_of (integer every) (λ (t : Tree). t) w.0 w.1))
        (λ e q. (octets, new, written, subst (λ z. RefusesAs Integer tag z e new) at (subst (λ z. ChecksBy (DecodesNumber (λ (z : ℤ). z) (λ z. ⊥) 0 every tag unconstrained) s z new) q x)))

    pub bits_fault : (r : Result CowBits DecodeError) → Decodes (leaf bit_string tag unconstrained) cow_bits_tree s r new → DecodesCowBits tag unconstrained s r new → (f : Option DecodeError) → IsFaultOf r f → IsPrimitiveFault BitString tag contents f
    bits_fault r d x f = fault_is BitString r f
        (λ v q. bits_read _ _ _ _ (read_of bit_string cow_bits_tree v (subst (λ z. Decodes (leaf bit_string tag unconstrained) cow_bits_tree s z new) q d)))
        (λ e q. (octets, new, written, subst (λ z. RefusesAs BitString tag z e new) at (subst (λ z. DecodesCowBits tag unconstrained s z new) q x)))

    pub null_fault : (r : Result (Unit {0}) DecodeError) → Decodes (leaf null tag unconstrained) (λ (u : Unit {0}). number (pos 0)) s r new → DecodesLeaf (λ (u : Unit {0}). u) (NullAt s.rule tag s.rest) s r new → (f : Option DecodeError) → IsFaultOf r f → IsPrimitiveFault Null tag contents f
    null_fault r d x f = fault_is Null r f
        (λ v q. null_read _ _ _ _ (read_of null (λ (u : Unit {0}). number (pos 0)) v (subst (λ z. Decodes (leaf null tag unconstrained) (λ (u : Unit {0}). number (pos 0)) s z new) q d)))
        (λ e q. (octets, new, written, subst (λ z. RefusesAs Null tag z e new) at (subst (λ z. DecodesLeaf (λ (u : Unit {0}). u) (NullAt s.rule tag s.rest) s z new) q x)))

    pub utf8_fault : (r : Result (CowStr Global) DecodeError) → Decodes (leaf utf8 tag unconstrained) (λ (c : CowStr Global). numbers (chars (cow_str_bytes c))) s r new → DecodesText tag unconstrained s r new → (f : Option DecodeError) → IsFaultOf r f → IsPrimitiveFault Utf8 tag contents f
    utf8_fault r d x f = fault_is Utf8 r f
        (λ v q. utf8_read _ _ _ _ (read_of utf8 (λ (c : CowStr Global). numbers (chars (cow_str_bytes c))) v (subst (λ z. Decodes (leaf utf8 tag unconstrained) (λ (c : CowStr Global). numbers (chars (cow_str_bytes c))) s z new) q d)))
        (λ e q. (octets, new, written, subst (λ z. RefusesAs Utf8 tag z e new) at (subst (λ z. DecodesText tag unconstrained s z new) q x)))

    pub characters_fault : (alphabet : Alphabet) (r : Result (CowSlice ℕ Global) DecodeError) → Decodes (leaf (string_kind alphabet) tag unconstrained) cow_tree s r new → DecodesRestricted alphabet tag unconstrained s r new → (f : Option DecodeError) → IsFaultOf r f
        → IsPrimitiveFault (Characters alphabet) tag contents f
    characters_fault alphabet r d x f = fault_is (Characters alphabet) r f
        (λ v q. characters_read _ _ _ _ alphabet (read_of (string_kind alphabet) cow_tree v (subst (λ z. Decodes (leaf (string_kind alphabet) tag unconstrained) cow_tree s z new) q d)))
        (λ e q. (octets, new, written, subst (λ z. RefusesAs (Characters alphabet) tag z e new) at (subst (λ z. DecodesRestricted alphabet tag unconstrained s z new) q x)))

    pub units_fault : (r : Result (List ℕ) DecodeError) → Decodes (leaf bmp tag unconstrained) (λ (v : List ℕ). numbers (units_of v)) s r new → DecodesString units_of (ByUnits None) tag s r new → (f : Option DecodeError) → IsFaultOf r f → IsPrimitiveFault Units tag contents f
    units_fault r d x f = fault_is Units r f
        (λ v q. units_read _ _ _ _ (read_of bmp (λ (v : List ℕ). numbers (units_of v)) v (subst (λ z. Decodes (leaf bmp tag unconstrained) (λ (v : List ℕ). numbers (units_of v)) s z new) q d)))
        (λ e q. (octets, new, written, subst (λ z. RefusesAs Units tag z e new) at (subst (λ z. DecodesString units_of (ByUnits None) tag s z new) q x)))

    pub utc_fault : (r : Result Moment DecodeError) → Decodes (leaf utc_time tag unconstrained) (λ (m : Moment). instant m) s r new → DecodesTime (AtAnyOffset (UtcText s.rule)) tag s r new → (f : Option DecodeError) → IsFaultOf r f → IsPrimitiveFault UtcTime tag contents f
    utc_fault r d x f = fault_is UtcTime r f
        (λ v q. utc_read _ _ _ _ (read_of utc_time (λ (m : Moment). instant m) v (subst (λ z. Decodes (leaf utc_time tag unconstrained) (λ (m : Moment). instant m) s z new) q d)))
        (λ e q. (octets, new, written, subst (λ z. RefusesAs UtcTime tag z e new) at (subst (λ z. DecodesTime (AtAnyOffset (UtcText s.rule)) tag s z new) q x)))

    pub generalized_fault : (r : Result Stamp DecodeError) → Decodes (leaf generalized_time tag unconstrained) (λ (m : Stamp). instant m.moment) s r new → DecodesTime (GeneralizedText s.rule) tag s r new → (f : Option DecodeError) → IsFaultOf r f → IsPrimitiveFault GeneralizedTime tag contents f
    generalized_fault r d x f = fault_is GeneralizedTime r f
        (λ v q. generalized_read _ _ _ _ (read_of generalized_time (λ (m : Stamp). instant m.moment) v (subst (λ z. Decodes (leaf generalized_time tag unconstrained) (λ (m : Stamp). instant m.moment) s z new) q d)))
        (λ e q. (octets, new, written, subst (λ z. RefusesAs GeneralizedTime tag z e new) at (subst (λ z. DecodesTime (GeneralizedText s.rule) tag s z new) q x)))

    pub date_fault : (r : Result Day DecodeError) → Decodes (leaf date tag unconstrained) (λ (d : Day). on_day d) s r new → DecodesTime DateText tag s r new → (f : Option DecodeError) → IsFaultOf r f → IsPrimitiveFault Date tag contents f
    date_fault r d x f = fault_is Date r f
        (λ v q. date_read _ _ _ _ (read_of date (λ (d : Day). on_day d) v (subst (λ z. Decodes (leaf date tag unconstrained) (λ (d : Day). on_day d) s z new) q d)))
        (λ e q. (octets, new, written, subst (λ z. RefusesAs Date tag z e new) at (subst (λ z. DecodesTime DateText tag s z new) q x)))
