-- A time is read exactly where the grammar has one.
use Rattle.std.proofs.Common.{◌≡◌, ◌≢◌, ℕ, ◌⊎◌, inl, inr, List, [], Result, Ok, Err, refl, sym, ap, ◌∙◌, subst}
use Rattle.std.specs.Cow.{cow_slice_items, IsBorrowedSlice}
use Rattle.std.specs.declared.alloc.Global.{Global}
use Rattle.std.specs.declared.borrow.CowSlice.{CowSlice}
use Rattle.std.specs.declared.borrow.CowSlice.TheVariants.{Borrowed, Owned}
use Rattle.rasn_types.specs.declared.types.tag.Tag.{Tag}
use Rattle.rasn_types.specs.declared.types.codec.Codec.{Codec}
use Rattle.rasn_types.specs.declared.types.codec.Codec.TheVariants.{Ber, Cer, Der}
use Rattle.rasn_types.specs.declared.types.constraints.Constraints.{Constraints}
use Rattle.rasn_types.specs.declared.error.decode.DecodeError.{DecodeError}
use Rattle.rasn_types.specs.Calendar.{Moment, Stamp, Day}
use Rattle.rasn_types.specs.TimeSpelling.{two, four}
use Rattle.rasn_types.specs.Time.{DateText, century, as_given, short_form, long_form, canonical_form, both}
use Rattle.rasn_types.specs.Framing.{AreOctets}
use Rattle.rasn_types.specs.Tags.{in_universal}
use Rattle.rasn_types.specs.Shapes.{Tree, leaf, instant, on_day, utc_time, generalized_time, date}
use Rattle.rasn_types.specs.Readings.{Reading}
use Rattle.rasn_types.specs.Contents.{ReadsString, OctetSegment}
use Rattle.rasn_types.specs.Grammar.{Reads, Text, UtcText, GeneralizedText}
use Rattle.rasn_types.specs.TimeParsing.{two_at, four_at}
use Rattle.rasn_types.proofs.Time.Spellings.{two_again, two_consumes, four_again, four_consumes}
use Rattle.rasn_types.proofs.Time.Stamps.{one_stamp}
use Rattle.rasn_types.proofs.Time.Dates.{one_day}
use Rattle.rasn_de.specs.declared.ber.de.parser.ParseError.{ParseError}
use Rattle.rasn_de.specs.declared.ber.de.parser.ParseError.TheVariants.{OutOfMemory}
use Rattle.rasn_de.specs.Causes.{error_kind}
use Rattle.rasn_de.specs.OctetString.{octet_string_at, DecodesOctets, IsPrimitive, IsBorrowedIfPrimitive}
use Rattle.rasn_de.specs.Outcomes.{Exact, Got, refusal}
use Rattle.rasn_de.specs.State.{State, IsEnd}
use Rattle.rasn_de.specs.Decodes.{Decodes, DecodesBy}
use Rattle.rasn_de.specs.Time.{AtAnyOffset, IsInvalidDate, IsAllocError, IsInvalidText, IsInvalidString, ParsesTime, ParsesCopiedTime, DecodesTime}
use Rattle.rasn_de.proofs.Leaves.Outcomes.{Exact-none}
use Rattle.rasn_de.proofs.Headers.Ends.{IsEnd-refl}
use Rattle.rasn_de.proofs.Headers.NextTag.{memory_or}
use Rattle.rasn_de.proofs.Leaves.Errors.{same_at, rule_is}
use Rattle.rasn_de.proofs.Strings.Ends.{octets_there, octets_only, octets_end}

-- Strings whose text means a tree.
abbrev pub ParsesUtf8 : (List ℕ → Tree → Type 0) → Codec → Tag → ℕ → Reading Tree
ParsesUtf8 T rule tag depth input t rest =
    ((text : List ℕ) × ReadsString rule OctetSegment (in_universal 4) depth tag input text rest × T text t) × Unit {0}

-- Texts mean the trees of the values that they spell, of which there is one.
module _ {X : Type 0} (Means : List ℕ → X → Type 0) (tree : X → Tree) (T : List ℕ → Tree → Type 0)
    (there : (text : List ℕ) (x : X) → Means text x → T text (tree x))
    (found : (text : List ℕ) (t : Tree) → T text t → (x : X) × Means text x × (t ≡ tree x))
    (one : (text : List ℕ) (x y : X) → Means text x → Means text y → tree x ≡ tree y) where
  got : (rule : Codec) (depth : ℕ) (tag : Tag) (l text rest : List ℕ) (x : X) → AreOctets l → octet_string_at rule depth tag l ≡ Ok (text, rest) → Means text x
      → Exact (ParsesUtf8 T rule tag depth) l (Got (tree x) rest)
  got rule depth tag l text rest x o e m = (((text, octets_there rule depth tag l o text rest e, there text x m), tt), λ t r w. same t r w)
    where
      same : (t : Tree) (r : List ℕ) → ParsesUtf8 T rule tag depth l t r → (t ≡ tree x) × (r ≡ rest)
      same t r ((other, s, k), u) =
          let h = octets_only rule depth tag l o other r s in
          let p : (other, r) ≡ (text, rest) = cc in
          let q : other ≡ text = ap (λ (z : List ℕ × List ℕ). z.0) p in
          let y = found other t k in
          (y.2 ∙ one text y.0 x (subst (λ z. Means z y.0) q y.1) m, ap (λ (z : List ℕ × List ℕ). z.1) p)

  no_text : (rule : Codec) (depth : ℕ) (tag : Tag) (l text rest : List ℕ) → AreOctets l → octet_string_at rule depth tag l ≡ Ok (text, rest) → ((x : X) → Means text x → ⊥)
      → (t : Tree) (r : List ℕ) → ParsesUtf8 T rule tag depth l t r → ⊥
  no_text rule depth tag l text rest o e n t r ((other, s, k), u) =
      let h = octets_only rule depth tag l o other r s in
      let p : (other, r) ≡ (text, rest) = cc in
      let q : other ≡ text = ap (λ (z : List ℕ × List ℕ). z.0) p in
      let y = found other t k in
      n y.0 (subst (λ z. Means z y.0) q y.1)

  no_string : (rule : Codec) (depth : ℕ) (tag : Tag) (l : List ℕ) (f : ParseError) → AreOctets l → octet_string_at rule depth tag l ≡ Err f
      → (t : Tree) (r : List ℕ) → ParsesUtf8 T rule tag depth l t r → ⊥
  no_string rule depth tag l f o e t r ((other, s, k), u) = let h = octets_only rule depth tag l o other r s in cc

  time_answers : (tag : Tag) (old new : State) (result : Result X DecodeError) → AreOctets old.rest → DecodesTime Means tag old result new
      → DecodesBy (λ rule depth closing. ParsesUtf8 T rule tag depth) tree old result new
  time_answers tag old new (Ok x) o (text, e, s, m) = record {
    stays = s;
    end = octets_end old.rule old.depth tag old.rest o text new.rest e;
    exact = got old.rule old.depth tag old.rest text new.rest x o e m;
  }
  time_answers tag old new (Err e) o (inr (text, h, s, n, k)) = record {
    stays = s;
    end = octets_end old.rule old.depth tag old.rest o text new.rest h;
    exact = Exact-none e.kind (ParsesUtf8 T old.rule tag old.depth) old.rest (no_text old.rule old.depth tag old.rest text new.rest o h n);
  }
  time_answers tag old new (Err e) o (inl (f, k, s, read, memory)) = record {
    stays = same_at old new s;
    end = subst (IsEnd old.rest) (sym (ap (λ (x : State). x.rest) s)) (IsEnd-refl old.rest);
    exact = go (memory_or f);
  }
    where
      go : (f ≡ OutOfMemory) ⊎ (f ≢ OutOfMemory) → Exact (ParsesUtf8 T old.rule tag old.depth) old.rest (refusal e.kind)
      go (inl m) = subst (λ z. Exact (ParsesUtf8 T old.rule tag old.depth) old.rest (refusal z)) (sym (ap (λ (x : DecodeError). x.kind) k ∙ ap error_kind m)) tt
      go (inr n) = Exact-none e.kind (ParsesUtf8 T old.rule tag old.depth) old.rest (no_string old.rule old.depth tag old.rest f o (read n))

-- a text has one meaning
utc_one : (rule : Codec) (text : List ℕ) (s t : Stamp) → UtcText rule text s → UtcText rule text t → s ≡ t
utc_one Ber = one_stamp two 100 two_at two_again two_consumes century short_form
utc_one Cer = one_stamp two 100 two_at two_again two_consumes century (both short_form canonical_form)
utc_one Der = one_stamp two 100 two_at two_again two_consumes century (both short_form canonical_form)

generalized_one : (rule : Codec) (text : List ℕ) (s t : Stamp) → GeneralizedText rule text s → GeneralizedText rule text t → s ≡ t
generalized_one Ber text s t h k = one_stamp four 10000 four_at four_again four_consumes as_given long_form text s t h k
generalized_one Cer text s t h k = one_stamp four 10000 four_at four_again four_consumes as_given (both long_form canonical_form) text s t h k
generalized_one Der text s t h k = one_stamp four 10000 four_at four_again four_consumes as_given (both long_form canonical_form) text s t h.is k.is

pub utc_decodes : (tag : Tag) (old new : State) (result : Result Moment DecodeError) → AreOctets old.rest → DecodesTime (AtAnyOffset (UtcText old.rule)) tag old result new
    → (c : Constraints) → Decodes (leaf utc_time tag c) (λ m. instant m) old result new
unfolding Reads
utc_decodes tag old new result o g c =
    let a = time_answers (AtAnyOffset (UtcText old.rule)) (λ m. instant m) (Text old.rule utc_time)
    (λ text m h. (record { moment = m; offset = h.0 }, refl, h.1))
    (λ text t h. (h.0.moment, (h.0.offset, h.2), h.1))
    (λ text m n h k. ap (λ (s : Stamp). instant s.moment) (utc_one old.rule text (record { moment = m; offset = h.0 }) (record { moment = n; offset = k.0 }) h.1 k.1))
    tag old new result o g in
    record { stays = a.stays; end = a.end; exact = a.exact }

pub generalized_decodes : (tag : Tag) (old new : State) (result : Result Stamp DecodeError) → AreOctets old.rest → DecodesTime (GeneralizedText old.rule) tag old result new
    → (c : Constraints) → Decodes (leaf generalized_time tag c) (λ s. instant s.moment) old result new
unfolding Reads
generalized_decodes tag old new result o g c =
    let a = time_answers (GeneralizedText old.rule) (λ s. instant s.moment) (Text old.rule generalized_time)
    (λ text s h. (s, refl, h))
    (λ text t h. (h.0, h.2, h.1))
    (λ text s t h k. ap (λ (x : Stamp). instant x.moment) (generalized_one old.rule text s t h k))
    tag old new result o g in
    record { stays = a.stays; end = a.end; exact = a.exact }

pub date_decodes : (tag : Tag) (old new : State) (result : Result Day DecodeError) → AreOctets old.rest → DecodesTime DateText tag old result new
    → (c : Constraints) → Decodes (leaf date tag c) (λ d. on_day d) old result new
unfolding Reads
date_decodes tag old new result o g c =
    time_answers DateText (λ d. on_day d) (Text old.rule date)
    (λ text d h. (d, refl, h))
    (λ text t h. (h.0, h.2, h.1))
    (λ text d e h k. ap on_day (one_day text d e h k))
    tag old new result o g

-- The string is a time's.
pub time_decoded : {X : Type 0} (Means : Codec → List ℕ → X → Type 0) (tag : Tag) (old new : State) (s : CowSlice ℕ Global) (rule : Codec) (text : List ℕ) (x : X) → DecodesOctets tag old (Ok s) new
    → rule ≡ old.rule → text ≡ cow_slice_items s → Means rule text x → DecodesTime (Means old.rule) tag old (Ok x) new
time_decoded Means tag old new s rule text x (h, k, f) r e m = (cow_slice_items s, h, k, subst (λ z. Means old.rule z x) e (subst (λ z. Means z text x) r m))

-- The string is no time's.
pub time_refused : {X : Type 0} (Means : Codec → List ℕ → X → Type 0) (tag : Tag) (old new : State) (s : CowSlice ℕ Global) (rule : Codec) (text : List ℕ) (e : DecodeError) → DecodesOctets tag old (Ok s) new
    → rule ≡ old.rule → text ≡ cow_slice_items s → ((x : X) → Means rule text x → ⊥) → IsInvalidString s new.rule e
    → DecodesTime (Means old.rule) tag old (Err e) new
time_refused {X} Means tag old new s rule text e (h, k, f) r q n w =
    inr (cow_slice_items s, h, k, none, told (subst (λ z. IsInvalidString s z e) (rule_is old new k) w))
  where
    none : (x : X) → Means old.rule (cow_slice_items s) x → ⊥
    none x m = n x (subst (λ z. Means z text x) (sym r) (subst (λ z. Means old.rule z x) (sym q) m))

    lent : (c : CowSlice ℕ Global) → IsBorrowedIfPrimitive old.rule tag old.rest c → IsBorrowedSlice c → IsPrimitive old.rule tag old.rest
    lent (Borrowed b) f u = f
    lent (Owned v) f u = absurd u

    told : IsInvalidString s old.rule e → IsInvalidDate (cow_slice_items s) old.rule e ⊎ (IsAllocError old.rule e × IsPrimitive old.rule tag old.rest × (cow_slice_items s ≢ []))
    told (inl t) = inl t
    told (inr (m, b, n)) = inr (m, lent s f b, n)

-- A text that is no time's, reported by a function without a decoder.
pub parsed_none : {X : Type 0} (Means : List ℕ → X → Type 0) (text read told : List ℕ) (e : DecodeError) → read ≡ text → told ≡ text → ((x : X) → Means read x → ⊥) → IsInvalidDate told Ber e
    → ParsesTime Means text (Err e)
parsed_none Means text read told e r t n w = (λ x m. n x (subst (λ z. Means z x) (sym r) m), subst (λ z. IsInvalidDate z Ber e) t w)

pub copied_none : {X : Type 0} (Means : List ℕ → X → Type 0) (text read told : List ℕ) (e : DecodeError) → read ≡ text → told ≡ text → ((x : X) → Means read x → ⊥) → IsInvalidText told Ber e
    → ParsesCopiedTime Means text (Err e)
copied_none Means text read told e r t n w = (λ x m. n x (subst (λ z. Means z x) (sym r) m), subst (λ z. IsInvalidText z Ber e) t w)
