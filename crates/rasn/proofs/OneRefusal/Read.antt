-- Strings and times are read or refused.
use Rattle.std.proofs.Common.{◌≡◌, ◌≢◌, ℕ, zero, suc, ◌+◌, ◌<◌, ◌≤◌, ◌^◌, inl, inr, List, [], ◌∷◌, ◌++◌, length, Bool, true, false, Option, Result, Ok, Err, refl, subst, arith}
use Rattle.std.specs.Prelude.{nat_eq, ◌&&◌, slice_index, Vec}
use Rattle.std.specs.Global.{Global}
use Rattle.std.specs.List.{AllWithin}
use Rattle.std.proofs.lemmas.List.{get_or_default}
use Rattle.std.proofs.lemmas.List.Elements.{AllWithin-none, AllWithin-more, All-from_all_within}
use denote.RawPtr.{null_ptr}
use Rattle.rasn_types.specs.declared.types.codec.Codec.{Codec}
use Rattle.rasn_types.specs.declared.types.tag.Tag.{Tag}
use Rattle.rasn_types.specs.declared.types.constraints.Constraints.{Constraints}
use Rattle.rasn_types.specs.declared.types.constraints.Bound.{Bound}
use Rattle.rasn_types.specs.declared.types.strings.alphabet.Alphabet.{Alphabet}
use Rattle.rasn_types.specs.declared.error.decode.DecodeError.{DecodeError}
use Rattle.rasn_types.specs.Errors.{IsOutOfMemory}
use Rattle.rasn_types.specs.Tags.{form, in_universal, IsCanonical}
use Rattle.rasn_types.specs.BitString.{significant}
use Rattle.rasn_types.specs.NamedBits.{named_bits_tree}
use Rattle.rasn_types.specs.Framing.{Extent, definite, indefinite}
use Rattle.rasn_types.specs.Shapes.{Kind, leaf, bit_string, named_bits, object_identifier, utc_time, generalized_time, date, instant, on_day, numbers, Admits, AdmitsPadded, constraint_of}
use Rattle.rasn_types.specs.CharacterString.{IsAdmitted}
use Rattle.rasn_types.specs.Calendar.{Moment, Stamp, Day}
use Rattle.rasn_types.specs.Time.{DateText}
use Rattle.rasn_types.specs.Grammar.{UtcText, GeneralizedText}
use Rattle.rasn_types.specs.declared.error.decode.BerDecodeErrorKind.TheVariants.{InvalidDate}
use Rattle.rasn_types.specs.declared.types.codec.Codec.TheVariants.{Ber, Cer, Der}
use Rattle.rasn_types.specs.Trees.{unconstrained}
use Rattle.rasn_de.specs.declared.ber.de.parser.ParseError.{ParseError}
use Rattle.rasn_de.specs.declared.ber.de.parser.ParseError.TheVariants as parse
use Rattle.rasn_de.specs.declared.ber.de.parser.headers.Expected.TheVariants.{Tagged}
use Rattle.rasn_de.specs.Headers.{◌>>=◌, Header, header_at, is_der}
use Rattle.rasn_de.specs.Segments.{ends, segments_at, end_of_contents_at, octets_inside, end_at, string_in, too_deep, segments_in, string_of, string_at, octets}
use Rattle.rasn_de.specs.Causes.{Cause, fault, in_ber, error_kind}
use Rattle.rasn_de.specs.State.{State, at}
use Rattle.rasn_de.specs.ValueErrors.{errors_of, DecodesOr}
use Rattle.rasn_de.specs.Leaves.{Readings, FailsAs}
use Rattle.rasn_de.specs.OctetString.{octet_string_at}
use Rattle.rasn_de.specs.CharacterString.{StringCheck, ByAlphabet, ByCharacters, ByLength, BySize, StringAt, DecodesString}
use Rattle.rasn_de.specs.BitString.{segment_bits, bits_tree, bit_string_at, BitsAt, DecodesBitString}
use Rattle.rasn_de.specs.NamedBits.{AreNamedBits, DecodesNamedBits}
use Rattle.rasn_de.specs.ObjectIdentifier.{arc_at, ReadsArcs, FailsAtSubidentifier, ObjectIdentifierIn, DecodesObjectIdentifier}
use Rattle.rasn_de.specs.Time.{AtAnyOffset, DecodesTime}
use Rattle.rasn_de.specs.Decodes.{Decodes}
use Rattle.rasn_de.proofs.Headers.NextTag.{kind_memory}
use Rattle.rasn_de.proofs.Headers.Memory.{NoMemory, none_cond, header_none}
use Rattle.rasn_de.proofs.Strings.CharacterString.{Fits, string_decodes}
use Rattle.rasn_de.proofs.Strings.BitString.{bits_decodes, segment_plain}
use Rattle.rasn_de.proofs.Strings.NamedBits.{named_unread, named_found, named_refused, named_plain}
use Rattle.rasn_de.proofs.Strings.Seen.{octets_fit}
use Rattle.rasn_de.proofs.Strings.Time.{utc_decodes, generalized_decodes, date_decodes}
use Rattle.rasn_de.proofs.Leaves.ObjectIdentifier.{arcs_of, ArcsSoFar, arcs_start, arcs_next, arcs_done, stops_first, stops_later, stops_memory, rest_shorter, object_decodes}
use Rattle.rasn.specs.OneRefusal.{Settles}
use Rattle.rasn.proofs.OneRefusal.Calls.{or_settles}
use Rattle.rasn.proofs.OneRefusal.Decided.{IsReported, report, leaf_none}

-- A string is refused for want of memory nowhere.
none_then : {X Y : Type 0} (r : Result X ParseError) (f : X → Result Y ParseError) → NoMemory r → ((x : X) → NoMemory (f x)) → NoMemory (r >>= f)
none_then (Ok x) f p q = q x
none_then (Err e) f p q = p

pub end_none : (x : Extent) (rest left : List ℕ) → NoMemory (end_at x rest left)
unfolding end_of_contents_at
end_none (definite c) rest [] = tt
end_none (definite c) rest (b ∷ l) = λ e. cc
end_none indefinite rest [] = λ e. cc
end_none indefinite rest (a ∷ []) = none_cond (nat_eq a 0) (Err (parse.Incomplete 1)) (Err parse.MissingEndOfContents) (λ e. cc) (λ e. cc)
end_none indefinite rest (a ∷ b ∷ l) = none_cond (nat_eq a 0 && nat_eq b 0) (Ok l) (Err parse.MissingEndOfContents) tt (λ e. cc)

module _ {X : Type 0} where
  segments_none : (read : List ℕ → Result (List X × List ℕ) ParseError) → ((l : List ℕ) → NoMemory (read l)) → (n : ℕ) (l : List ℕ) → NoMemory (segments_at read n l)
  unfolding segments_at
  segments_none read each zero l = tt
  segments_none read each (suc n) l = none_cond (ends l) (Ok ([], l)) _ tt (none_then (read l) _ (each l) (λ p. none_then (segments_at read n p.1) _ (segments_none read each n p.1) (λ q. tt)))

  nested_none : (read : List ℕ → Result (List X × List ℕ) ParseError) → ((l : List ℕ) → NoMemory (read l)) → (x : Extent) (rest : List ℕ) → NoMemory (segments_in read x rest)
  nested_none read each x rest =
      none_then (segments_at read (length (octets_inside x rest)) (octets_inside x rest)) _ (segments_none read each (length (octets_inside x rest)) (octets_inside x rest))
      (λ q. none_then (end_at x rest q.1) _ (end_none x rest q.1) (λ r. tt))

  module _ (rule : Codec) (segment : List ℕ → Result (List X) ParseError) (each : (c : List ℕ) → NoMemory (segment c)) where
    in_none : (nested : Extent → List ℕ → Result (List X × List ℕ) ParseError) → ((x : Extent) (rest : List ℕ) → NoMemory (nested x rest)) → (bit : Bool) (x : Extent) (rest : List ℕ) → NoMemory (string_in rule segment nested bit x rest)
    in_none nested n false (definite c) rest = none_then (segment c) _ (each c) (λ xs. tt)
    in_none nested n false indefinite rest = none_cond (is_der rule) _ (nested indefinite rest) (λ e. cc) (n indefinite rest)
    in_none nested n true x rest = none_cond (is_der rule) _ (nested x rest) (λ e. cc) (n x rest)

    of_none : (inner : Tag) (d : ℕ) (h : Header) → NoMemory (string_of rule segment inner d h)
    unfolding string_of
    of_none inner zero h = in_none too_deep (λ x rest. λ e. cc) h.bit h.extent h.rest
    of_none inner (suc d) h =
        in_none (segments_in (λ l. header_at (form rule) (Tagged inner) l >>= string_of rule segment inner d))
        (nested_none (λ l. header_at (form rule) (Tagged inner) l >>= string_of rule segment inner d) (λ l. none_then (header_at (form rule) (Tagged inner) l) _ (header_none _ (Tagged inner) l) (of_none inner d))) h.bit h.extent h.rest

    pub string_none : (inner : Tag) (d : ℕ) (tag : Tag) (l : List ℕ) → NoMemory (string_at rule segment inner d tag l)
    string_none inner d tag l = none_then (header_at (form rule) (Tagged tag) l) _ (header_none _ (Tagged tag) l) (of_none inner d)

octets_none : (rule : Codec) (d : ℕ) (tag : Tag) (l : List ℕ) → NoMemory (octet_string_at rule d tag l)
octets_none rule d tag l = string_none rule octets (λ c. tt) (in_universal 4) d tag l

-- A reading that is refused for a cause other than missing memory.
module _ {Y : Type 0} (Is : Readings Y) (old : State) (unrefused : (e : DecodeError) (new : State) → (IsOutOfMemory e.kind → ⊥) → FailsAs Is old e new → ⊥) where
  pub refused_as : (cause : Cause) (rest : List ℕ) → IsReported cause → Is (Err (cause, rest)) → ⊥
  refused_as cause rest n a = let k = report cause n in unrefused (record { kind = k.0; codec = old.rule }) (at old rest) k.2 (cause, a, k.1, refl, refl)

-- Octets pass a check, or have a fault.
abbrev pub TellsAll : StringCheck → Type 0
TellsAll Told = (l : List ℕ) → ((ns : List ℕ) → Told l (Ok ns) → ⊥) → ((f : ParseError) → Told l (Err f) → ⊥) → ⊥

pub string_read : {kind : Kind} {bounds : Constraints} {Told : StringCheck} → Fits kind bounds Told → TellsAll Told → (tag : Tag) → Settles (DecodesOr (leaf kind tag bounds) numbers (errors_of (DecodesString (λ (l : List ℕ). l) Told tag)))
string_read {kind} {bounds} {Told} fits all tag =
    or_settles (DecodesString (λ (l : List ℕ). l) Told tag) (leaf kind tag bounds) numbers (λ old o r new a. string_decodes fits (λ (l : List ℕ). l) tag old new r o a) settles
  where
    settles : Settles (DecodesString (λ (l : List ℕ). l) Told tag)
    settles old o b passed failed = go (octet_string_at old.rule old.depth tag old.rest) refl
      where
        refused : (cause : Cause) (rest : List ℕ) → IsReported cause → StringAt Told old.rule old.depth tag old.rest (Err (cause, rest)) → ⊥
        refused = refused_as (StringAt Told old.rule old.depth tag old.rest) old (λ e new n a. failed e new (inr (inr (n, a)), n))

        go : (r : Result (List ℕ × List ℕ) ParseError) → octet_string_at old.rule old.depth tag old.rest ≡ r → ⊥
        go (Err f) q = refused (fault f) old.rest (subst NoMemory q (octets_none old.rule old.depth tag old.rest)) (inl (f, q, refl))
        go (Ok p) q = all p.0 (λ ns a. passed ns (at old p.1) ((p.0, q, a), refl)) (λ f a. refused (fault f) p.1 (fits.plain p.0 f a) (inr (p.0, f, q, a, refl)))

pub by_size_all : (size : Option (Bound ℕ)) → TellsAll (BySize size)
by_size_all size l passed failed = failed (parse.SizeConstraintNotSatisfied (length l) (constraint_of size)) ((λ a. passed l (refl, a)), refl)

pub by_length_all : (n : ℕ) (size : Option (Bound ℕ)) → TellsAll (ByLength n size)
by_length_all n size l passed failed = failed _ (inl ((λ e. failed _ (inr (e, ((λ a. passed l (refl, e, a)), refl)))), refl))

pub by_characters_all : (Mean : List ℕ → List ℕ → Type 0) (tag : Tag) (size : Option (Bound ℕ)) → TellsAll (ByCharacters Mean tag size)
by_characters_all Mean tag size l passed failed = failed _ (inl ((λ ns m. failed _ (inr (ns, m, ((λ a. passed ns (m, a)), refl)))), refl))

-- BIT STRING.
bits_none : (rule : Codec) (d : ℕ) (tag : Tag) (l : List ℕ) → NoMemory (bit_string_at rule d tag l)
bits_none rule d tag l = string_none rule (segment_bits rule) each (in_universal 3) d tag l
  where
    plain : (r : Result (List Bool) ParseError) → ((f : ParseError) → r ≡ Err f → f ≢ parse.OutOfMemory) → NoMemory r
    plain (Ok x) n = tt
    plain (Err f) n = n f refl

    each : (c : List ℕ) → NoMemory (segment_bits rule c)
    each c = plain (segment_bits rule c) (segment_plain rule c)

module _ (tag : Tag) (bounds : Constraints) (old : State) where
  -- Bits are read or refused.
  pub bits_or : ((bs : List Bool) (rest : List ℕ) → DecodesBitString tag bounds old (Ok bs) (at old rest) → ⊥) → ((e : DecodeError) (new : State) → (IsOutOfMemory e.kind → ⊥) → DecodesBitString tag bounds old (Err e) new → ⊥) → ⊥
  bits_or passed failed = go (bit_string_at old.rule old.depth tag old.rest) refl
    where
      refused : (cause : Cause) (rest : List ℕ) → IsReported cause → BitsAt bounds old.rule old.depth tag old.rest (Err (cause, rest)) → ⊥
      refused = refused_as (BitsAt bounds old.rule old.depth tag old.rest) old (λ e new n a. failed e new n (inr (inr (n, a))))

      go : (r : Result (List Bool × List ℕ) ParseError) → bit_string_at old.rule old.depth tag old.rest ≡ r → ⊥
      go (Err f) q = refused (fault f) old.rest (subst NoMemory q (bits_none old.rule old.depth tag old.rest)) (inl (f, q, refl))
      go (Ok p) q =
          let wide = λ (h : 2 ^ 64 ≤ length p.0). refused (fault parse.LengthExceedsPlatformWidth) p.1 (λ e. cc) (inr (p.0, q, inl (h, refl))) in
          let below : length p.0 < 2 ^ 64 = omega (arith, wide) in
          refused (fault (parse.SizeConstraintNotSatisfied (length p.0) (constraint_of bounds.size))) p.1 (λ e. cc) (inr (p.0, q, inr (below, (λ a. passed p.0 p.1 ((q, below, a), refl)), refl)))

pub bit_string_read : (tag : Tag) (bounds : Constraints) → Settles (DecodesOr (leaf bit_string tag bounds) bits_tree (errors_of (DecodesBitString tag bounds)))
bit_string_read tag bounds =
    or_settles (DecodesBitString tag bounds) (leaf bit_string tag bounds) bits_tree (λ old o r new a. bits_decodes tag bounds old new r o a)
    (λ old o b passed failed. bits_or tag bounds old (λ bs rest a. passed bs (at old rest) a) (λ e new n a. failed e new (a, n)))

-- Named bits.
named_or : (rule : Codec) (P : Type 0) → ((IsCanonical rule → P) → ⊥) → (IsCanonical rule → (P → ⊥) → ⊥) → ⊥
named_or Ber P passed failed = passed (λ c. absurd c)
named_or Cer P passed failed = failed tt (λ p. passed (λ c. p))
named_or Der P passed failed = failed tt (λ p. passed (λ c. p))

pub named_bits_read : (tag : Tag) (bounds : Constraints) → Settles (DecodesOr (leaf named_bits tag bounds) named_bits_tree (errors_of (DecodesNamedBits tag bounds)))
named_bits_read tag bounds old o b taken unrefused = bits_or tag unconstrained old named (λ e new n a. unrefused e new (((named_unread tag bounds old new e (bits_decodes tag unconstrained old new (Err e) o a) a).reads, inl a), n))
  where
    named : (bs : List Bool) (rest : List ℕ) → DecodesBitString tag unconstrained old (Ok bs) (at old rest) → ⊥
    named bs rest a =
        named_or old.rule (significant bs ≡ bs)
        (λ z. failed (parse.SizeConstraintNotSatisfied (length (significant bs)) (constraint_of bounds.size)) (inr (z, passed z, refl)))
        (λ c n. failed parse.TrailingZeroBits (inl (c, n, refl)))
      where
        d : Decodes (leaf bit_string tag unconstrained) bits_tree old (Ok bs) (at old rest)
        d = bits_decodes tag unconstrained old (at old rest) (Ok bs) o a

        failed : (f : ParseError) → AreNamedBits old.rule bounds bs (Err f) → ⊥
        failed f h =
            let e : DecodeError = record { kind = error_kind f; codec = old.rule } in
            unrefused e (at old rest) (((named_refused tag bounds old (at old rest) bs d a f e h refl).reads, inr (bs, f, a, h, refl)), kind_memory f (named_plain old.rule bounds bs f h))

        passed : (IsCanonical old.rule → significant bs ≡ bs) → AdmitsPadded bounds.size (length (significant bs)) → ⊥
        passed z h = taken (significant bs) (at old rest) ((named_found tag bounds old (at old rest) bs d a z h (significant bs) refl).reads, tt)

-- Octets of an alphabet.
pub by_alphabet_all : (a : Alphabet) (size : Option (Bound ℕ)) → TellsAll (ByAlphabet a size)
by_alphabet_all a size l passed failed = failed (parse.SizeConstraintNotSatisfied (length l) (constraint_of size)) (inl ((λ s. scan s (length l) 0 (omega arith) (AllWithin-none (IsAdmitted a) l 0)), refl))
  where
    scan : Admits ◌≤◌ size (length l) → (m k : ℕ) → k + m ≡ length l → AllWithin (IsAdmitted a) l 0 k → ⊥
    scan s zero k e all = passed l (refl, s, All-from_all_within (IsAdmitted a) l (subst (AllWithin (IsAdmitted a) l 0) (omega (arith, e)) all))
    scan s (suc m) k e all =
        let below : k < length l = omega (arith, e) in
        failed (parse.PermittedAlphabetError (slice_index l k) k) (inr (
          s,
          (
            k,
            below,
            all,
            (λ h. scan s m (k + 1) (omega (arith, e)) (AllWithin-more (IsAdmitted a) l 0 k all (λ d. subst (IsAdmitted a) (get_or_default l k 0 d below) h))),
            refl,
          ),
        ))

-- OBJECT IDENTIFIER.
object_scan : (rule : Codec) (c : List ℕ) → ((arcs : List ℕ) → ReadsArcs rule c arcs → ⊥) → ((f : ParseError) → FailsAtSubidentifier rule c f → ⊥)
    → (n : ℕ) (rest arcs : List ℕ) → length rest < n → ArcsSoFar rule c rest arcs → ⊥
object_scan rule c passed failed zero rest arcs h a = omega (arith, h)
object_scan rule c passed failed (suc n) [] arcs h a = passed arcs (arcs_done rule c [] arcs a refl)
object_scan rule c passed failed (suc n) (b ∷ l) arcs h a = go (λ more all k t. object_scan rule c passed failed n more all k t) (arc_at rule (b ∷ l)) refl
  where
    go : ((more all : List ℕ) → length more < n → ArcsSoFar rule c more all → ⊥) → (r : Result (ℕ × List ℕ) ParseError) → arc_at rule (b ∷ l) ≡ r → ⊥
    go on (Err f) q = failed f (stops_later rule c (b ∷ l) arcs f a (λ e. cc) q)
    go on (Ok p) q =
        let s = rest_shorter rule (b ∷ l) p.0 p.1 q in
        on p.1 (arcs ++ p.0 ∷ []) (omega (arith, s, h)) (arcs_next rule c (b ∷ l) p.1 arcs (arcs ++ p.0 ∷ []) p.0 a q refl)

pub object_identifier_read : (tag : Tag) → Settles (DecodesOr (leaf object_identifier tag unconstrained) numbers (errors_of (DecodesObjectIdentifier tag)))
object_identifier_read tag =
    or_settles (DecodesObjectIdentifier tag) (leaf object_identifier tag unconstrained) numbers (λ old o r new a. object_decodes tag old new r o a)
    (λ old o b passed failed. leaf_none (ObjectIdentifierIn old.rule) (none old.rule) tag old (λ x rest a. passed x (at old rest) (a, refl)) (λ e new r. failed e new (inr (r.1, r.0), r.1)))
  where
    none : (rule : Codec) (c : List ℕ) → ((x : List ℕ) → ObjectIdentifierIn rule c (Ok x) → ⊥) → ((e : Cause) → IsReported e → ObjectIdentifierIn rule c (Err e) → ⊥) → ⊥
    none rule c passed refused = go (arc_at rule c) refl
      where
        failed : (f : ParseError) → FailsAtSubidentifier rule c f → ⊥
        failed f s = refused (fault f) (stops_memory rule c f s) s

        go : (r : Result (ℕ × List ℕ) ParseError) → arc_at rule c ≡ r → ⊥
        go (Err f) q = failed f (stops_first rule c f q)
        go (Ok p) q = object_scan rule c passed failed (suc (length p.1)) p.1 (arcs_of p.0 []) (omega arith) (arcs_start rule c p.1 (arcs_of p.0 []) p.0 q refl)

-- Times and dates.
held : (text : List ℕ) → length text < 2 ^ 63 → Vec ℕ Global
held text b = record { ptr = null_ptr; len = length text; cap = length text; alloc = record { memory = record { seal = tt } }; items = text; ok = (refl, omega arith); small = b }

time_settles : {X : Type 0} (Means : Codec → List ℕ → X → Type 0) (tag : Tag) → Settles (λ old. DecodesTime (Means old.rule) tag old)
unfolding held
time_settles Means tag old o b passed failed = go (octet_string_at old.rule old.depth tag old.rest) refl
  where
    go : (r : Result (List ℕ × List ℕ) ParseError) → octet_string_at old.rule old.depth tag old.rest ≡ r → ⊥
    go (Err f) q =
        let plain : f ≢ parse.OutOfMemory = subst NoMemory q (octets_none old.rule old.depth tag old.rest) in
        failed (record { kind = error_kind f; codec = old.rule }) old (inl (f, refl, refl, (λ n. q), (λ m. absurd (plain m))), kind_memory f plain)
    go (Ok p) q =
        let fit = octets_fit old.rule old.depth tag old.rest o p.0 p.1 q in
        let text = held p.0 (omega (arith, fit, b)) in
        failed (record { kind = in_ber (InvalidDate text); codec = old.rule }) (at old p.1)
        (inr (p.0, q, refl, (λ x m. passed x (at old p.1) (p.0, q, refl, m)), inl (record { octets = text; items = refl; is = refl })), λ e. cc)

pub utc_time_read : (tag : Tag) (c : Constraints) → Settles (DecodesOr (leaf utc_time tag c) (λ (m : Moment). instant m) (λ old. errors_of (DecodesTime (AtAnyOffset (UtcText old.rule)) tag) old))
utc_time_read tag c =
    or_settles (λ old. DecodesTime (AtAnyOffset (UtcText old.rule)) tag old) (leaf utc_time tag c) (λ (m : Moment). instant m) (λ old o r new a. utc_decodes tag old new r o a c)
    (time_settles (λ rule. AtAnyOffset (UtcText rule)) tag)

pub generalized_time_read : (tag : Tag) (c : Constraints) → Settles (DecodesOr (leaf generalized_time tag c) (λ (s : Stamp). instant s.moment) (λ old. errors_of (DecodesTime (GeneralizedText old.rule) tag) old))
generalized_time_read tag c =
    or_settles (λ old. DecodesTime (GeneralizedText old.rule) tag old) (leaf generalized_time tag c) (λ (s : Stamp). instant s.moment) (λ old o r new a. generalized_decodes tag old new r o a c)
    (time_settles (λ rule. GeneralizedText rule) tag)

pub date_read : (tag : Tag) (c : Constraints) → Settles (DecodesOr (leaf date tag c) (λ (d : Day). on_day d) (errors_of (DecodesTime DateText tag)))
date_read tag c =
    or_settles (DecodesTime DateText tag) (leaf date tag c) (λ (d : Day). on_day d) (λ old o r new a. date_decodes tag old new r o a c)
    (time_settles (λ rule. DateText) tag)
