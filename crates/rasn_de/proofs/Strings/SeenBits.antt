-- Bits whose segments are seen.
use Rattle.std.proofs.Common.{◌≡◌, ◌≢◌, ◌≤◌, ◌<◌, ◌^◌, ◌*◌, ℕ, ◌&&◌, cond, Bool, List, [], ◌∷◌, ◌++◌, length, Result, Ok, Err, refl, sym, ap, ◌∙◌, subst, arith}
use Rattle.std.specs.Prelude.{IfErr}
use Rattle.std.proofs.lemmas.List.{length-append}
use Rattle.rasn_types.specs.declared.types.tag.Tag.{Tag}
use Rattle.rasn_types.specs.declared.types.codec.Codec.{Codec}
use Rattle.rasn_types.specs.declared.types.constraints.Constraints.{Constraints}
use Rattle.rasn_types.specs.declared.error.decode.DecodeError.{DecodeError}
use Rattle.rasn_types.specs.declared.error.decode.DerDecodeErrorKind.TheVariants.{NonzeroUnusedBits}
use Rattle.rasn_types.specs.Errors.{IsOutOfMemory}
use Rattle.rasn_types.specs.Framing.{AreOctets}
use Rattle.rasn_types.specs.Tags.{in_universal}
use Rattle.rasn_types.specs.Shapes.{leaf, bits, bit_string, Admits}
use Rattle.rasn_types.specs.BitString.{but_last}
use Rattle.rasn_types.proofs.BitString.Views.{length-but_last}
use Rattle.rasn_de.specs.declared.ber.de.parser.ParseError.{ParseError}
use Rattle.rasn_de.specs.declared.ber.de.parser.ParseError.TheVariants.{OutOfMemory, InvalidBitString, LengthExceedsPlatformWidth, Der}
use Rattle.rasn_de.specs.Headers.{is_der}
use Rattle.rasn_de.specs.Causes.{error_kind}
use Rattle.rasn_de.specs.BitString.{is_miscounted, last_bits, is_any_set, segment_bits, bit_string_at, refused, DecodesBits, DecodesBitString}
use Rattle.rasn_de.specs.CharacterString.{IsOutOfSize}
use Rattle.rasn_de.specs.Checks.{SeesString, Counts, Checks, ChecksBy}
use Rattle.rasn_de.specs.State.{State, at}
use Rattle.rasn_de.specs.Steps.{IsErrorOf}
use Rattle.rasn_de.proofs.Headers.NextTag.{kind_memory}
use Rattle.rasn_de.proofs.Headers.Results.{guarded}
use Rattle.rasn_de.proofs.Leaves.Rules.{bits_rules}
use Rattle.rasn_de.proofs.Strings.BitString.{bits_decodes, collects_refused, collects_wide, collects_admitted, collects_size}
use Rattle.rasn_de.proofs.Strings.Checks.{size_plain}
use Rattle.rasn_de.proofs.Strings.Lengths.{items_fit}

-- ---- their number
segment_fits : (rule : Codec) (c : List ℕ) (bs : List Bool) → segment_bits rule c ≡ Ok bs → length bs ≤ 8 * length c
segment_fits rule [] bs e = cc
segment_fits rule (u ∷ octets) bs e =
    let unused = last_bits u octets in
    let g = guarded (is_miscounted u octets) (InvalidBitString u) (cond (is_der rule && is_any_set unused) (Err (Der NonzeroUnusedBits)) (Ok (but_last u octets))) bs e in
    let h = guarded (is_der rule && is_any_set unused) (Der NonzeroUnusedBits) (Ok (but_last u octets)) bs g.1 in
    let f = h.1 in
    let m : but_last u octets ≡ bs = cc in
    let k : length (but_last u octets) ≡ length bs = ap length m in
    omega (arith, length-but_last u octets)

pub bits_fit : (rule : Codec) (d : ℕ) (tag : Tag) (l : List ℕ) → AreOctets l → (bs : List Bool) (rest : List ℕ) → bit_string_at rule d tag l ≡ Ok (bs, rest) → length bs ≤ 8 * length l
bits_fit rule d tag l o bs rest e =
    items_fit (λ c. 8 * length c) (λ a b. omega (arith, length-append a b)) rule (segment_bits rule) (segment_fits rule) (in_universal 3) d tag l o bs rest e

-- The number of bits that were seen is right.
pub bits_counted : (old new : State) (tag : Tag) (first last : ℕ) → AreOctets old.rest → length old.rest < 2 ^ 64
    → (t : SeesString segment_bits (in_universal 3) tag (Counts {X = Bool} (2 ^ 128) first) (Counts {X = Bool} (2 ^ 128) last) old (Ok tt) new) → first ≡ 0 → last ≡ length t.0
bits_counted old new tag first last o b t z =
    let k = bits_fit old.rule old.depth tag old.rest o t.0 new.rest t.1 in
    t.3 [] (λ m. z) (omega (arith, k, b))

-- ---- what a call ensures that checks bits
module _ (tag : Tag) (bounds : Constraints) (old new : State) (o : AreOctets old.rest) where
  abbrev pub CheckedBits : Result (Unit {0}) DecodeError → Type 0
  CheckedBits result = record {
    reads : Checks (leaf bit_string tag bounds) old result new;
    exact : ChecksBy (DecodesBitString tag bounds) old result new;
    memory : IfErr result (λ e. IsOutOfMemory e.kind → ⊥);
    rules : IfErr result (λ e. e.codec ≡ old.rule);
  }

  refuses : (e : DecodeError) → (IsOutOfMemory e.kind → ⊥) → DecodesBitString tag bounds old (Err e) new → CheckedBits (Err e)
  refuses e n g = record { reads = bits_decodes tag bounds old new (Err e) o g; exact = g; memory = n; rules = bits_rules tag bounds old new (Err e) g }

  -- a string that can't be read
  pub bits_unseen : (e : DecodeError) → SeesString segment_bits (in_universal 3) tag (λ (l : List Bool). Unit {0}) (λ (l : List Bool). Unit {0}) old (Err e) new → (IsOutOfMemory e.kind → ⊥) → CheckedBits (Err e)
  bits_unseen e (f, x, k, read) n =
      let plain : f ≢ OutOfMemory = λ m. n (ap (λ (y : DecodeError). y.kind) x ∙ ap error_kind m) in
      refuses e n (collects_refused tag bounds old new e (subst (λ (s : State). DecodesBits tag old (Err e) s) (sym k) (f, x, refl, refused f plain (read plain))))

  module _ (bs : List Bool) (h : bit_string_at old.rule old.depth tag old.rest ≡ Ok (bs, new.rest)) (s : new ≡ at old new.rest) where
    -- 2 ^ 64 bits or more
    pub bits_wide : (e : DecodeError) → 2 ^ 64 ≤ length bs → IsErrorOf LengthExceedsPlatformWidth new e → CheckedBits (Err e)
    bits_wide e w x = refuses e (λ m. kind_memory LengthExceedsPlatformWidth (λ g. cc) (sym (ap (λ (y : DecodeError). y.kind) x) ∙ m)) (collects_wide tag bounds old new bs e (h, s) w x)

    -- bits whose number is within bounds
    pub bits_passed : length bs < 2 ^ 64 → Admits ◌≤◌ bounds.size (length bs) → CheckedBits (Ok tt)
    bits_passed w a =
        let g = collects_admitted tag bounds old new bs (h, s) w a in
        record { reads = (bits bs, bits_decodes tag bounds old new (Ok bs) o g); exact = (bs, g); memory = tt; rules = tt }

    -- bits whose number isn't
    pub bits_failed : (f : ParseError) (e : DecodeError) → length bs < 2 ^ 64 → IsOutOfSize bounds.size (length bs) f → IsErrorOf f new e → CheckedBits (Err e)
    bits_failed f e w a x =
        refuses e (λ m. kind_memory f (size_plain bounds.size (length bs) f a) (sym (ap (λ (y : DecodeError). y.kind) x) ∙ m)) (collects_size tag bounds old new bs f e (h, s) w a x)
