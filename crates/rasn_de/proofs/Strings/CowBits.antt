-- Bits that are borrowed from a primitive string.
use Rattle.std.proofs.Common.{◌≡◌, ◌≢◌, ◌≤◌, ◌<◌, ◌^◌, ℕ, Bool, true, false, List, length, Result, Ok, Err, refl, sym, ap, ◌∙◌}
use Rattle.std.specs.Prelude.{IfErr}
use Rattle.rasn_types.specs.declared.types.tag.Tag.{Tag}
use Rattle.rasn_types.specs.declared.types.codec.Codec.{Codec}
use Rattle.rasn_types.specs.declared.types.constraints.Constraints.{Constraints}
use Rattle.rasn_types.specs.declared.types.bits.cow_bits.CowBits.{CowBits}
use Rattle.rasn_types.specs.declared.error.decode.DecodeError.{DecodeError}
use Rattle.rasn_types.specs.Framing.{AreOctets}
use Rattle.rasn_types.specs.Shapes.{leaf, bit_string}
use Rattle.rasn_types.specs.CowBits.{cow_bits, cow_bits_tree}
use Rattle.rasn_types.proofs.Headers.Frames.{frame_one}
use Rattle.rasn_de.specs.declared.ber.de.parser.ParseError.{ParseError}
use Rattle.rasn_de.specs.declared.ber.de.parser.ParseError.TheVariants.{OutOfMemory, LengthExceedsPlatformWidth}
use Rattle.rasn_de.specs.BitString.{FailsAtBits, DecodesBits, DecodesBitString, DecodesCowBits, DecodesPrimitiveBits}
use Rattle.rasn_de.specs.OctetString.{IsPrimitive, IsConstructed}
use Rattle.rasn_de.specs.State.{State}
use Rattle.rasn_de.specs.Steps.{IsErrorOf}
use Rattle.rasn_de.specs.Decodes.{Decodes}
use Rattle.rasn_de.proofs.Strings.BitString.{bits_decodes, collects_refused, collects_wide, collects_size}
use Rattle.rasn_de.specs.CharacterString.{IsOutOfSize}
use Rattle.rasn_de.proofs.Headers.NextTag.{kind_memory}
use Rattle.rasn_de.proofs.Strings.Checks.{size_plain}
use Rattle.rasn_de.proofs.Leaves.Rules.{bits_rules}

-- A value isn't primitive and constructed.
pub not_both : (rule : Codec) (tag : Tag) (l : List ℕ) → IsConstructed rule tag l → IsPrimitive rule tag l → ⊥
not_both rule tag l (rest, x, f) (after, contents, p) = let b : false ≡ true = (frame_one l p f).bit in cc

module _ (tag : Tag) (old : State) where
  -- what isn't read for another reason than memory
  pub refused_bits : (f : ParseError) (e : DecodeError) → f ≢ OutOfMemory → FailsAtBits old.rule old.depth tag old.rest f old.rest → IsErrorOf f old e → DecodesPrimitiveBits tag old (Err e) old
  refused_bits f e n w k = ((λ bounds. collects_refused tag bounds old old e (f, k, refl, w)), (λ m. kind_memory f n (sym (ap (λ (x : DecodeError). x.kind) k) ∙ m)))

  module _ (new : State) where
    -- 2 ^ 64 bits or more
    pub wide_bits : (bs : List Bool) (e : DecodeError) → DecodesBits tag old (Ok bs) new → 2 ^ 64 ≤ length bs → IsErrorOf LengthExceedsPlatformWidth new e → DecodesPrimitiveBits tag old (Err e) new
    wide_bits bs e h n k = ((λ bounds. collects_wide tag bounds old new bs e h n k), (λ m. kind_memory LengthExceedsPlatformWidth (λ g. cc) (sym (ap (λ (x : DecodeError). x.kind) k) ∙ m)))

    -- bits whose number isn't within bounds
    pub size_refused_bits : (bounds : Constraints) (bs : List Bool) (f : ParseError) (e : DecodeError) → DecodesBits tag old (Ok bs) new → length bs < 2 ^ 64 → IsOutOfSize bounds.size (length bs) f → IsErrorOf f new e
        → DecodesCowBits tag bounds old (Err e) new
    size_refused_bits bounds bs f e h w i x =
        (collects_size tag bounds old new bs f e h w i x, λ p m. kind_memory f (size_plain bounds.size (length bs) f i) (sym (ap (λ (y : DecodeError). y.kind) x) ∙ m))

    module _ (bounds : Constraints) (o : AreOctets old.rest) where
      pub cow_reads : (r : Result CowBits DecodeError) → DecodesCowBits tag bounds old r new
          → record { reads : Decodes (leaf bit_string tag bounds) cow_bits_tree old r new; exact : DecodesCowBits tag bounds old r new; rules : IfErr r (λ e. e.codec ≡ old.rule) }
      cow_reads (Ok b) h = record { reads = bits_decodes tag bounds old new (Ok (cow_bits b)) o h.0; exact = h; rules = tt }
      cow_reads (Err e) h = record { reads = bits_decodes tag bounds old new (Err e) o h.0; exact = h; rules = bits_rules tag bounds old new (Err e) h.0 }

-- A constructed string is read as one of its own.
module _ (tag : Tag) (bounds : Constraints) (old new : State) (k : IsConstructed old.rule tag old.rest) where
  pub owned_refused : (e : DecodeError) → DecodesBitString tag bounds old (Err e) new → DecodesCowBits tag bounds old (Err e) new
  owned_refused e h = (h, λ p m. not_both old.rule tag old.rest k p)
