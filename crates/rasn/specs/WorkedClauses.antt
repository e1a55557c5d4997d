-- Small clauses that several contracts share: what satisfies them, and what doesn't.
use Rattle.std.specs.Prelude.{◌≡◌, ℕ, ℤ, ◌+◌, ◌-◌, ◌^◌, ◌<◌, List, [], ◌∷◌, Bool, true, false, Some, None, Result, Ok, Err, pos, negsuc}
use Rattle.rasn_types.specs.Tags.{in_universal}
use Rattle.rasn_types.specs.declared.types.codec.Codec.{Codec}
use Rattle.rasn_types.specs.declared.types.codec.Codec.TheVariants.{Ber, Der}
use Rattle.rasn_types.specs.declared.error.decode.DecodeError.{DecodeError}
use Rattle.rasn_types.specs.declared.error.decode.DerDecodeErrorKind.TheVariants.{DefaultValuePresent}
use Rattle.rasn_de.specs.declared.ber.de.parser.ParseError.{ParseError}
use Rattle.rasn_de.specs.declared.ber.de.parser.ParseError.TheVariants.{OutOfMemory, Der as in_der}
use Rattle.rasn_de.specs.Causes.{error_kind}
use Rattle.rasn_de.specs.Optional.{ReturnsUnlessDefault}
use Rattle.rasn_de.specs.State.{State}
use Rattle.rasn_de.specs.Segments.{string_at, octets, without_memory}
use Rattle.rasn_de.specs.OctetString.{CollectsOctets}
use Rattle.rasn_de.specs.Headers.{IsPrimitiveIdentifier}
use Rattle.rasn_de.specs.ShortText.{BeginsShortTime, HoldsShort, IsTimeExactlyIf, TakesTime}
use Rattle.rasn_de.specs.SetPartTypes.{IsRequiredOrDefault, HasGap, LeavesGap}
use Rattle.rasn_types.specs.Shapes.{number, chosen, absent, required, optional, default}
use Rattle.rasn_types.specs.Options.{IsSomeMeaningExactlyIf}
use Rattle.rasn_types.specs.Calendar.{IsOffset}
use Rattle.rasn_types.specs.CharacterString.{IsFirstForeign}
use Rattle.rasn_types.specs.declared.types.strings.alphabet.Alphabet.TheVariants.{Printable}
use Rattle.rasn_types.specs.Text.{shown_bits}
use Rattle.rasn_types.specs.Contents.{bits_of}
use Rattle.rasn_types.specs.Inline.{IsLong}

-- The outcome of reading an OCTET STRING if every allocation fails.
abbrev pub bare_octets : List ℕ → Result (List ℕ × List ℕ) ParseError
bare_octets l = string_at Ber (without_memory octets) (in_universal 4) 2 (in_universal 4) l

-- A decoder with these rules that sees these octets.
abbrev pub seeing : Codec → List ℕ → State
seeing rule l = record { rule = rule; depth = 2; closing = false; whole = l; rest = l }

-- The input begins with a UTCTime that is primitive or has a text of at most 32 octets, if each text means itself.
abbrev pub BeginsShortText : List ℕ → Type 0
BeginsShortText l = BeginsShortTime (λ (text x : List ℕ). x ≡ text) (in_universal 23) (seeing Ber l)

-- Whether a UTCTime is consumed that begins the input, if each text means itself.
abbrev pub TakesText : List ℕ → Bool → State → Type 0
TakesText l = TakesTime (λ (rule : Codec) (text x : List ℕ). x ≡ text) (in_universal 23) (seeing Ber l)

-- Whether the first octets are a text, if each text means itself.
abbrev pub IsTextExactlyIf : Bool → List ℕ → ℕ → Type 0
IsTextExactlyIf flag octets len = IsTimeExactlyIf flag (λ (text x : List ℕ). x ≡ text) octets len

-- What is returned once a number was read whose default is 7.
abbrev pub ReturnsUnlessSeven : Codec → ℤ → Result ℤ DecodeError → Type 0
ReturnsUnlessSeven rule = ReturnsUnlessDefault number (λ made. made ≡ Ok (pos 7)) (seeing rule [])

abbrev pub default_present : DecodeError
default_present = record { kind = error_kind (in_der DefaultValuePresent); codec = Der }

abbrev pub eight_zeros : List ℕ → List ℕ
eight_zeros l = 0 ∷ 0 ∷ 0 ∷ 0 ∷ 0 ∷ 0 ∷ 0 ∷ 0 ∷ l

abbrev pub zeros_32 : List ℕ
zeros_32 = eight_zeros (eight_zeros (eight_zeros (eight_zeros [])))

pub record WorkedClauses : Type 0 where
  -- Offsets of 23:59 west and east of UTC are valid, and offsets of a whole day aren't.
  pub least_offset : IsOffset (negsuc 1438)
  pub below_offset : IsOffset (negsuc 1439) → ⊥
  pub greatest_offset : IsOffset (pos 1439)
  pub above_offset : IsOffset (pos 1440) → ⊥
  -- In "A*@*", the first `*`, with the index 1, is the first octet that PrintableString doesn't admit.
  pub first_foreign : IsFirstForeign Printable (65 ∷ 42 ∷ 64 ∷ 42 ∷ []) 1
  pub second_foreign : IsFirstForeign Printable (65 ∷ 42 ∷ 64 ∷ 42 ∷ []) 2 → ⊥
  pub admitted : IsFirstForeign Printable (65 ∷ 42 ∷ 64 ∷ 42 ∷ []) 0 → ⊥
  -- If the condition holds, `Some` with the right meaning satisfies the clause; `Some` with another meaning and `None`
  -- don't.
  pub some_meaning : IsSomeMeaningExactlyIf (λ (n : ℕ). n + 1) (Some 1) (2 < 3) 2
  pub other_meaning : IsSomeMeaningExactlyIf (λ (n : ℕ). n + 1) (Some 2) (2 < 3) 2 → ⊥
  pub lacking_meaning : IsSomeMeaningExactlyIf (λ (n : ℕ). n + 1) None (2 < 3) 2 → ⊥
  -- The bits of the octet 05 in value notation are '00000101'B.
  pub shown : shown_bits (bits_of 5) ≡ 39 ∷ 48 ∷ 48 ∷ 48 ∷ 48 ∷ 48 ∷ 49 ∷ 48 ∷ 49 ∷ 39 ∷ 66 ∷ []
  -- `24 00` and `24 02 04 00` hold no octets, so they are read even if every allocation fails; `24 03 04 01 05` isn't.
  -- In `24 03 04 02 05` the octets are cut short.
  pub nothing_inside : bare_octets (36 ∷ 0 ∷ []) ≡ Ok ([], [])
  pub empty_segment : bare_octets (36 ∷ 2 ∷ 4 ∷ 0 ∷ []) ≡ Ok ([], [])
  pub octet_in_segment : bare_octets (36 ∷ 3 ∷ 4 ∷ 1 ∷ 5 ∷ []) ≡ Err OutOfMemory
  pub nothing_collected : CollectsOctets Ber 2 (in_universal 4) (36 ∷ 0 ∷ []) → ⊥
  pub empty_collected : CollectsOctets Ber 2 (in_universal 4) (36 ∷ 2 ∷ 4 ∷ 0 ∷ []) → ⊥
  pub cut_collected : CollectsOctets Ber 2 (in_universal 4) (36 ∷ 3 ∷ 4 ∷ 2 ∷ 5 ∷ []) → ⊥
  -- In segments, a text of 32 octets is short and one of 33 isn't. In a primitive string, 33 octets are short.
  pub short_segments : BeginsShortText (55 ∷ 34 ∷ 4 ∷ 32 ∷ zeros_32)
  pub long_segments : BeginsShortText (55 ∷ 35 ∷ 4 ∷ 33 ∷ 0 ∷ zeros_32) → ⊥
  pub long_primitive : BeginsShortText (23 ∷ 33 ∷ 0 ∷ zeros_32)
  -- A text that is primitive is consumed, and one of 32 octets in segments can't be left; one of 33 can.
  pub primitive_taken : TakesText (23 ∷ 33 ∷ 0 ∷ zeros_32) true (record (seeing Ber (23 ∷ 33 ∷ 0 ∷ zeros_32)) { rest = [] })
  pub short_left : TakesText (55 ∷ 34 ∷ 4 ∷ 32 ∷ zeros_32) false (seeing Ber (55 ∷ 34 ∷ 4 ∷ 32 ∷ zeros_32)) → ⊥
  pub long_left : TakesText (55 ∷ 35 ∷ 4 ∷ 33 ∷ 0 ∷ zeros_32) false (seeing Ber (55 ∷ 35 ∷ 4 ∷ 33 ∷ 0 ∷ zeros_32))
  -- Octets are kept in their order, and their number is right. If 33 were seen, nothing is said of those that are kept.
  pub two_held : HoldsShort (5 ∷ 6 ∷ 0 ∷ []) 2 (5 ∷ 6 ∷ [])
  pub one_counted : HoldsShort (5 ∷ 6 ∷ 0 ∷ []) 1 (5 ∷ 6 ∷ []) → ⊥
  pub another_held : HoldsShort (5 ∷ 7 ∷ 0 ∷ []) 2 (5 ∷ 6 ∷ []) → ⊥
  pub many_seen : HoldsShort [] 33 (0 ∷ zeros_32)
  -- One octet is a text, and 33 octets aren't known to be one.
  pub short_text : IsTextExactlyIf true (5 ∷ []) 1
  pub short_denied : IsTextExactlyIf false (5 ∷ []) 1 → ⊥
  pub long_text : IsTextExactlyIf true [] 33 → ⊥
  pub long_denied : IsTextExactlyIf false [] 33
  -- Under DER 8 is returned and 7 refused, since it is the default. Under BER 7 is returned too.
  pub eight_returned : ReturnsUnlessSeven Der (pos 8) (Ok (pos 8))
  pub eight_refused : ReturnsUnlessSeven Der (pos 8) (Err default_present) → ⊥
  pub seven_returned : ReturnsUnlessSeven Der (pos 7) (Ok (pos 7)) → ⊥
  pub seven_refused : ReturnsUnlessSeven Der (pos 7) (Err default_present)
  pub seven_in_ber : ReturnsUnlessSeven Ber (pos 7) (Ok (pos 7))
  pub seven_refused_in_ber : ReturnsUnlessSeven Ber (pos 7) (Err default_present) → ⊥
  pub eight_of_seven : ReturnsUnlessSeven Ber (pos 7) (Ok (pos 8)) → ⊥
  -- Octet 1 is the whole identifier of a primitive BOOLEAN. Octet 33 has the constructed bit, and a SEQUENCE is never
  -- primitive.
  pub boolean_identifier : IsPrimitiveIdentifier (in_universal 1) 1
  pub constructed_boolean : IsPrimitiveIdentifier (in_universal 1) 33 → ⊥
  pub primitive_sequence : IsPrimitiveIdentifier (in_universal 16) 16 → ⊥
  -- A required part and one with a default need memory if they aren't read, an optional part doesn't.
  pub required_needs : IsRequiredOrDefault required
  pub default_needs : IsRequiredOrDefault (default absent)
  pub optional_needs_none : IsRequiredOrDefault optional → ⊥
  -- Of two parts of a SET, the one that isn't read leaves a gap if it is required or has a default, and none if it is
  -- optional.
  pub required_gap : LeavesGap 0 (required ∷ optional ∷ []) (chosen 1 absent ∷ [])
  pub default_gap : LeavesGap 0 (required ∷ default absent ∷ []) (chosen 0 absent ∷ [])
  pub optional_left_out : LeavesGap 0 (required ∷ optional ∷ []) (chosen 0 absent ∷ []) → ⊥
  pub empty_slot : HasGap (required ∷ default absent ∷ []) (Some absent ∷ None ∷ [])
  pub filled_slots : HasGap (required ∷ default absent ∷ []) (Some absent ∷ Some absent ∷ []) → ⊥
  -- 2^183 and -2^183 - 1 take 24 octets, 2^183 - 1 and -2^183 take 23
  pub long_number : IsLong (pos (2 ^ 183))
  pub long_below : IsLong (negsuc (2 ^ 183))
  pub greatest_inline : IsLong (pos (2 ^ 183 - 1)) → ⊥
  pub least_inline : IsLong (negsuc (2 ^ 183 - 1)) → ⊥
