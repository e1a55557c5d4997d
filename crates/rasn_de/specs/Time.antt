-- Times, read as strings whose octets are the text of an instant or a day.
use Rattle.std.specs.Prelude.{◌≡◌, ◌≢◌, ◌⊎◌, ℕ, ℤ, List, [], Result, Ok, Err}
use Rattle.std.specs.Cow.{cow_slice_items, IsBorrowedSlice}
use Rattle.std.specs.declared.alloc.Global.{Global}
use Rattle.std.specs.declared.borrow.CowSlice.{CowSlice}
use Rattle.std.specs.declared.vec.Vec.{Vec}
use Rattle.rasn_types.specs.Calendar.{Moment, Stamp}
use Rattle.rasn_types.specs.declared.types.tag.Tag.{Tag}
use Rattle.rasn_types.specs.declared.types.codec.Codec.{Codec}
use Rattle.rasn_types.specs.declared.types.codec.Codec.TheVariants.{Ber}
use Rattle.rasn_types.specs.declared.error.decode.DecodeError.{DecodeError}
use Rattle.rasn_types.specs.declared.error.decode.DecodeErrorKind.TheVariants.{OutOfMemory}
use Rattle.rasn_types.specs.declared.error.decode.BerDecodeErrorKind.TheVariants.{InvalidDate}
use Rattle.rasn_de.specs.Causes.{in_ber}
use Rattle.rasn_de.specs.OctetString.{octet_string_at, DecodesOctets, IsPrimitive}
use Rattle.rasn_de.specs.State.{State, at}

-- The instant of a text, whatever its offset.
abbrev pub AtAnyOffset : (List ℕ → Stamp → Type 0) → List ℕ → Moment → Type 0
AtAnyOffset R text m = (offset : ℤ) × R text (record { moment = m; offset = offset })

-- The error contains the whole text, which isn't a valid time or date.
pub record IsInvalidDate (text : List ℕ) (rule : Codec) (e : DecodeError) : Type 0 where
  pub octets : Vec ℕ Global
  pub items : octets.items ≡ text
  pub is : e ≡ record { kind = in_ber (InvalidDate octets); codec = rule }

-- The allocation for the error's copy of the text failed.
abbrev pub IsAllocError : Codec → DecodeError → Type 0
IsAllocError rule e = e ≡ record { kind = OutOfMemory; codec = rule }

-- The error of a text that isn't a valid time and has to be copied: an empty one takes no memory.
abbrev pub IsInvalidText : List ℕ → Codec → DecodeError → Type 0
IsInvalidText text rule e = IsInvalidDate text rule e ⊎ (IsAllocError rule e × (text ≢ []))

-- The error contains the octets of a string that isn't a valid time or date. Borrowed octets are copied for it.
abbrev pub IsInvalidString : CowSlice ℕ Global → Codec → DecodeError → Type 0
IsInvalidString s rule e = IsInvalidDate (cow_slice_items s) rule e ⊎ (IsAllocError rule e × IsBorrowedSlice s × (cow_slice_items s ≢ []))

-- A text is parsed to what it means. If it means nothing, the error contains it.
abbrev pub ParsesTime : {X : Type 0} → (List ℕ → X → Type 0) → List ℕ → Result X DecodeError → Type 0
ParsesTime Means text (Ok x) = Means text x
ParsesTime {X} Means text (Err e) = ((x : X) → Means text x → ⊥) × IsInvalidDate text Ber e

-- A text is parsed to what it means. If it means nothing, the error contains it, or the allocation for its copy failed.
abbrev pub ParsesCopiedTime : {X : Type 0} → (List ℕ → X → Type 0) → List ℕ → Result X DecodeError → Type 0
ParsesCopiedTime Means text (Ok x) = Means text x
ParsesCopiedTime {X} Means text (Err e) = ((x : X) → Means text x → ⊥) × IsInvalidText text Ber e

-- A call consumes a string whose text means a time or a date. If the string can't be read, the error is that of the
-- string, and nothing is consumed. If its text means nothing, the string is consumed; the text of a primitive string is
-- copied for the error.
abbrev pub DecodesTime : {X : Type 0} → (List ℕ → X → Type 0) → Tag → State → Result X DecodeError → State → Type 0
DecodesTime Means tag old (Ok x) new =
    (text : List ℕ) × (octet_string_at old.rule old.depth tag old.rest ≡ Ok (text, new.rest)) × (new ≡ at old new.rest) × Means text x
DecodesTime {X} Means tag old (Err e) new =
    DecodesOctets tag old (Err e) new
    ⊎ ((text : List ℕ) × (octet_string_at old.rule old.depth tag old.rest ≡ Ok (text, new.rest)) × (new ≡ at old new.rest) × ((x : X) → Means text x → ⊥)
    × (IsInvalidDate text old.rule e ⊎ (IsAllocError old.rule e × IsPrimitive old.rule tag old.rest × (text ≢ []))))
