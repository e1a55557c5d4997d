-- What appending one more value does to a view.
use Rattle.std.specs.Prelude.{ℕ, ◌≡◌, List, [], ◌∷◌}
use Rattle.rasn_types.specs.declared.types.codec.Codec.{Codec}
use Rattle.rasn_types.specs.declared.types.tag.Tag.{Tag}
use Rattle.rasn_types.specs.declared.error.encode.EncodeError.{EncodeError}
use Rattle.rasn_types.specs.declared.error.encode.EncodeErrorKind.TheVariants.{OutOfMemory, CodecSpecific}
use Rattle.rasn_types.specs.declared.error.encode.CodecEncodeError.TheVariants.{Ber}
use Rattle.rasn_types.specs.declared.error.encode.BerEncodeErrorKind.TheVariants.{SetOutOfOrder}
use Rattle.rasn_types.specs.Bytes.{PrimitiveEncoding}
use Rattle.rasn_enc.specs.View.{View, appended}

-- A value of this tag is appended to the last list.
pub record Appends (IsWritten : List ℕ → Type 0) (tag : Tag) (v w : View) : Type 0 where
  pub octets : List ℕ
  pub written : IsWritten octets
  pub appended : w ≡ appended v octets (tag ∷ [])

-- A primitive value of this tag, with contents that may be written, is appended to the last list.
abbrev pub AppendsPrimitive : (List ℕ → Type 0) → Tag → View → View → Type 0
AppendsPrimitive IsWritten tag v w = (contents : List ℕ) × IsWritten contents × Appends (PrimitiveEncoding tag contents) tag v w

-- The error is `OutOfMemory`.
abbrev pub IsAllocError : Codec → EncodeError → Type 0
IsAllocError rule e = e ≡ record { kind = OutOfMemory; codec = rule }

-- The error is `SetOutOfOrder`: the components or elements of a set are out of order.
abbrev pub IsOrderError : Codec → EncodeError → Type 0
IsOrderError rule e = e ≡ record { kind = CodecSpecific (Ber SetOutOfOrder); codec = rule }
