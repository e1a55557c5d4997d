-- What errors say. Contracts see vectors as lists.
use Rattle.std.specs.Prelude.{◌≡◌, ℕ, zero, suc}
use Rattle.rasn_types.specs.declared.error.decode.Needed.{Needed}
use Rattle.rasn_types.specs.declared.error.decode.Needed.TheVariants.{Unknown, Size}
use Rattle.rasn_types.specs.declared.error.decode.DecodeErrorKind.{DecodeErrorKind}
use Rattle.rasn_types.specs.declared.error.decode.DecodeErrorKind.TheVariants.{OutOfMemory}
use Rattle.rasn_types.specs.declared.error.encode.EncodeErrorKind.{EncodeErrorKind}
use Rattle.rasn_types.specs.declared.error.encode.EncodeErrorKind.TheVariants.{OutOfMemory as NoMemory}

abbrev pub needed_of : ℕ → Needed
needed_of zero = Unknown
needed_of (suc n) = Size (suc n)

abbrev pub IsOutOfMemory : DecodeErrorKind → Type 0
IsOutOfMemory kind = kind ≡ OutOfMemory

abbrev pub IsEncodeOutOfMemory : EncodeErrorKind → Type 0
IsEncodeOutOfMemory kind = kind ≡ NoMemory
