-- Errors that contain a name.
use Rattle.std.specs.Prelude.{ℕ, ◌≡◌, ◌⊎◌, List, string_bytes}
use Rattle.rasn_types.specs.declared.types.codec.Codec.{Codec}
use Rattle.rasn_types.specs.declared.error.decode.DecodeError.{DecodeError}
use Rattle.rasn_types.specs.declared.error.decode.DecodeErrorKind.{DecodeErrorKind}
use Rattle.rasn_types.specs.declared.error.decode.DecodeErrorKind.TheVariants.{OutOfMemory, NoValidChoice, MissingField, DuplicateField}

abbrev pub IsNoValidChoice : List ℕ → DecodeErrorKind → Type 0
IsNoValidChoice name (NoValidChoice reported) = string_bytes reported ≡ name
IsNoValidChoice name _ = ⊥

abbrev pub IsMissingField : List ℕ → DecodeErrorKind → Type 0
IsMissingField name (MissingField reported) = string_bytes reported ≡ name
IsMissingField name _ = ⊥

abbrev pub IsDuplicateField : List ℕ → DecodeErrorKind → Type 0
IsDuplicateField name (DuplicateField reported) = string_bytes reported ≡ name
IsDuplicateField name _ = ⊥

-- The error is of this kind, or the allocation for its copy of the name failed.
abbrev pub IsNamedError : (DecodeErrorKind → Type 0) → Codec → DecodeError → Type 0
IsNamedError is rule e = (e.codec ≡ rule) × (is e.kind ⊎ (e.kind ≡ OutOfMemory))
