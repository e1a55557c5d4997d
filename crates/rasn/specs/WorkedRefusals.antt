-- Why octets worked out by hand aren't read as a whole BOOLEAN.
use Rattle.std.specs.Prelude.{◌≡◌, ◌↔◌, ℕ, List, [], ◌∷◌}
use Rattle.rasn_types.specs.Tags.{in_universal}
use Rattle.rasn_types.specs.declared.types.codec.Codec.{Codec}
use Rattle.rasn_types.specs.declared.types.codec.Codec.TheVariants.{Ber, Der}
use Rattle.rasn_types.specs.declared.error.decode.DecodeError.{DecodeError}
use Rattle.rasn_types.specs.declared.error.decode.DecodeErrorKind.{DecodeErrorKind}
use Rattle.rasn_types.specs.declared.error.decode.DecodeErrorKind.TheVariants.{CodecSpecific, Incomplete, InvalidBool, MismatchedLength, UnexpectedExtraData}
use Rattle.rasn_types.specs.declared.error.decode.CodecDecodeError.TheVariants as codec
use Rattle.rasn_types.specs.declared.error.decode.BerDecodeErrorKind.TheVariants.{MismatchedTag}
use Rattle.rasn_types.specs.Errors.{needed_of}
use Rattle.rasn_types.specs.Shapes.{boolean}
use Rattle.rasn_de.specs.ValueErrors.{Errors}
use Rattle.rasn.specs.Refusals.{FailsFirst, FailsAlone}
use Rattle.rasn.specs.WorkedShapes.{plain}

-- A read from the front of the input fails with an error of this kind, and with no other.
abbrev pub FailsOnlyAs : Errors → Codec → List ℕ → DecodeErrorKind → Type 0
FailsOnlyAs errors rule input kind = (e : DecodeError) → FailsFirst errors rule input e ↔ (e ≡ record { kind = kind; codec = rule })

-- The input isn't a BOOLEAN, alone, for an error of this kind, and for no other.
abbrev pub FailsAloneOnlyAs : Errors → Codec → List ℕ → DecodeErrorKind → Type 0
FailsAloneOnlyAs errors rule input kind = (e : DecodeError) → FailsAlone errors rule (plain boolean 1) input e ↔ (e ≡ record { kind = kind; codec = rule })

-- The errors of a BOOLEAN (8.1.2, 8.1.3, 8.2, 11.1), and that octets follow it (8.1.1.1).
pub record WorkedRefusals (errors : Errors) : Type 0 where
  pub no_octets : (rule : Codec) → FailsOnlyAs errors rule [] (Incomplete (needed_of 1))
  pub no_length : (rule : Codec) → FailsOnlyAs errors rule (1 ∷ []) (Incomplete (needed_of 1))
  pub three_missing : (rule : Codec) → FailsOnlyAs errors rule (1 ∷ 4 ∷ 0 ∷ []) (Incomplete (needed_of 3))
  pub another_tag : (rule : Codec) → FailsOnlyAs errors rule (2 ∷ 1 ∷ 255 ∷ []) (CodecSpecific (codec.Ber (MismatchedTag (in_universal 1) (in_universal 2))))
  pub two_octets : (rule : Codec) → FailsOnlyAs errors rule (1 ∷ 2 ∷ 0 ∷ 0 ∷ []) (MismatchedLength 1 2)
  pub neither_octet : FailsOnlyAs errors Der (1 ∷ 1 ∷ 5 ∷ []) (InvalidBool 5)
  pub any_octet : (e : DecodeError) → FailsFirst errors Ber (1 ∷ 1 ∷ 5 ∷ []) e → ⊥
  pub followed : (rule : Codec) → FailsAloneOnlyAs errors rule (1 ∷ 1 ∷ 255 ∷ 0 ∷ 0 ∷ []) (UnexpectedExtraData 2)
  pub refused_before : FailsAloneOnlyAs errors Der (1 ∷ 1 ∷ 5 ∷ 0 ∷ 0 ∷ []) (InvalidBool 5)
