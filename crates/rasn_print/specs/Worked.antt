-- What is said of the octets of a BOOLEAN, worked out by hand.
use Rattle.std.specs.Prelude.{◌≡◌, ℕ, List, [], ◌∷◌, None, Vec}
use Rattle.std.specs.Global.{Global}
use Rattle.rasn_types.specs.declared.types.codec.Codec.TheVariants.{Der}
use Rattle.rasn_types.specs.declared.error.decode.DecodeErrorKind.TheVariants.{UnexpectedExtraData}
use Rattle.rasn_schema.specs.declared.types.NamedNumber.{NamedNumber}
use Rattle.rasn_lint.specs.declared.by_schema.OpenTypes.TheVariants.{Unexamined}
use Rattle.rasn_lint.specs.declared.departure.Departure.{Departure}
use Rattle.rasn_lint.specs.declared.departure.Aspect.TheVariants.{Contents}
use Rattle.rasn_lint.specs.WorkedMessages.{a_boolean, short_true, long_true}
use Rattle.rasn_print.specs.declared.types.MessageType.{MessageType}
use Rattle.rasn_print.specs.declared.reason.Reason.{Reason}
use Rattle.rasn_print.specs.declared.work.Answer.TheVariants.{Done, Departures, Refused}
use Rattle.rasn_print.specs.Verdicts.{IsVerdict, IsDerVerdict}

-- The type is BOOLEAN, alone in its schema, and read by DER.
pub record IsBoolean (m : MessageType) : Type 0 where
  pub names : Vec NamedNumber Global
  pub types : m.schema.now.types.items ≡ a_boolean names
  pub root : m.root.0 ≡ 0
  pub rule : m.rule ≡ Der

-- TRUE with its length in one octet, and an octet after it.
abbrev pub followed_true : List ℕ
followed_true = 1 ∷ 1 ∷ 255 ∷ 0 ∷ []

-- The departure is the octet after it.
pub record IsOfNextOctet (d : Departure) : Type 0 where
  pub error : d.refusal.error ≡ record { kind = UnexpectedExtraData 1; codec = Der }
  pub offset : d.refusal.offset ≡ 3
  pub steps : d.refusal.steps.items ≡ []
  pub inner : d.inner ≡ None
  pub aspect : d.aspect ≡ Contents

-- Nothing is said of TRUE with its length in one octet. TRUE with its length in two is refused, and so is an octet after it: not the reverse.
pub record WorkedVerdicts (m : MessageType) : Type 0 where
  pub passed : (text : Vec ℕ Global) → IsVerdict m short_true (Done text)
  pub not_refused : (reason : Reason) → IsVerdict m short_true (Refused reason) → ⊥
  pub refused : (reason : Reason) → IsVerdict m long_true (Refused reason)
  pub not_passed : (text : Vec ℕ Global) → IsVerdict m long_true (Done text) → ⊥
  pub der_passed : (text : Vec ℕ Global) → IsDerVerdict Unexamined m short_true (Done text)
  pub not_der_refused : (reason : Reason) → IsDerVerdict Unexamined m short_true (Refused reason) → ⊥
  pub not_der_passed : (text : Vec ℕ Global) → IsDerVerdict Unexamined m long_true (Done text) → ⊥
  pub no_list : (reasons : Vec Reason Global) → IsVerdict m short_true (Departures reasons) → ⊥
  pub no_der_list : (reasons : Vec Reason Global) → IsDerVerdict Unexamined m short_true (Departures reasons) → ⊥
  pub der_refused : (d : Departure) → IsOfNextOctet d → (reason : Reason) → IsDerVerdict Unexamined m followed_true (Refused reason)
  pub not_followed : (text : Vec ℕ Global) → IsDerVerdict Unexamined m followed_true (Done text) → ⊥
