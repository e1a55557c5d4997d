-- What `check`, `normalise` and `encode` say of a message, from which the exit status follows: it is 1 if one is refused.
use Rattle.std.specs.Prelude.{◌≡◌, ℕ, List, Bool, true, false, Some, None}
use Rattle.rasn_types.specs.declared.types.codec.Codec.TheVariants.{Ber}
use Rattle.rasn_lint.specs.declared.by_schema.OpenTypes.{OpenTypes}
use Rattle.rasn_lint.specs.declared.by_schema.OpenTypes.TheVariants.{Unexamined}
use Rattle.rasn_lint.specs.declared.departure.Departure.{Departure}
use Rattle.rasn_lint.specs.Lint.{IsFirstDeparture}
use Rattle.rasn_lint.specs.LocalTimes.{IsFirstIn}
use Rattle.rasn_print.specs.declared.types.MessageType.{MessageType}
use Rattle.rasn_print.specs.declared.work.Input.{Input}
use Rattle.rasn_print.specs.declared.work.Answer.{Answer}
use Rattle.rasn_print.specs.declared.work.Answer.TheVariants.{Done, Large, Departures, Refused}
use Rattle.rasn_print.specs.Reading.{IsMessage}

-- Open types are looked into as the call says, unless the type holds none.
abbrev pub opens_of : Bool → OpenTypes → OpenTypes
opens_of true opens = opens
opens_of false opens = Unexamined

-- Nothing is said of octets that the rules of the type read as a value of it; others are refused.
abbrev pub IsVerdict : MessageType → List ℕ → Answer → Type 0
IsVerdict m octets (Done text) = IsMessage m octets
IsVerdict m octets (Large shown) = ⊥
IsVerdict m octets (Departures reasons) = ⊥
IsVerdict m octets (Refused reason) = IsMessage m octets → ⊥

-- The same under DER, where also what is inside open types has to be DER if they are looked into.
abbrev pub IsDerVerdict : OpenTypes → MessageType → List ℕ → Answer → Type 0
IsDerVerdict opens m octets (Done text) = IsFirstDeparture opens m.schema.now.types.items m.root.0 octets None
IsDerVerdict opens m octets (Large shown) = ⊥
IsDerVerdict opens m octets (Departures reasons) = ⊥
IsDerVerdict opens m octets (Refused reason) = (d : Departure) × IsFirstDeparture opens m.schema.now.types.items m.root.0 octets (Some d)

-- The answer refuses.
abbrev pub IsRefusal : Answer → Type 0
IsRefusal (Done text) = ⊥
IsRefusal (Large shown) = ⊥
IsRefusal (Departures reasons) = ⊥
IsRefusal (Refused reason) = Unit {0}

-- The octets are printed as they are, unless the input was PEM or text.
abbrev pub IsInForm : Input → List ℕ → Answer → Type 0
IsInForm input octets (Done text) = input.label ≡ None → input.is_text ≡ false → text.items ≡ octets
IsInForm input octets (Large shown) = ⊥
IsInForm input octets (Departures reasons) = ⊥
IsInForm input octets (Refused reason) = ⊥

-- Unless it is refused, what is encoded is DER, and so is what is inside its open types if they are looked into.
abbrev pub IsEncoded : OpenTypes → MessageType → Input → Answer → Type 0
IsEncoded opens m input (Refused reason) = Unit {0}
IsEncoded opens m input answer = (octets : List ℕ) × IsFirstDeparture opens m.schema.now.types.items m.root.0 octets None × IsInForm input octets answer

-- Unless it is refused, BER reads the message, and none of its parts is a local time.
abbrev pub HasNoLocalTime : MessageType → List ℕ → Answer → Type 0
HasNoLocalTime m octets (Refused reason) = Unit {0}
HasNoLocalTime m octets answer = IsFirstIn m.schema.now.types.items Ber m.root.0 octets None
