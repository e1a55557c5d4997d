-- What `check`, `normalise` and `encode` say.
use Rattle.std.proofs.Common.{◌≡◌, ◌⊎◌, inl, inr, ℕ, List, Some, None, Result, Ok, Err, subst}
use Rattle.std.specs.Prelude.{IfOk}
use Rattle.rasn_types.specs.declared.types.codec.Codec.TheVariants.{Ber}
use Rattle.rasn_types.specs.Errors.{IsOutOfMemory}
use Rattle.rasn_lint.specs.declared.by_schema.OpenTypes.{OpenTypes}
use Rattle.rasn_lint.specs.declared.departure.Departure.{Departure}
use Rattle.rasn_lint.specs.Lint.{IsFirstDeparture}
use Rattle.rasn_lint.specs.LocalTimes.{IsFirstIn}
use Rattle.rasn_print.specs.declared.types.MessageType.{MessageType}
use Rattle.rasn_print.specs.declared.work.Input.{Input}
use Rattle.rasn_print.specs.declared.work.Answer.{Answer}
use Rattle.rasn_print.specs.declared.work.Answer.TheVariants.{Done, Large, Departures, Refused}
use Rattle.rasn_print.specs.Verdicts.{IsDerVerdict, IsRefusal, IsInForm, IsEncoded, HasNoLocalTime}

-- The first departure of a message, if memory didn't run out for it.
pub found : (o opens : OpenTypes) (m : MessageType) (octets : List ℕ) (d : Departure) → o ≡ opens → (IsOutOfMemory d.refusal.error.kind → ⊥)
    → IsOutOfMemory d.refusal.error.kind ⊎ IsFirstDeparture o m.schema.now.types.items m.root.0 octets (Some d)
    → (d : Departure) × IsFirstDeparture opens m.schema.now.types.items m.root.0 octets (Some d)
found o opens m octets d same not (inl memory) = absurd (not memory)
found o opens m octets d same not (inr first) = (d, subst (λ z. IsFirstDeparture z m.schema.now.types.items m.root.0 octets (Some d)) same first)

-- What refuses a message with a departure is the verdict.
pub refuses : (opens : OpenTypes) (m : MessageType) (octets : List ℕ) → ((d : Departure) × IsFirstDeparture opens m.schema.now.types.items m.root.0 octets (Some d))
    → (a : Answer) → IsRefusal a → IsDerVerdict opens m octets a
refuses opens m octets at (Done text) h = absurd h
refuses opens m octets at (Large shown) h = absurd h
refuses opens m octets at (Departures reasons) h = absurd h
refuses opens m octets at (Refused reason) h = at

-- What refuses a message writes nothing.
pub refused_unwritten : (opens : OpenTypes) (m : MessageType) (input : Input) (a : Answer) → IsRefusal a → IsEncoded opens m input a
refused_unwritten opens m input (Done text) h = absurd h
refused_unwritten opens m input (Large shown) h = absurd h
refused_unwritten opens m input (Departures reasons) h = absurd h
refused_unwritten opens m input (Refused reason) h = tt

-- Octets without a departure are written.
pub written : (opens : OpenTypes) (m : MessageType) (input : Input) (octets : List ℕ) → IsFirstDeparture opens m.schema.now.types.items m.root.0 octets None
    → (a : Answer) → IsInForm input octets a → IsEncoded opens m input a
written opens m input octets first (Done text) h = (octets, first, h)
written opens m input octets first (Large shown) h = absurd h
written opens m input octets first (Departures reasons) h = absurd h
written opens m input octets first (Refused reason) h = absurd h

pub refused_unchanged : (m : MessageType) (octets : List ℕ) (a : Answer) → IsRefusal a → HasNoLocalTime m octets a
refused_unchanged m octets (Done text) h = absurd h
refused_unchanged m octets (Large shown) h = absurd h
refused_unchanged m octets (Departures reasons) h = absurd h
refused_unchanged m octets (Refused reason) h = tt

-- A message without local times may be written.
pub zoned : (m : MessageType) (octets : List ℕ) → IsFirstIn m.schema.now.types.items Ber m.root.0 octets None → (a : Answer) → HasNoLocalTime m octets a
zoned m octets h (Done text) = h
zoned m octets h (Large shown) = h
zoned m octets h (Departures reasons) = h
zoned m octets h (Refused reason) = tt

-- What each answer is, the one that is returned is.
pub any_ok : {A E : Type 0} (P : A → Type 0) (r : Result A E) → ((a : A) → P a) → IfOk r P
any_ok P (Ok a) f = f a
any_ok P (Err e) f = tt
