-- Why unknown values aren't written, which are kept as octets.
use Rattle.std.specs.Prelude.{ℕ, List, Bool, T, nat_eq, not, length}
use Rattle.std.specs.List.{list_any}
use Rattle.rasn_types.specs.declared.error.encode.EncodeError.{EncodeError}
use Rattle.rasn_enc.specs.View.{View}
use Rattle.rasn_enc.specs.Any.{FailsAtUntagged}

-- Whether some of the values have octets.
abbrev pub have_octets : List (List ℕ) → Bool
have_octets values = list_any (λ octets. not (nat_eq (length octets) 0)) values

-- There are octets, which have no tag, and the last list keeps tags; otherwise an allocation fails.
abbrev pub FailsAtUnknown : List (List ℕ) → View → EncodeError → Type 0
FailsAtUnknown values v e = T (have_octets values) × FailsAtUntagged v e
