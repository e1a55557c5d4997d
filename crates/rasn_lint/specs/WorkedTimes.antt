-- Facts about times with and without a zone that were worked out by hand.
use Rattle.std.specs.Prelude.{◌≡◌, ℕ, List, [], ◌∷◌, true, false, Vec, codes}
use Rattle.std.specs.List.{list_any}
use Rattle.std.specs.Global.{Global}
use Rattle.rasn_types.specs.Tags.{in_universal}
use Rattle.rasn_types.specs.Trees.{unconstrained}
use Rattle.rasn_schema.specs.declared.types.NamedNumber.{NamedNumber}
use Rattle.rasn_schema.specs.declared.types.LeafKind.TheVariants.{GeneralizedTime}
use Rattle.rasn_schema.specs.declared.types.«Type».{«Type»}
use Rattle.rasn_schema.specs.declared.types.«Type».TheVariants.{Leaf}
use Rattle.rasn_dynamic.specs.declared.span.Span.{Span}
use Rattle.rasn_lint.specs.LocalTimes.{is_of_zone, IsLocalTime, IsNotLocal}
use Rattle.rasn_lint.specs.WorkedMessages.{a_boolean}

-- GeneralizedTime, alone.
abbrev pub a_time : Vec NamedNumber Global → List «Type»
a_time names = Leaf GeneralizedTime (in_universal 24) unconstrained names ∷ []

-- Noon of a day, without a zone and in UTC.
abbrev pub local_noon : List ℕ
local_noon = codes "2026120112"

abbrev pub noon : List ℕ
noon = codes "2026120112Z"

pub record WorkedTimes (names : Vec NamedNumber Global) (e : Span) : Type 0 where
  pub east : list_any is_of_zone (codes "2026120112+0100") ≡ true
  pub west : list_any is_of_zone (codes "2026120112-0100") ≡ true
  pub is_local : e.octets.now ≡ 24 ∷ 10 ∷ local_noon → IsLocalTime (a_time names) e local_noon
  pub isnt_zoned : e.octets.now ≡ 24 ∷ 10 ∷ local_noon → IsNotLocal (a_time names) e → ⊥
  pub is_zoned : e.octets.now ≡ 24 ∷ 11 ∷ noon → IsNotLocal (a_time names) e
  pub isnt_local : (text : List ℕ) → e.octets.now ≡ 24 ∷ 11 ∷ noon → IsLocalTime (a_time names) e text → ⊥
  pub no_time : IsNotLocal (a_boolean names) e
