-- Facts about the octets of a BOOLEAN that were worked out by hand, and what is none.
use Rattle.std.specs.Prelude.{◌≡◌, ℕ, List, [], ◌∷◌, true, false, Some, None, Vec}
use Rattle.std.specs.Global.{Global}
use Rattle.rasn_types.specs.declared.error.decode.DerDecodeErrorKind.TheVariants.{NonMinimalLength, DefaultValuePresent}
use Rattle.rasn_types.specs.Tags.{in_universal}
use Rattle.rasn_types.specs.Trees.{unconstrained}
use Rattle.rasn_schema.specs.declared.types.NamedNumber.{NamedNumber}
use Rattle.rasn_schema.specs.declared.types.LeafKind.TheVariants.{Boolean}
use Rattle.rasn_schema.specs.declared.types.«Type».{«Type»}
use Rattle.rasn_schema.specs.declared.types.«Type».TheVariants.{Leaf}
use Rattle.rasn_schema.specs.declared.value.Value.{Boolean as BooleanValue}
use Rattle.rasn_dynamic.specs.declared.message.MessageParts.{MessageParts}
use Rattle.rasn_dynamic.specs.declared.span.Span.{Span}
use Rattle.rasn_lint.specs.declared.by_schema.OpenTypes.TheVariants.{Unexamined}
use Rattle.rasn_lint.specs.declared.departure.Departure.{Departure}
use Rattle.rasn_lint.specs.declared.departure.Aspect.TheVariants.{Header}
use Rattle.rasn_lint.specs.declared.leaf.Segments.TheVariants.{Whole}
use Rattle.rasn_lint.specs.Header.{IsLengthFault}
use Rattle.rasn_lint.specs.Leaf.{IsMended}
use Rattle.rasn_lint.specs.Lint.{IsDer, IsLint, IsFirstDeparture}
use Rattle.rasn_lint.specs.Place.{der_error, IsDefaultFault}

-- BOOLEAN, alone.
abbrev pub a_boolean : Vec NamedNumber Global → List «Type»
a_boolean names = Leaf Boolean (in_universal 1) unconstrained names ∷ []

-- The octets of TRUE, with the length in one octet, and in two.
abbrev pub short_true : List ℕ
short_true = 1 ∷ 1 ∷ 255 ∷ []

abbrev pub long_true : List ℕ
long_true = 1 ∷ 129 ∷ 1 ∷ 255 ∷ []

-- The parts of the long one: it alone.
pub record IsLongAlone (ps : MessageParts) (e : Span) : Type 0 where
  pub list : ps.list.items ≡ e ∷ []
  pub input : ps.input.now ≡ long_true
  pub next : ps.next ≡ 0
  pub path : ps.path.items ≡ []
  pub id : e.id.0 ≡ 0
  pub index : e.index ≡ 0
  pub depth : e.depth ≡ 0
  pub left : e.left ≡ 4
  pub octets : e.octets.now ≡ long_true

-- Its length is in more octets than it needs, and the departure is at its start.
pub record IsOfLongLength (e : Span) (d : Departure) : Type 0 where
  pub error : d.refusal.error ≡ der_error NonMinimalLength
  pub offset : d.refusal.offset ≡ 0
  pub id : d.refusal.id ≡ e.id
  pub steps : d.refusal.steps.items ≡ []
  pub whole : d.refusal.is_cut ≡ false
  pub aspect : d.aspect ≡ Header
  pub inner : d.inner ≡ None

pub record WorkedMessages (names : Vec NamedNumber Global) : Type 0 where
  pub read : IsDer (a_boolean names) 0 short_true
  pub not_read : IsDer (a_boolean names) 0 long_true → ⊥
  pub long : IsLengthFault long_true (Some (der_error NonMinimalLength))
  pub long_is_seen : IsLengthFault long_true None → ⊥
  pub mended : IsMended Whole (in_universal 1) long_true short_true
  pub nothing_to_mend : (octets : List ℕ) → IsMended Whole (in_universal 1) [] octets → ⊥
  pub default : IsDefaultFault (a_boolean names) 0 long_true (Some (BooleanValue true)) (Some (der_error DefaultValuePresent))
  pub default_is_seen : IsDefaultFault (a_boolean names) 0 long_true (Some (BooleanValue true)) None → ⊥
  pub not_the_default : IsDefaultFault (a_boolean names) 0 long_true (Some (BooleanValue false)) None
  pub one_listed : (ps : MessageParts) (e : Span) (d : Departure) → IsLongAlone ps e → IsOfLongLength e d → IsLint Unexamined (a_boolean names) 0 long_true (d ∷ [])
  pub listed : IsLint Unexamined (a_boolean names) 0 long_true [] → ⊥
  pub one_follows : (ds : List Departure) → IsLint Unexamined (a_boolean names) 0 (1 ∷ 1 ∷ 255 ∷ 0 ∷ []) ds → ⊥
  pub not_listed : (ds : List Departure) → IsLint Unexamined (a_boolean names) 0 short_true ds → ds ≡ []
  pub none_first : IsFirstDeparture Unexamined (a_boolean names) 0 short_true None
  pub one_is_first : IsFirstDeparture Unexamined (a_boolean names) 0 long_true None → ⊥
  pub not_one : (d : Departure) → IsFirstDeparture Unexamined (a_boolean names) 0 short_true (Some d) → ⊥
