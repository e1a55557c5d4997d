-- Event ::= SET { time Time, level [0] IMPLICIT INTEGER (0..255) DEFAULT 7, confirmed [1] IMPLICIT BOOLEAN OPTIONAL }
use Rattle.std.specs.Prelude.{◌≡◌, ◌⊎◌, ℕ, pos, false, List, [], ◌∷◌, map, codes, Vec, Result, Err, Contains, IfOk, IfErr}
use Rattle.std.specs.Global.{Global}
use Rattle.rasn_types.specs.declared.types.codec.Codec.{Codec}
use Rattle.rasn_types.specs.declared.error.decode.DecodeError.{DecodeError}
use Rattle.rasn_types.specs.Tags.{in_universal, form}
use Rattle.rasn_types.specs.Framing.{NextTag}
use Rattle.rasn_types.specs.declared.types.tag.Tag.{Tag}
use Rattle.rasn_types.specs.declared.types.tag.Class.TheVariants.{Context}
use Rattle.rasn_types.specs.Shapes.{Shape, Tree, number, items, chosen, leaf, integer, boolean, set, choice, Parts, part, required, optional, default, IsFirst, IsFirstOf}
use Rattle.rasn_types.specs.Shapes.Parts.{none}
use Rattle.rasn_types.specs.Trees.{bool_tree, option_tree, unconstrained, unsigned_range}
use Rattle.rasn_examples.specs.declared.event.Event.{Event}
use Rattle.rasn_examples.specs.declared.event.Component.{Component}
use Rattle.rasn_examples.specs.declared.event.Component.TheVariants.{At, Level, Confirmed}
use Rattle.rasn_de.specs.State.{State, Call}
use Rattle.rasn_de.specs.Beyond.{Beyond, Held, BeyondElements, BeyondInside}
use Rattle.rasn_de.specs.Constructed.{sequence_header}
use Rattle.rasn_de.specs.NamedErrors.{IsNamedError, IsNoValidChoice}
use Rattle.rasn_de.specs.Optional.{DecodesOrDefault}
use Rattle.rasn_de.specs.Set.{DecodesSetBy, MakesSet}
use Rattle.rasn_de.specs.SetPartTypes.{MakesNamed}
use Rattle.rasn_de.specs.Steps.{PeeksTag}
use Rattle.rasn_de.specs.ValueErrors.{Errors, errors_of, DecodesOr}
use Rattle.rasn_examples.specs.Times.{time_shape, time_tree, time_beyond}

abbrev pub context : ℕ → Tag
context n = record { class = Context; value = n }

abbrev pub level_shape : Shape
level_shape = leaf (integer (unsigned_range 8)) (context 0) unconstrained

abbrev pub confirmed_shape : Shape
confirmed_shape = leaf boolean (context 1) unconstrained

abbrev pub event_parts : Parts
event_parts = part required time_shape (part (default (number (pos 7))) level_shape (part optional confirmed_shape none))

abbrev pub event_shape : Shape
event_shape = set (in_universal 17) event_parts

abbrev pub level_tree : ℕ → Tree
level_tree n = number (pos n)

abbrev pub event_tree : Event → Tree
event_tree e = items (time_tree e.time ∷ level_tree e.level ∷ option_tree bool_tree e.confirmed ∷ [])

abbrev pub component_tree : Component → Tree
component_tree (At time) = chosen 0 (time_tree time)
component_tree (Level level) = chosen 1 (level_tree level)
component_tree (Confirmed truth) = chosen 2 (bool_tree truth)

-- A time has the offset of its text.
abbrev pub component_beyond : State → Component → State → Type 0
component_beyond old (At time) new = time_beyond old time new
component_beyond old (Level level) new = Unit {0}
component_beyond old (Confirmed truth) new = Unit {0}

abbrev pub DecodesComponent : Call Component
DecodesComponent old result new = IfOk result (λ c. component_beyond old c new)

-- The time is one of these components.
abbrev pub HoldsTime : List Component → Event → Type 0
HoldsTime components event = Contains components (At event.time)

-- The time is one of the components that are read inside.
abbrev pub event_inside : Beyond Event
event_inside start event end = (components : List Component) × BeyondElements (Held (choice event_parts) component_tree DecodesComponent) start components end
    × HoldsTime components event

abbrev pub event_beyond : Tag → State → Event → Type 0
event_beyond tag old event = BeyondInside event_inside (sequence_header tag) old event

abbrev pub event_name : List ℕ
event_name = codes "Event"

abbrev pub event_names : List (List ℕ)
event_names = codes "time" ∷ codes "level" ∷ codes "confirmed" ∷ []

-- Why the component with this tag can't be read: its own type can't; or the tag is that of no component, and nothing is
-- consumed.
pub data FailsByTag (time level confirmed : Errors) (tag : Tag) (old : State) (e : DecodeError) (new : State) : Type 0 where
  no_time : IsFirst time_shape tag → time old e new → FailsByTag time level confirmed tag old e new
  no_level : tag ≡ context 0 → level old e new → FailsByTag time level confirmed tag old e new
  not_confirmed : tag ≡ context 1 → confirmed old e new → FailsByTag time level confirmed tag old e new
  no_component : (IsFirstOf event_parts tag → ⊥) → IsNamedError (IsNoValidChoice event_name) old.rule e → new ≡ old → FailsByTag time level confirmed tag old e new

-- The same for the next tag.
abbrev pub component_errors : Errors → Errors → Errors → Errors
component_errors time level confirmed old e new = (tag : Tag) × NextTag (form old.rule) old.rest tag × FailsByTag time level confirmed tag old e new

-- The look at the next tag fails, which consumes nothing, or the error is one of these.
abbrev pub OrNoTag : Errors → Errors
OrNoTag errors old e new = (PeeksTag old (Err e) × (new ≡ old)) ⊎ errors old e new

-- A level under its tag has these errors, or is refused since it equals the default, which is 7.
abbrev pub level_errors : Errors → Errors
level_errors errors = errors_of (DecodesOrDefault (DecodesOr level_shape level_tree errors) level_tree (λ made. IfOk made (λ n. n ≡ 7)) (context 0))

-- What is made from all components: the event; or the error for the first component that is present twice or, if none
-- is, for a missing time.
abbrev pub MakesEvent : Codec → Vec Component Global → Result Event DecodeError → Type 0
MakesEvent rule components r = MakesSet event_parts event_tree (map component_tree components.items) r
    × IfErr r (λ e. MakesNamed false event_parts event_tree event_names rule (map component_tree components.items) (Err e))

-- Components are read one by one, and an event is made from them.
abbrev pub event_errors : Errors → Tag → Errors
event_errors errors tag old = errors_of (DecodesSetBy (DecodesOr (choice event_parts) component_tree errors) (MakesEvent old.rule) tag) old
