-- Time ::= CHOICE { utcTime UTCTime, generalTime GeneralizedTime }
use Rattle.std.specs.Prelude.{ℕ, List, Ok, codes}
use Rattle.rasn_types.specs.Tags.{in_universal}
use Rattle.rasn_types.specs.Shapes.{Shape, Tree, instant, chosen, leaf, utc_time, generalized_time, choice, Parts, part, required}
use Rattle.rasn_types.specs.Shapes.Parts.{none}
use Rattle.rasn_types.specs.Trees.{unconstrained}
use Rattle.rasn_types.specs.Equality.{AreNeverAbsent}
use Rattle.rasn_types.specs.Grammar.{GeneralizedText}
use Rattle.rasn_de.specs.State.{State}
use Rattle.rasn_de.specs.Time.{DecodesTime}
use Rattle.rasn_examples.specs.declared.time.Time.{Time}
use Rattle.rasn_examples.specs.declared.time.Time.TheVariants.{Utc, General}

-- The name of the type in errors.
abbrev pub time_name : List ℕ
time_name = codes "Time"

abbrev pub time_alternatives : Parts
time_alternatives = part required (leaf utc_time (in_universal 23) unconstrained) (part required (leaf generalized_time (in_universal 24) unconstrained) none)

abbrev pub time_shape : Shape
time_shape = choice time_alternatives

abbrev pub time_tree : Time → Tree
time_tree (Utc time) = chosen 0 (instant time)
time_tree (General time) = chosen 1 (instant time.moment)

pub time_not_absent : AreNeverAbsent time_tree
time_not_absent (Utc time) e = cc
time_not_absent (General time) e = cc

-- A GeneralizedTime has the offset of its text.
abbrev pub time_beyond : State → Time → State → Type 0
time_beyond old (Utc time) new = Unit {0}
time_beyond old (General time) new = DecodesTime (GeneralizedText old.rule) (in_universal 24) old (Ok time) new
