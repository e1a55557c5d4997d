-- The parts on the way to a part.
use Rattle.std.specs.Prelude.{ℕ, zero, suc, List, [], ◌∷◌, ◌++◌, take, slice_get, Option, None}
use Rattle.rasn_dynamic.specs.declared.span.Span.{Span}
use Rattle.rasn_lint.specs.declared.trail.Step.{Step}

abbrev pub step_of : Span → Step
step_of e = record { id = e.id; index = e.index; octets = e.octets }

-- The part is in those before it, each of which is in the one before.
abbrev pub trail_after : List Step → Span → List Step
trail_after trail e = take e.depth trail ++ step_of e ∷ []

abbrev pub step_before : ℕ → List Step → Option Step
step_before zero trail = None
step_before (suc d) trail = slice_get trail d

-- If the trail leads to the part before this one in the message: the part that holds this one, and the one before it
-- there.
abbrev pub holder_in : List Step → Span → Option Step
holder_in trail e = step_before e.depth trail

abbrev pub before_in : List Step → Span → Option Step
before_in trail e = slice_get trail e.depth
