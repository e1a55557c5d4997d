use Rattle.std.proofs.Common.{List, reverse}
use Rattle.std.specs.Prelude.{vec_len}
use Rattle.rasn_de.specs.State.{State}
use Rattle.rasn_schema.specs.declared.types.«Type».{«Type»}
use Rattle.rasn_dynamic.specs.declared.nested.NextPart.{NextPart}
use Rattle.rasn_dynamic.specs.declared.span.Spans.{Spans}
use Rattle.rasn_dynamic.specs.Making.{outcome}
use Rattle.rasn_dynamic.specs.Nested.{ReadsWithin}
use Rattle.rasn_dynamic.proofs.nested.ascend.Given as goal

abbrev pub invariant-loop-choice : goal.invariant-loop-choice
invariant-loop-choice g l = (types : List «Type») (s : State) (outer : NextPart) (before : Spans)
    → ReadsWithin types g.M.Made.KEEP outer s before (reverse l.fn.nested.choices.items) l.fn.nested.part.index (outcome l.fn.innermost l.fn.out l.fn.walk.error) l.decoder l.fn.walk.fault l.fn.walk.spans
    → ReadsWithin types g.M.Made.KEEP outer s before (reverse l.choices.items) l.index (outcome l.read l.out l.walk.error) l.decoder l.walk.fault l.walk.spans

abbrev pub decreases-loop-choice : goal.decreases-loop-choice
decreases-loop-choice g l = vec_len l.choices
