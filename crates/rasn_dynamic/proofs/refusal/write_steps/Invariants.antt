use Rattle.std.proofs.Common.{true}
use Rattle.std.specs.Fmt.{IsPlainFormatter}
use Rattle.rasn_dynamic.specs.Shown.{way_text}
use Rattle.rasn_dynamic.proofs.Shown.{SoFar}
use Rattle.rasn_dynamic.proofs.refusal.write_steps.Given as goal

abbrev pub invariant-loop-step : goal.invariant-loop-step
invariant-loop-step g l = IsPlainFormatter l.initial.f → SoFar g.W.Write.write_str_gives l.types l.inner l.steps (way_text l.types l.inner true l.fn.from.0 l.steps) l.step-index l.initial.f l.is_first l.id.0 l.f
