use Rattle.std.proofs.Common.{refl, arith}
use Rattle.rasn_schema.proofs.Follow.{none_after, untold_by_firsts}
use Rattle.rasn_schema.proofs.rules.untagged_fault.Goals as goal

pub returns-then-index-components : goal.returns-then-index-components
returns-then-index-components c = λ j q e m. none_after c.args.types.now c.args.components.now c.args.index j q (omega arith) e m

pub returns-then-not-is_recognizable : goal.returns-then-not-is_recognizable
returns-then-not-is_recognizable c = λ tag h. (refl, omega arith, (c.args.component.now, h, c.requires.absent, c.requires.untagged, c.if-not-is_recognizable.ensures))

pub returns-in-None : goal.returns-in-None
returns-in-None c = λ j q e m. (c.if-not-is_recognizable.ensures, c.in-None.ensures j q m e)

pub returns-in-Some : goal.returns-in-Some
returns-in-Some c = λ tag h. (refl, c.in-Some.ensures.0, (c.args.component.now, c.in-Some.ensures.1.0, h, c.in-Some.ensures.1.1, c.requires.absent, untold_by_firsts c.args.types.now c.args.component.now.type_id.0 _ _ c.requires.untagged c.in-Some.ensures.1.2))
