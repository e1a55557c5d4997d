use Rattle.std.proofs.Common.{◌<◌, length, refl, sym, arith}
use Rattle.std.proofs.lemmas.Option.{slice_get_read}
use Rattle.rasn_schema.specs.Shapes.{shape_of_type, presence_of}
use Rattle.rasn_schema.specs.Schemas.{AreDistinct}
use Rattle.rasn_schema.specs.FirstTags.{IsAlwaysThere}
use Rattle.rasn_schema.proofs.Follow.{may_follow, stopped}
use Rattle.rasn_schema.proofs.Lists.{so_far_more, so_far_end}
use Rattle.rasn_schema.proofs.rules.overlapping_component.Goals as goal

pub returns-then-not-is_distinct : goal.returns-then-not-is_distinct
returns-then-not-is_distinct c = (may_follow (shape_of_type c.args.types.now c.args.levels) (λ s. AreDistinct (shape_of_type c.args.types.now c.args.levels c.args.ty.0) s) c.args.components.now c.args.index c.loop-other.other (omega arith) c.loop-other.invariant, (c.index-components-other.result, (sym (slice_get_read c.args.components.now (length c.args.components.now) c.loop-other.other c.index-components-other.result refl (let n = c.loop-other-test.true in omega arith) c.index-components-other.is)), c.if-not-is_distinct.ensures))

pub returns-then-is_always_there : goal.returns-then-is_always_there
returns-then-is_always_there c = stopped (shape_of_type c.args.types.now c.args.levels) (λ s. AreDistinct (shape_of_type c.args.types.now c.args.levels c.args.ty.0) s) c.args.components.now c.args.index c.loop-other.other c.index-components-other.result (sym (slice_get_read c.args.components.now (length c.args.components.now) c.loop-other.other c.index-components-other.result refl (let n = c.loop-other-test.true in omega arith) c.index-components-other.is)) (omega arith) c.loop-other.invariant c.if-not-is_distinct.ensures c.if-is_always_there.ensures

pub loop-other-preserved : goal.loop-other-preserved
loop-other-preserved c = so_far_more (λ j q. c.args.index < j → AreDistinct (shape_of_type c.args.types.now c.args.levels c.args.ty.0) (shape_of_type c.args.types.now c.args.levels q.type_id.0) × (IsAlwaysThere (presence_of q.presence) → ⊥)) c.args.components.now c.loop-other.other c.index-components-other.result (sym (slice_get_read c.args.components.now (length c.args.components.now) c.loop-other.other c.index-components-other.result refl (let n = c.loop-other-test.true in omega arith) c.index-components-other.is)) (λ h. (c.if-not-is_distinct.ensures, c.if-is_always_there.ensures)) c.loop-other.invariant

pub returns : goal.returns
returns c = λ j q m e. (so_far_end (λ j q. c.args.index < j → AreDistinct (shape_of_type c.args.types.now c.args.levels c.args.ty.0) (shape_of_type c.args.types.now c.args.levels q.type_id.0) × (IsAlwaysThere (presence_of q.presence) → ⊥)) c.args.components.now c.loop-other.other (let n = c.loop-other-test.false in omega arith) c.loop-other.invariant j q e m.0).0
