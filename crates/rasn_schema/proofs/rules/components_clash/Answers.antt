use Rattle.std.proofs.Common.{◌≡◌, ℕ, Some, length, refl, sym, arith}
use Rattle.std.specs.Prelude.{slice_get}
use Rattle.std.proofs.lemmas.Option.{slice_get_read}
use Rattle.rasn_schema.specs.declared.types.Component.{Component}
use Rattle.rasn_schema.specs.Shapes.{shape_of_type, presence_of}
use Rattle.rasn_schema.specs.FirstTags.{IsAlwaysThere}
use Rattle.rasn_schema.specs.Schemas.{MayFollow, IsToldFrom, own_at}
use Rattle.rasn_schema.proofs.Lists.{so_far_more, so_far_end}
use Rattle.rasn_schema.proofs.rules.components_clash.Goals as goal

pub returns-in-Some : goal.returns-in-Some
returns-in-Some c = λ tag. c.in-Some.ensures tag (sym (slice_get_read c.args.components.now (length c.args.components.now) c.loop-index.index c.index-components-index.result refl (let n = c.loop-index-test.true in omega arith) c.index-components-index.is))

pub loop-index-preserved : goal.loop-index-preserved
loop-index-preserved c = so_far_more (λ i p. (j : ℕ) (q : Component) → Some q ≡ slice_get c.args.components.now j → (IsAlwaysThere (presence_of p.presence) → ⊥) → MayFollow c.args.components.now i j → IsToldFrom (own_at c.args.types.now p.type_id.0) (shape_of_type c.args.types.now c.args.levels p.type_id.0) (shape_of_type c.args.types.now c.args.levels q.type_id.0)) c.args.components.now c.loop-index.index c.index-components-index.result (sym (slice_get_read c.args.components.now (length c.args.components.now) c.loop-index.index c.index-components-index.result refl (let n = c.loop-index-test.true in omega arith) c.index-components-index.is)) c.in_default.ensures c.loop-index.invariant

pub returns : goal.returns
returns c = λ i j p q e g a m. so_far_end (λ i p. (j : ℕ) (q : Component) → Some q ≡ slice_get c.args.components.now j → (IsAlwaysThere (presence_of p.presence) → ⊥) → MayFollow c.args.components.now i j → IsToldFrom (own_at c.args.types.now p.type_id.0) (shape_of_type c.args.types.now c.args.levels p.type_id.0) (shape_of_type c.args.types.now c.args.levels q.type_id.0)) c.args.components.now c.loop-index.index (let n = c.loop-index-test.false in omega arith) c.loop-index.invariant i p e j q g a m
