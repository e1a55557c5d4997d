use Rattle.std.proofs.Common.{refl}
use Rattle.rasn_schema.specs.Shapes.{shape_of_type}
use Rattle.rasn_schema.proofs.Follow.{own_none, own_some, told, untold, untagged_fault_is}
use Rattle.rasn_schema.proofs.rules.component_fault.Goals as goal

pub untagged_fault-requires-clause-untagged : goal.untagged_fault-requires-clause-untagged
untagged_fault-requires-clause-untagged c = own_none c.args.types.now c.args.component.now.type_id.0 c.tag_at-tag.result c.tag_at-tag.ensures c.if-is_no_tag.ensures

pub returns-then-is_no_tag : goal.returns-then-is_no_tag
returns-then-is_no_tag c = untagged_fault_is c.args.types.now _ c.args.index c.args.component.now.type_id.0 (shape_of_type c.args.types.now c.args.levels) c.args.components.now c.untagged_fault.result _
    (own_none c.args.types.now c.args.component.now.type_id.0 c.tag_at-tag.result c.tag_at-tag.ensures c.if-is_no_tag.ensures) c.untagged_fault.ensures

pub returns-in-None : goal.returns-in-None
returns-in-None c = λ j q e a m. told c.args.types.now c.args.component.now.type_id.0 c.tag_at-tag.result _ _ (own_some c.args.types.now c.args.component.now.type_id.0 c.tag_at-tag.result c.tag_at-tag.ensures c.if-is_no_tag.ensures) (c.in-None.ensures j q m e)

pub returns-in-Some : goal.returns-in-Some
returns-in-Some c = λ tag h. (refl, c.in-Some.ensures.0, (c.args.component.now, c.in-Some.ensures.1.0, h, c.in-Some.ensures.1.1, c.if-is_always_there.ensures, untold c.args.types.now c.args.component.now.type_id.0 c.tag_at-tag.result _ _ (own_some c.args.types.now c.args.component.now.type_id.0 c.tag_at-tag.result c.tag_at-tag.ensures c.if-is_no_tag.ensures) c.in-Some.ensures.1.2))
