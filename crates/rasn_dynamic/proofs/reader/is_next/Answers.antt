use Rattle.rasn_schema.specs.Shapes.{shape_of_type, key_of}
use Rattle.rasn_schema.proofs.TypeShapes.{own_is}
use Rattle.rasn_dynamic.proofs.OnePart.{next_by_own}
use Rattle.rasn_dynamic.proofs.reader.is_next.Goals as goal

pub returns-then-not-is_choice_at : goal.returns-then-not-is_choice_at
returns-then-not-is_choice_at c = let s = shape_of_type c.args.types.now.list.now c.args.types.now.levels c.args.id.0 in
    next_by_own (key_of s) s c.tag_at.result c.args.decoder.now _ c.if-not-is_choice_at.ensures (rw c.tag_at.ensures (own_is _ _ _ c.requires)) c.next_tag_is.ensures
