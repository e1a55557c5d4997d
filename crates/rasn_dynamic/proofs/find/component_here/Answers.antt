use Rattle.std.proofs.Common.{◌≡◌, false, Ok, subst}
use Rattle.rasn_types.specs.Shapes.{sought_by}
use Rattle.rasn_de.specs.Optional.{NextIs}
use Rattle.rasn_schema.specs.Shapes.{shape_of_type, key_of}
use Rattle.rasn_dynamic.proofs.find.component_here.Goals as goal

pub returns-in-Ok-false : goal.returns-in-Ok-false
returns-in-Ok-false c =
    let w = c.in-Ok-false.field-0-test in
    let h : c.in-Ok-false.field-0 ≡ false = cc in
    let s = shape_of_type c.args.types.now c.args.below c.args.component.now.type_id.0 in
    (c.if-is_always_there.ensures, subst (λ b. NextIs (sought_by (key_of s) s) c.args.decoder.now (Ok b)) h c.in-Ok-false.ensures)
