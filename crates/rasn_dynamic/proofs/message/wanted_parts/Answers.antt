use Rattle.std.proofs.Common.{false, inr, refl, sym, ◌∙◌}
use Rattle.rasn_types.proofs.Integer.TwosComplement.{are_octets}
use Rattle.rasn_dynamic.specs.Entry.{shape_of}
use Rattle.rasn_dynamic.specs.Faults.{start}
use Rattle.rasn_dynamic.proofs.Checked.{refused_check}
use Rattle.rasn_dynamic.proofs.Listed.{part_listed}
use Rattle.rasn_dynamic.proofs.Placed.{are_parts, are_wanted}
use Rattle.rasn_dynamic.proofs.message.wanted_parts.Goals as goal

pub returns-in-Some-clause-parts : goal.returns-in-Some-clause-parts
returns-in-Some-clause-parts c =
    let types = c.args.schema.now.types.items in
    let s = start c.args.rule c.args.input.now in
    let w = c.in-Ok.ensures.read in
    let l = part_listed types 18446744073709551615 c.args.id 0 _ _ c.in-Ok.rest.now s w.0 _ _ _ _ w.2.0 refl (sym w.1) c.note-place.ensures c.in-Ok.ensures.listed c.finish.ensures w.2.2 in (
      l.parts,
      are_parts types c.args.rule c.args.id c.args.input.now c.in-Ok.rest.now s w.0 _ _ l c.requires refl w.1 c.in-Ok.ensures.short (are_octets c.args.input.now c.type_inv.input),
      are_wanted types c.args.rule c.args.id c.args.input.now c.in-Ok.rest.now s w.0 _ _ l c.requires c.in-Some.list (sym c.list_of.ensures ∙ c.in-Some.is),
    )

pub returns-clause-refused : goal.returns-clause-refused
returns-clause-refused c = inr (c.in-Err.ensures.located, refused_check c.args.rule (shape_of c.args.schema.now.types.items c.args.id.0) c.args.input.now false c.in-Err.refusal c.in-Err.ensures.read)
