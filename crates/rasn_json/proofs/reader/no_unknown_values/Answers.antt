use Rattle.std.proofs.Common.{◌≡◌, ◌-◌, [], sym, subst, arith}
use Rattle.rasn_schema.specs.declared.types.«Type».TheVariants.{Unknown}
use Rattle.rasn_schema.specs.Fitting.{AreOctets, EachFits}
use Rattle.rasn_dynamic.proofs.FitsRead.{are_items}
use Rattle.rasn_json.proofs.ReadParts.{fits_below, unknown_found}
use Rattle.rasn_json.proofs.reader.no_unknown_values.Goals as goal

pub returns-then-is_unknown_at-clause-fits : goal.returns-then-is_unknown_at-clause-fits
returns-then-is_unknown_at-clause-fits c = λ levels some.
    fits_below c.args.types.now levels (levels - 1) c.args.component.now.type_id.0 Unknown _ (omega (arith, some))
    (unknown_found _ c.is_unknown_at.result c.if-is_unknown_at.true c.is_unknown_at.ensures.found)
    (are_items (EachFits AreOctets) c.new.result (subst (EachFits AreOctets) (sym c.new.ensures.items) tt))
