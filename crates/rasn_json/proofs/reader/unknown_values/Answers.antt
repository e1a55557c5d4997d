use Rattle.std.proofs.Common.{◌≡◌, ap, ◌∙◌, subst}
use Rattle.json.specs.Value.{value_view, items_view}
use Rattle.json.proofs.Trees.{view-Array}
use Rattle.rasn_schema.specs.Fitting.{AreOctets, EachFits}
use Rattle.rasn_dynamic.proofs.FitsRead.{are_items}
use Rattle.rasn_json.specs.Reading.{ArrayRead, ItemsRead, OpenRead}
use Rattle.rasn_json.proofs.reader.unknown_values.Goals as goal

pub returns-clause-fits : goal.returns-clause-fits
returns-clause-fits c = are_items (EachFits AreOctets) c.in_ok-values.values c.in_ok-values.ensures.fits

pub returns-clause-reads : goal.returns-clause-reads
returns-clause-reads c = are_items (ArrayRead OpenRead (value_view c.args.json.now)) c.in_ok-values.values (_, ap value_view c.in-Array.is ∙ view-Array c.in-Array.items, subst (λ l. ItemsRead OpenRead (items_view l) c.in_ok-values.values.items) c.as_slice.ensures.value c.in_ok-values.ensures.reads)
