use Rattle.std.proofs.Common.{sym, ◌∙◌}
use Rattle.json.specs.Value.{value_view}
use Rattle.rasn_json.proofs.RealTexts.{nearest_found}
use Rattle.rasn_json.proofs.reals.number_octets.Goals as goal

pub returns-in_ok-contents_of_f64-in-Some : goal.returns-in_ok-contents_of_f64-in-Some
returns-in_ok-contents_of_f64-in-Some c = nearest_found (value_view c.args.json.now) c.in-Some.number c.in_ok-contents_of_f64-in-Some.field-0.items (sym c.in-Some.is ∙ c.as_f64.ensures) (sym c.is_finite.ensures.value ∙ c.if-is_finite.true) c.in_ok-contents_of_f64-in-Some.ensures
