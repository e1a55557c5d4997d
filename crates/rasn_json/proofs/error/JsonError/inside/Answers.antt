use Rattle.std.proofs.Common.{inr, refl}
use Rattle.rasn_json.proofs.error.JsonError.inside.Goals as goal

pub returns-in-Ok : goal.returns-in-Ok
returns-in-Ok c = inr (c.args.self, c.args.step, refl, refl, refl, c.in-Ok.ensures.items)
