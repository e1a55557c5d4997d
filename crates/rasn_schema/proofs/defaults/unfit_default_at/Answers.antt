use Rattle.rasn_schema.proofs.RulesAt.{fit_at}
use Rattle.rasn_schema.proofs.defaults.unfit_default_at.Goals as goal

pub returns-in-None : goal.returns-in-None
returns-in-None c = fit_at c.args.types.now c.args.id.0 c.in-Some.ty.now c.in-Some.ensures c.in-None.ensures
