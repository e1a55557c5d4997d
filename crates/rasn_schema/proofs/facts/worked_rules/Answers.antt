use Rattle.rasn_schema.proofs.WorkedRules.{worked_rules as law}
use Rattle.rasn_schema.proofs.facts.worked_rules.Goals as goal

pub returns : goal.returns
returns c = law
