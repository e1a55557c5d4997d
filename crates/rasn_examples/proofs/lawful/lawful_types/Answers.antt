use Rattle.std.proofs.Common.{refl}
use Rattle.rasn_examples.proofs.LawfulTypes.{all_lawful}
use Rattle.rasn_examples.proofs.lawful.lawful_types.Goals as goal

pub returns-clause-types : goal.returns-clause-types
returns-clause-types c = all_lawful _ refl
