use Rattle.rasn_compiler.proofs.Texts.{are_of_more}
use Rattle.rasn_compiler.proofs.modules.Modules.read_module.Goals as goal

pub returns-in_ok-add-in-Ok : goal.returns-in_ok-add-in-Ok
returns-in_ok-add-in-Ok c = λ all has known. are_of_more all _ _ _ _ c.in_ok-add-in-Ok.ensures c.in-Ok.ensures has known
