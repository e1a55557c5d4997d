use Rattle.rasn_compiler.proofs.Texts.{module_at}
use Rattle.rasn_compiler.proofs.modules.Modules.named.Goals as goal

pub returns-then-has_name : goal.returns-then-has_name
returns-then-has_name c = module_at _ _ _ _ _ c.deref.ensures.value c.in_ok-module.ensures.lookup.3.0 c.in_ok-module.ensures.lookup.1 c.if-has_name.ensures
