use Rattle.rasn_compiler.proofs.modules.Modules.resolved.Goals as goal

pub returns-clause-named : goal.returns-clause-named
returns-clause-named c = (c.in-Some-first_root.ensures c.in_ok-library.ensures.roots).1
