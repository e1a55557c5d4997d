use Rattle.std.proofs.Common.{refl}
use Rattle.rasn_compiler.proofs.TypeNames.{named_last, named_more}
use Rattle.rasn_compiler.proofs.resolver.emit.push_name.Goals as goal

pub returns-clause-last : goal.returns-clause-last
returns-clause-last c = named_last _ _ _ _ _ c.in_ok-push.ensures.items c.in_ok-name.ensures.ok refl

pub returns-clause-more : goal.returns-clause-more
returns-clause-more c = λ other id h. named_more _ _ _ other id c.in_ok-push.ensures.items h
