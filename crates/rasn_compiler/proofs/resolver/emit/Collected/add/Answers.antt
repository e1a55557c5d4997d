use Rattle.std.proofs.Common.{arith}
use Rattle.rasn_compiler.proofs.Libraries.{named_pushed}
use Rattle.rasn_compiler.proofs.resolver.emit.Collected.add.Goals as goal

pub returns-in_ok-push-in-Ok : goal.returns-in_ok-push-in-Ok
returns-in_ok-push-in-Ok c = λ h. named_pushed c.args.count _ _ c.in_ok-push_name-in-Ok.ensures.more _ _ _ c.in_ok-push-in-Ok.ensures.items h (let n = c.if-number-count.true in omega (arith, n)) c.in_ok-push_name-in-Ok.ensures.last
