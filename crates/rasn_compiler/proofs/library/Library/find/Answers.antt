use Rattle.std.proofs.Common.{subst}
use Rattle.std.specs.Prelude.{MatchOption}
use Rattle.rasn_compiler.specs.Libraries.{IsNoneCalled, IsFirstCalled}
use Rattle.rasn_compiler.proofs.library.Library.find.Goals as goal

pub returns : goal.returns
returns c = subst (λ l. MatchOption c.first_called.result (IsNoneCalled l c.args.name.now) (λ root. IsFirstCalled l c.args.name.now root.now)) c.deref.ensures.value c.first_called.ensures
