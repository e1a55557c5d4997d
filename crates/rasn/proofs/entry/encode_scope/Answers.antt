use Rattle.std.proofs.Common.{Err, refl, subst, inr}
use Rattle.std.proofs.lemmas.Result.{err_from_is_err_and}
use Rattle.std.specs.Fn.{FnOnceReturnsAtMut}
use Rattle.rasn_enc.proofs.Buffer.Output.{scope_ok, scope_refused}
use Rattle.rasn.proofs.entry.encode_scope.Goals as goal

pub returns-in_err-run-clause-fails : goal.returns-in_err-run-clause-fails
returns-in_err-run-clause-fails g c =
    let p = err_from_is_err_and c.from_residual.result c.from_residual.ensures.1 in
    rw (p.1, p.2) (inr (c.run.new.encoder, subst (λ x. FnOnceReturnsAtMut g.F.FnOnce c.args.values x (Err c.in_err-run.field-0.0) c.run.new.encoder) c.over-encoder.ensures c.in_err-run.ensures))

pub returns-clause-ok : goal.returns-clause-ok
returns-clause-ok g c = scope_ok g.F.FnOnce c.args.values _ c.requires.keeps _ _ c.over-encoder.ensures _ c.in_ok-run.ensures _ refl c.output.ensures.ok

pub returns-clause-fails : goal.returns-clause-fails
returns-clause-fails g c = scope_refused g.F.FnOnce c.args.values _ c.requires.keeps _ _ c.over-encoder.ensures _ c.in_ok-run.ensures _ c.output.ensures.fails
