use Rattle.std.proofs.lemmas.Result.{IfOk-weaker}
use Rattle.rasn_schema.proofs.Copies.{copy_means, copy_fits}
use Rattle.rasn_schema.proofs.value.Value.try_clone.Goals as goal

pub returns : goal.returns
returns c = record {
  copy = c.copy_of.ensures;
  means = IfOk-weaker c.copy_of.result _ _ (λ v h. copy_means c.args.self.now v h) c.copy_of.ensures;
  fits = IfOk-weaker c.copy_of.result _ _ (λ v h types levels id f. copy_fits types levels id c.args.self.now v h f) c.copy_of.ensures;
}
