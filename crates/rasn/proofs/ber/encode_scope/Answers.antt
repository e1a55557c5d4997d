use Rattle.std.proofs.Common.{false, sym, subst}
use Rattle.rasn_enc.specs.View.{started}
use Rattle.rasn_enc.specs.Closures.{OnlyAppends}
use Rattle.rasn.proofs.ber.encode_scope.Goals as goal

pub encode_scope-requires-clause-keeps : goal.encode_scope-requires-clause-keeps
encode_scope-requires-clause-keeps g c = subst (λ k. OnlyAppends g.F.FnOnce c.args.values (started k false)) (sym c.ber.ensures) c.requires.keeps
