use Rattle.std.proofs.Common.{length, sym, ap}
use Rattle.rasn_compiler.proofs.Libraries.{are_roots}
use Rattle.rasn_compiler.proofs.resolver.emit.library_of.Goals as goal

pub returns : goal.returns
returns c = λ h. are_roots c.with_names.result c.args.collected.names (length c.args.schema.types.items) c.args.collected.roots.items c.with_names.ensures.names (ap (λ v. length v.items) (sym c.with_names.ensures.types)) h
