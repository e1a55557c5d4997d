use Rattle.std.proofs.Common.{subst}
use Rattle.rasn_schema.proofs.Lists.{read_at}
use Rattle.rasn_print.specs.declared.known.Known.{Known}
use Rattle.rasn_print.specs.Catalogs.{IsIndexOf}
use Rattle.rasn_print.proofs.catalog.Catalog.index_of.Goals as goal

pub returns-then-is : goal.returns-then-is
returns-then-is c =
    subst (λ l. IsIndexOf c.args.candidates l c.loop-index.index) c.deref-known-items.ensures.value
    (record { within = c.loop-index-test.true; known = c.known-item.result; is = read_at c.deref-known-items.result.now c.loop-index.index c.known-item.result c.loop-index-test.true c.known-item.is; candidates_are = c.is.ensures c.if-is.true })
