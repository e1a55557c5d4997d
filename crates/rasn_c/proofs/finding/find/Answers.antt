use Rattle.std.proofs.Common.{refl, sym, subst}
use Rattle.std.proofs.lemmas.Result.{err_from_is_err_and}
use Rattle.rasn_dynamic.specs.Faults.{start}
use Rattle.rasn_dynamic.specs.Parts.{IsPartAt, LacksPath}
use Rattle.rasn_c.specs.Finding.{IsNotFoundBy}
use Rattle.rasn_c.proofs.Found.{no_path, unread_on_way}
use Rattle.rasn_c.proofs.finding.find.Goals as goal

pub returns-in_err-indices : goal.returns-in_err-indices
returns-in_err-indices c =
    let p = err_from_is_err_and c.from_residual-in_err-indices.result c.from_residual-in_err-indices.ensures.1 in
    rw (p.1, p.2) (no_path c.args.schema.now c.args.rule c.args.octets.now c.args.path.now c.in_err-indices.field-0.0 c.in_ok-asked.asked.schema c.in_ok-asked.asked.root c.in_ok-asked.asked.rule c.in_ok-asked.ensures c.in_err-indices.field-0.0.status c.in_err-indices.ensures)

pub returns-in-Ok-Some : goal.returns-in-Ok-Some
returns-in-Ok-Some c = record {
  schema = c.in_ok-asked.asked.schema;
  root = c.in_ok-asked.asked.root;
  rule = c.in_ok-asked.asked.rule;
  asked = c.in_ok-asked.ensures;
  indices = c.in_ok-indices.indices.items;
  path_is = c.in_ok-indices.ensures;
  part = c.in-Ok-Some.part;
  at = subst (λ l. IsPartAt c.in_ok-asked.asked.schema.types.items c.in_ok-asked.asked.rule c.in_ok-asked.asked.root.0 c.args.octets.now l c.in-Ok-Some.part) c.as_slice.ensures.value (rw c.in-Ok-Some.field-0-is at c.in-Ok-Some.ensures.found);
  extent = rw c.in-Ok-Some.field-0-is at c.extent_of.ensures;
}

pub returns-in-Ok-None : goal.returns-in-Ok-None
returns-in-Ok-None c = subst (IsNotFoundBy c.args.schema.now c.args.rule c.args.octets.now c.args.path.now c.plain.result) (sym c.plain.ensures.0) (record {
  schema = c.in_ok-asked.asked.schema;
  root = c.in_ok-asked.asked.root;
  rule = c.in_ok-asked.asked.rule;
  asked = c.in_ok-asked.ensures;
  indices = c.in_ok-indices.indices.items;
  path_is = c.in_ok-indices.ensures;
  lacks = subst (λ l. LacksPath c.in_ok-asked.asked.schema.types.items l 18446744073709551615 c.in_ok-asked.asked.root.0 (start c.in_ok-asked.asked.rule c.args.octets.now)) c.as_slice.ensures.value (rw c.in-Ok-None.field-0-is at c.in-Ok-None.ensures.found);
})

pub returns : goal.returns
returns c = unread_on_way c.args.schema.now c.args.rule c.args.octets.now c.args.path.now c.of_refusal.result c.in_ok-asked.asked.schema c.in_ok-asked.asked.root c.in_ok-asked.asked.rule c.in_ok-indices.indices.items c.in-Err.refusal c.in_ok-asked.ensures c.in_ok-indices.ensures c.in-Err.ensures.located c.of_refusal.result.status refl c.of_refusal.ensures
