use Rattle.std.proofs.Common.{refl, subst, []}
use Rattle.rasn_c.specs.Listing.{AreRows}
use Rattle.rasn_c.proofs.Rows.{unlisted}
use Rattle.rasn_c.proofs.listing.list.Goals as goal

pub returns-in-Err : goal.returns-in-Err
returns-in-Err c = unlisted c.args.schema.now c.args.rule c.args.octets.now c.of_refusal.result c.in_ok-asked.asked.schema c.in_ok-asked.asked.root c.in_ok-asked.asked.rule c.in-Err.refusal c.in_ok-asked.ensures c.in-Err.ensures.located c.of_refusal.result.status refl c.of_refusal.ensures

pub returns-in-Ok-listing_of : goal.returns-in-Ok-listing_of
returns-in-Ok-listing_of c =
    let types = c.in_ok-asked.asked.schema.types.items in
    record {
      schema = c.in_ok-asked.asked.schema;
      root = c.in_ok-asked.asked.root;
      rule = c.in_ok-asked.asked.rule;
      asked = c.in_ok-asked.ensures;
      parts = c.in-Ok.parts;
      are = c.in-Ok.ensures.parts;
      rows_are = subst (λ z. AreRows types c.in_ok-asked.asked.root.0 z [] 0 c.in-Ok.parts.list.items c.in-Ok-listing_of.listing.parts.items c.in-Ok-listing_of.listing.names.items) c.in-Ok.ensures.parts.input_is c.in-Ok-listing_of.ensures;
    }
