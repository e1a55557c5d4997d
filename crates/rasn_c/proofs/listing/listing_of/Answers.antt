use Rattle.std.proofs.Common.{arith, refl, [], ◌∙◌, subst}
use Rattle.std.specs.Prelude.{Vec}
use Rattle.std.specs.Global.{Global}
use Rattle.rasn_dynamic.specs.declared.span.Span.{Span}
use Rattle.rasn_c.specs.Listing.{AreRows, IsNameOn}
use Rattle.rasn_c.proofs.PartNames.{name_or_empty}
use Rattle.rasn_c.proofs.Rows.{go_on, all_rows}
use Rattle.rasn_c.proofs.listing.listing_of.Goals as goal

pub walk-preserved : goal.walk-preserved
walk-preserved c =
    let next = rw c.in-Ok-Some.field-0-is at c.in-Ok-Some.ensures.next in
    let kept = c.in-Ok-Some.ensures.same in
    let row = c.in_ok-push_part.ensures.row in
    let types = c.args.schema.now.types.items in
    let named = name_or_empty types c.args.root.0 c.as_slice.result.now c.name_at.result _ c.unwrap_or-name.result refl c.unwrap_or-name.ensures c.name_at.ensures in
    record {
      same_list = kept.0 ∙ c.walk.invariant.same_list;
      same_input = kept.1 ∙ c.walk.invariant.same_input;
      rows = go_on types c.args.root.0 c.walk.parts c.next.new.self c.in-Ok-Some.part c.index-span.result.now c.walk.listing.parts.items c.push_part.new.listing.parts.items row.0 c.walk.listing.names.items c.push_part.new.listing.names.items
          c.unwrap_or-name.result.now next kept.0 kept.1 c.index-span.ensures row.2 row.3 row.4 row.1 (subst (λ z. IsNameOn types c.args.root.0 z c.unwrap_or-name.result.now) c.as_slice.ensures.value named) row.5 c.in_ok-push_part.ensures.names c.walk.invariant.rows;
    }

pub returns : goal.returns
returns c =
    let types = c.args.schema.now.types.items in
    let root = c.args.root.0 in
    let rows = c.walk.listing.parts.items in
    let names = c.walk.listing.names.items in
    let all = all_rows types root c.walk.parts.input.now c.walk.parts.list.items c.walk.parts.path.items rows names c.walk.parts.next (omega (arith, c.walk-test.false, c.len.ensures, c.walk.parts.list.ok.0)) c.walk.invariant.rows in
    subst (λ z. AreRows types root z [] 0 c.args.parts.now.list.items rows names) c.walk.invariant.same_input (subst (λ (v : Vec Span Global). AreRows types root c.walk.parts.input.now [] 0 v.items rows names) c.walk.invariant.same_list all)
