use Rattle.std.proofs.Common.{◌≡◌, get_or, sym, ap, ◌∙◌, rules}
use Rattle.std.specs.Prelude.{Some, codes}
use Rattle.json.specs.Find.{as_number}
use Rattle.json.specs.Json.{object}
use Rattle.json.specs.Value.{value_view, members_view}
use Rattle.json.proofs.Trees.{view-Object}
use Rattle.rasn_json.proofs.Levels.{if_ok}
use Rattle.rasn_json.proofs.RealTexts.{base_ten_found, base_ten_told, some_found}
use Rattle.rasn_json.proofs.reals.decimal_octets.Goals as goal

pub returns-in-Some : goal.returns-in-Some
returns-in-Some c =
    let l = c.as_slice.result.now in
    let m = get_or l 0 c.index-name-0.result in
    let q = get_or l 0 c.index-member-0.result in
    let name : m.0.now ≡ codes "base10Value" = search rules in
    let value : as_number (value_view q.1) ≡ Some c.in-Some.text.now = search rules in
    let j = base_ten_told (value_view c.args.json.now) l m q c.in-Some.text.now (ap value_view c.in-Object.is ∙ (view-Object c.in-Object.members ∙ ap (λ x. object (members_view x)) (sym c.as_slice.ensures.value)))
    c.in-len1.len_at_least c.in-len1.len_below (ap (λ x. get_or l 0 x) c.index-name-0.is) (ap (λ x. get_or l 0 x) c.index-member-0.is) name value in
    if_ok _ _ c.contents_of_decimal.result (λ found h. some_found _ _ _ found (λ v k. base_ten_found (value_view c.args.json.now) c.in-Some.text.now v.items j k) h) c.contents_of_decimal.ensures
