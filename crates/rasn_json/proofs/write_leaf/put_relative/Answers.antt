use Rattle.std.proofs.Common.{◌≡◌, ◌<◌, ◌^◌, sym, refl, ◌∙◌, subst, arith, string_bytes}
use Rattle.std.specs.List.{All}
use Rattle.json.specs.Json as json
use Rattle.rasn_types.specs.Text.{IsSmall}
use Rattle.rasn_schema.specs.declared.types.LeafKind.TheVariants.{RelativeOid}
use Rattle.rasn_schema.specs.Relative.{first_arc, relative_text}
use Rattle.rasn_json.specs.Json.{ArcsJson}
use Rattle.rasn_json.specs.Texts.{HaveSubidentifier, RelativeText}
use Rattle.rasn_json.proofs.Appended.{on_one}
use Rattle.rasn_json.proofs.Levels.{handed}
use Rattle.rasn_json.proofs.NewLeaves.{relative_told}
use Rattle.rasn_json.proofs.write_leaf.put_relative.Goals as goal

pub returns-clause-ok : goal.returns-clause-ok
returns-clause-ok g c =
    let a = c.args.arcs.now in
    let text = handed (λ s. string_bytes s ≡ relative_text a) c.format.result c.or_memory.result c.in_ok-text.text c.or_memory.ensures.ok c.in_ok-text.was c.format.ensures.ok in
    let low : first_arc a < 2 ^ 32 = let n = c.if-first-from.false in let e = c.first.ensures in let f = c.from.ensures in omega arith in
    let told = relative_told a c.arcs.ensures.some (subst HaveSubidentifier c.arcs.ensures.arcs c.if-not-have_subidentifier.ensures.whether) (subst (All IsSmall) c.arcs.ensures.arcs c.have_subidentifier.ensures.small) low in
    on_one (ArcsJson RelativeOid a) (json.string c.as_str.result.now) _ _ c.put.result c.put.ensures.ok (c.as_str.result.now, refl, subst (λ s. RelativeText s a) (sym (c.as_str.ensures.value ∙ text)) told)
