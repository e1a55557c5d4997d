use Rattle.std.proofs.Common.{◌≡◌, ◌≢◌, refl, ◌∙◌, subst, string_bytes, rules}
use Rattle.std.specs.List.{All}
use Rattle.json.specs.Json as json
use Rattle.rasn_types.specs.Text.{dotted, IsSmall}
use Rattle.rasn_schema.specs.declared.types.LeafKind.TheVariants.{RelativeOid}
use Rattle.rasn_json.specs.Json.{ArcsJson}
use Rattle.rasn_json.specs.Texts.{HaveSubidentifier}
use Rattle.rasn_json.proofs.Appended.{on_one}
use Rattle.rasn_json.proofs.Levels.{handed}
use Rattle.rasn_json.proofs.NewLeaves.{other_arcs}
use Rattle.rasn_json.proofs.write_leaf.put_arcs.Goals as goal

pub returns-clause-ok : goal.returns-clause-ok
returns-clause-ok g c =
    let other : c.args.kind ≢ RelativeOid = search rules in
    let text = handed (λ s. string_bytes s ≡ dotted c.args.arcs.now) c.format.result c.or_memory.result c.in_ok-text.text c.or_memory.ensures.ok c.in_ok-text.was c.format.ensures.ok in
    on_one (ArcsJson c.args.kind c.args.arcs.now) (json.string c.as_str.result.now) _ _ c.put.result c.put.ensures.ok
    (c.as_str.result.now, refl, other_arcs c.args.kind c.as_str.result.now c.args.arcs.now other ((c.arcs.ensures.some, subst (All IsSmall) c.arcs.ensures.arcs c.have_subidentifier.ensures.small, c.as_str.ensures.value ∙ text), subst HaveSubidentifier c.arcs.ensures.arcs c.if-not-have_subidentifier.ensures.whether))
