use Rattle.std.proofs.Common.{ap, ◌∙◌, false}
use Rattle.rasn_types.specs.declared.types.codec.Codec.{Codec}
use Rattle.std.proofs.lemmas.Result.{IfOk-weaker, IfErr-weaker}
use Rattle.rasn_enc.specs.View.{View, started}
use Rattle.rasn_enc.proofs.Buffer.Output.{output_ok, output_refused}
use Rattle.rasn_schema.specs.Trees.{tree_of}
use Rattle.rasn_dynamic.specs.Entry.{shape_of}
use Rattle.rasn_dynamic.proofs.Canonical.{identified, start_refused, output_rules}
use Rattle.rasn_dynamic.proofs.entry.write.Goals as goal

pub returns-in-Ok : goal.returns-in-Ok
returns-in-Ok c =
    let e = c.over-encoder.ensures ∙ ap (λ (r : Codec). started r false) c.of.ensures in
    let wrote = c.in-Ok.ensures in
    let done = (wrote.does wrote.fits).ok in
    let s = shape_of c.types.result.now c.args.id.0 in
    let t = tree_of c.args.value.now in
    let is = output_ok c.args.rule s t _ _ e done c.output.result c.output.ensures.ok in
    rw (← c.types.ensures.types) (record {
      ok = IfOk-weaker c.output.result _ _ (λ v b. (wrote.fits, b)) is;
      canonical = λ der. identified (λ v. v.items) s t c.args.rule c.output.result der is;
      fails = IfErr-weaker c.output.result _ _ (λ e h f. h) (output_refused c.args.rule s t _ _ e done c.output.result c.output.ensures.fails);
      rules = output_rules c.output.result c.encode_at.new.encoder c.args.rule (ap (λ (x : View). x.rule) done.appended ∙ ap (λ (x : View). x.rule) e) c.output.ensures.fails;
    })

pub returns-in-Err : goal.returns-in-Err
returns-in-Err c =
    let e = c.over-encoder.ensures ∙ ap (λ (r : Codec). started r false) c.of.ensures in
    let refused = c.in-Err.ensures in
    rw (← c.types.ensures.types) (record {
      ok = tt;
      canonical = λ der. tt;
      fails = λ f. start_refused c.args.rule (shape_of c.types.result.now c.args.id.0) (tree_of c.args.value.now) _ _ e (refused.does f).refused;
      rules = refused.rules ∙ ap (λ (x : View). x.rule) e;
    })
