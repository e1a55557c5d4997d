use Rattle.std.proofs.Common.{refl, true}
use Rattle.std.proofs.lemmas.Result.{IfOk-weaker}
use Rattle.rasn_dynamic.specs.Faults.{start}
use Rattle.rasn_dynamic.specs.Entry.{shape_of}
use Rattle.rasn_dynamic.proofs.Checked.{answered_first, ends_first}
use Rattle.rasn_dynamic.proofs.Times.{from_fits}
use Rattle.rasn_dynamic.proofs.locate.decode_or_locate.Goals as goal

pub returns : goal.returns
returns c = record {
  exact = answered_first c.args.rule (shape_of c.args.schema.now.types.items c.args.id.0) c.args.input.now c.read_first.result c.read_first.ensures.read;
  fits = IfOk-weaker c.read_first.result _ _ (λ read h. from_fits (start c.args.rule c.args.input.now) c.args.schema.now.types.items 18446744073709551615 c.args.id.0 read.0 h) (c.read_first.ensures.times refl);
  times = c.read_first.ensures.times refl;
  end = ends_first true c.args.rule (shape_of c.args.schema.now.types.items c.args.id.0) c.args.input.now c.read_first.result c.read_first.ensures.read;
  rules = c.read_first.ensures.rules;
  located = c.read_first.ensures.located;
}
