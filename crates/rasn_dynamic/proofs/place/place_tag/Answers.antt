use Rattle.std.proofs.Common.{sym, subst}
use Rattle.rasn_types.specs.Bytes.{IsCer}
use Rattle.rasn_types.specs.Shapes.{IsFirst}
use Rattle.rasn_schema.specs.Shapes.{shape_of_type}
use Rattle.rasn_dynamic.proofs.LeastTags.{placed_least, placed_leading}
use Rattle.rasn_dynamic.proofs.place.place_tag.Goals as goal

pub returns-then-is_cer : goal.returns-then-is_cer
returns-then-is_cer c = placed_least c.args.rule (IsFirst (shape_of_type c.args.types.now c.args.levels c.args.id.0)) c.args.octets.now c.least_tag.result (subst IsCer c.of_codec.ensures c.if-is_cer.ensures) c.least_tag.ensures

pub returns : goal.returns
returns c = placed_leading c.args.rule (IsFirst (shape_of_type c.args.types.now c.args.levels c.args.id.0)) c.args.octets.now c.leading_tag.result (λ i. c.if-is_cer.ensures (subst IsCer (sym c.of_codec.ensures) i)) c.leading_tag.ensures
