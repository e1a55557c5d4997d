use Rattle.std.proofs.Common.{sym, subst}
use Rattle.rasn.specs.Normal.{IsOutOfMemoryAlone}
use Rattle.rasn_c.specs.Converting.{IsNotNormalised}
use Rattle.rasn_c.proofs.Ends.{normal_unread, not_normal, never}
use Rattle.rasn_c.proofs.converting.normalise_by.Goals as goal

pub returns-in-Ok : goal.returns-in-Ok
returns-in-Ok c = record {
  schema = c.in_ok-schema.field-0.schema;
  root = c.in_ok-schema.field-0.root;
  rule = c.in_ok-schema.field-0.rule;
  asked = c.in_ok-schema.ensures;
  normal = c.in-Ok.ensures.normal;
}

pub returns-in-Err-Decode : goal.returns-in-Err-Decode
returns-in-Err-Decode c =
    let none = not_normal _ _ _ _ _ _ c.in-Err.error c.in_ok-schema.ensures (never _ (IsOutOfMemoryAlone c.in-Err.error) c.is_out_of_memory.ensures c.if-is_out_of_memory.false) c.in-Err.ensures.fails in
    normal_unread c.args.schema.now c.args.rule c.args.octets.now c.unread_stop.result _ _ _ none _ c.unread_stop.ensures

pub returns-in-Ok-format : goal.returns-in-Ok-format
returns-in-Ok-format c =
    subst (IsNotNormalised c.args.schema.now c.args.rule c.args.octets.now) (sym c.of_text.ensures.status) (not_normal _ _ _ _ _ _ c.in-Err.error c.in_ok-schema.ensures (never _ (IsOutOfMemoryAlone c.in-Err.error) c.is_out_of_memory.ensures c.if-is_out_of_memory.false) c.in-Err.ensures.fails)
