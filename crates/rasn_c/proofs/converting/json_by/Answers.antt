use Rattle.std.proofs.Common.{ℕ, ap, inl, inr, ◌++◌, ◌∷◌, []}
use Rattle.std.specs.Prelude.{Vec, string_bytes}
use Rattle.std.specs.Global.{Global}
use Rattle.rasn_c.specs.Converting.{IsNoJsonBy}
use Rattle.rasn_c.proofs.Ends.{ended_at, json_unread, no_memory, text_of_json}
use Rattle.rasn_c.proofs.converting.json_by.Goals as goal

pub returns-in-Ok : goal.returns-in-Ok
returns-in-Ok c = text_of_json c.args.schema.now c.args.rule c.args.lines c.args.octets.now c.into_bytes.result.items (record {
  schema = c.in_ok-schema.field-0.schema;
  root = c.in_ok-schema.field-0.root;
  rule = c.in_ok-schema.field-0.rule;
  asked = c.in_ok-schema.ensures;
  value = c.in-Ok.ensures.ok.0;
  read = c.in-Ok.ensures.ok.1;
  json = string_bytes c.in-Ok.text;
  has = c.in-Ok.ensures.ok.2;
  laid_out = rw c.layout_of.ensures at c.in-Ok.ensures.layout;
  text = ap (λ (v : Vec ℕ Global). v.items ++ 0 ∷ []) c.into_bytes.ensures.value;
}) c.with_zero.result c.with_zero.ensures

pub returns-in-Err-Decode : goal.returns-in-Err-Decode
returns-in-Err-Decode c = json_unread _ _ _ c.unread_stop.result _ _ _ c.in_ok-schema.ensures _ c.unread_stop.ensures

pub returns : goal.returns
returns c =
    let had = rw c.in-Err-Json.field-0-is at c.in-Err-Json.ensures.err in
    ended_at (IsNoJsonBy c.args.schema.now c.args.rule c.args.octets.now c.json_stop.result) _ _ c.json_stop.result c.json_stop.ensures.place (λ e placed. record {
      schema = c.in_ok-schema.field-0.schema;
      root = c.in_ok-schema.field-0.root;
      rule = c.in_ok-schema.field-0.rule;
      asked = c.in_ok-schema.ensures;
      why = inr (record {
        value = had.0;
        read = had.1;
        error = c.in-Err-Json.error;
        refused = elim had.2 [
          | inl memory ↦ absurd (no_memory _ _ c.json_stop.ensures.memory e memory)
          | inr refused ↦ refused
        ];
        place = placed;
      });
    }) tt
