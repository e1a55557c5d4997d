use Rattle.std.proofs.Common.{subst, inl, inr}
use Rattle.rasn_json.specs.Entry.{IsNotEncodedFrom, IsReadAs}
use Rattle.rasn_json.specs.declared.entry.EncodeJsonError.TheVariants.{Encode, Json}
use Rattle.rasn_c.specs.Converting.{IsNotEncodedBy}
use Rattle.rasn_c.specs.declared.status.Status.TheVariants.{Refused}
use Rattle.rasn_c.proofs.Ends.{by_status, ended_at, no_memory}
use Rattle.rasn_c.proofs.converting.encode_by.Goals as goal

pub returns-in-Ok-encode : goal.returns-in-Ok-encode
returns-in-Ok-encode c = record {
  schema = c.in_ok-schema.field-0.schema;
  root = c.in_ok-schema.field-0.root;
  rule = c.in_ok-schema.field-0.rule;
  asked = c.in_ok-schema.ensures;
  value = c.in-Ok-encode.ensures.ok.0;
  read = subst (λ t. IsReadAs c.in_ok-schema.field-0.schema.types.items c.in_ok-schema.field-0.root.0 t c.in-Ok-encode.ensures.ok.0) c.in-Ok.ensures.cases.0 c.in-Ok-encode.ensures.ok.1;
  encoded = c.in-Ok-encode.ensures.ok.2;
}

pub returns-in-Err-Json : goal.returns-in-Err-Json
returns-in-Err-Json c =
    ended_at (IsNotEncodedBy c.args.schema.now c.args.rule c.args.json.now c.json_stop.result) _ _ c.json_stop.result c.json_stop.ensures.place (λ e placed. record {
      schema = c.in_ok-schema.field-0.schema;
      root = c.in_ok-schema.field-0.root;
      rule = c.in_ok-schema.field-0.rule;
      asked = c.in_ok-schema.ensures;
      why = inr (record {
        error = Json c.in-Err-Json.error;
        memory = no_memory _ _ c.json_stop.ensures.memory e;
        refused = subst (λ t. IsNotEncodedFrom c.in_ok-schema.field-0.rule c.in_ok-schema.field-0.schema.types.items c.in_ok-schema.field-0.root.0 t (Json c.in-Err-Json.error)) c.in-Ok.ensures.cases.0 (rw c.in-Err-Json.field-0-is at c.in-Err-Json.ensures.err);
        place = placed;
      });
    }) tt

pub returns-in_default : goal.returns-in_default
returns-in_default c =
    by_status (IsNotEncodedBy c.args.schema.now c.args.rule c.args.json.now c.stop_of.result) c.stop_of.result Refused c.stop_of.ensures (record {
      schema = c.in_ok-schema.field-0.schema;
      root = c.in_ok-schema.field-0.root;
      rule = c.in_ok-schema.field-0.rule;
      asked = c.in_ok-schema.ensures;
      why = inl c.in_default.ensures.cases.0;
    }) tt

pub returns : goal.returns
returns c =
    ended_at (IsNotEncodedBy c.args.schema.now c.args.rule c.args.json.now c.write_stop.result) _ _ c.write_stop.result c.write_stop.ensures.place (λ e placed. record {
      schema = c.in_ok-schema.field-0.schema;
      root = c.in_ok-schema.field-0.root;
      rule = c.in_ok-schema.field-0.rule;
      asked = c.in_ok-schema.ensures;
      why = inr (record {
        error = Encode c.in-Err-Encode.error;
        memory = no_memory _ _ c.write_stop.ensures.memory e;
        refused = subst (λ t. IsNotEncodedFrom c.in_ok-schema.field-0.rule c.in_ok-schema.field-0.schema.types.items c.in_ok-schema.field-0.root.0 t (Encode c.in-Err-Encode.error)) c.in-Ok.ensures.cases.0 (rw c.in-Err-Encode.field-0-is at c.in-Err-Encode.ensures.err);
        place = placed;
      });
    }) tt
