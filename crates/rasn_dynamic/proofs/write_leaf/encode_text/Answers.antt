use Rattle.std.proofs.Common.{◌≡◌, inl, inr, chars, refl}
use Rattle.rasn_types.specs.Shapes.{utf8}
use Rattle.rasn_enc.proofs.Leaves.CharacterString.{text_refused}
use Rattle.rasn_schema.specs.declared.types.LeafKind.TheVariants.{Utf8}
use Rattle.rasn_dynamic.proofs.write_leaf.encode_text.Goals as goal

pub returns-in_default : goal.returns-in_default
returns-in_default c =
    let call = c.encode_utf8_string in
    let kind : c.args.kind ≡ Utf8 = elim c.requires [ inl e ↦ e | inr e ↦ absurd (c.in_default.not-Universal e) ] in
    record {
      does = rw kind (record {
        ok = call.ensures.ok;
        refused = text_refused _ utf8 c.args.tag c.args.constraints.now (chars c.args.text.now) _ refl call.ensures.fails;
      });
      err = call.ensures.err;
      rules = call.ensures.rules;
    }
