use Rattle.std.proofs.Common.{◌≡◌, ap, sym, subst}
use Rattle.rasn_types.specs.Shapes.{bits, bit_string}
use Rattle.rasn_types.specs.BitString.{significant}
use Rattle.rasn_schema.specs.declared.types.LeafKind.TheVariants.{BitString}
use Rattle.rasn_schema.specs.Fitting.{BitsFit}
use Rattle.rasn_enc.proofs.Leaves.Primitive.{size_refused}
use Rattle.rasn_dynamic.proofs.LeafWritten.{plain_bits}
use Rattle.rasn_dynamic.proofs.write_leaf.encode_bits.Goals as goal

pub returns-in-NamedBits : goal.returns-in-NamedBits
returns-in-NamedBits c =
    let call = c.encode_named_bits in
    let fits : significant c.args.value.now ≡ c.args.value.now = subst (λ k. BitsFit k c.args.value.now) c.in-NamedBits.is c.requires in
    record {
      does = rw c.in-NamedBits.is (record {
        ok = rw (ap bits (sym fits)) call.ensures.ok;
        refused = rw (ap bits (sym fits)) call.ensures.refused;
      });
      err = call.ensures.err;
      rules = call.ensures.rules;
    }

pub returns-in_default : goal.returns-in_default
returns-in_default c =
    let call = c.encode_bit_string in
    let kind : c.args.kind ≡ BitString = plain_bits c.args.kind c.args.value.now c.requires c.in_default.not-NamedBits in
    record {
      does = rw kind (record {
        ok = call.ensures.ok;
        refused = size_refused _ bit_string c.args.tag c.args.constraints.now (bits c.args.value.now) _ _ (λ b. b) call.ensures.fails;
      });
      err = call.ensures.err;
      rules = call.ensures.rules;
    }
