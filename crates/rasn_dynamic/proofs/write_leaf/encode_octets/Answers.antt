use Rattle.std.proofs.Common.{arith}
use Rattle.rasn_enc.proofs.Buffer.Octets.{octets_all}
use Rattle.rasn_enc.proofs.Leaves.Primitive.{exactly}
use Rattle.rasn_dynamic.proofs.LeafWritten.{are_contents, no_contents, contents_encoded, memory_refused, string_encoded, string_refused}
use Rattle.rasn_dynamic.proofs.write_leaf.encode_octets.Goals as goal

pub returns-in-Real-clause-does : goal.returns-in-Real-clause-does
returns-in-Real-clause-does c =
    let call = c.encode_contents in
    let octets = octets_all c.args.octets.now (λ i. omega (arith, c.type_inv.octets i)) in
    record {
      ok = contents_encoded _ c.args.tag c.args.constraints.now c.args.octets.now c.args.encoder.now _ octets c.args.kind c.requires (are_contents c.args.kind c.in-Real.is) (exactly _ c.args.octets.now c.args.tag _ _ call.ensures.ok);
      refused = memory_refused _ _ _ _ call.ensures.memory_alone;
    }

pub returns-in_default : goal.returns-in_default
returns-in_default c =
    let call = c.encode_octet_string in
    let d = c.in_default in
    let none = no_contents c.args.kind d.not-Real d.not-Time d.not-Duration d.not-TimeOfDay d.not-DateTime in
    record {
      does = record {
        ok = string_encoded _ c.args.tag c.args.constraints.now _ _ _ c.args.kind c.requires none call.ensures.ok;
        refused = string_refused _ c.args.tag c.args.constraints.now _ _ c.args.kind c.requires none call.ensures.fails;
      };
      err = call.ensures.err;
      rules = call.ensures.rules;
    }
