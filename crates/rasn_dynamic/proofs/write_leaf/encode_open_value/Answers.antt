use Rattle.std.proofs.Common.{refl}
use Rattle.rasn_enc.proofs.Constructed.Any.{any_refused}
use Rattle.rasn_dynamic.proofs.OnlyFitting.{form_refused, fitted}
use Rattle.rasn_dynamic.proofs.LeafWritten.{not_octets, any_rules}
use Rattle.rasn_dynamic.proofs.write_leaf.encode_open_value.Goals as goal

pub returns-in_default : goal.returns-in_default
returns-in_default c = rw c.refuse_form.ensures.1 (form_refused _ (not_octets c.args.value.now c.in_default.not-Octets) refl c.refuse_form.ensures.2)

pub returns : goal.returns
returns c = rw (c.in-Octets.is, c.kept.ensures, ← c.as_slice.ensures.value) (fitted _ tt (record {
  ok = c.encode_open.ensures.ok;
  refused = any_refused _ c.args.tag _ _ c.encode_open.ensures.fails;
}) c.encode_open.ensures.err (any_rules _ c.args.tag _ c.args.encoder.now c.encode_open.ensures.fails))
