use Rattle.std.proofs.Common.{refl}
use Rattle.rasn_types.specs.Shapes.{every}
use Rattle.rasn_types.specs.Trees.{unconstrained}
use Rattle.rasn_schema.specs.Shapes.{numbers_of}
use Rattle.rasn_enc.proofs.Leaves.ObjectIdentifier.{named_encoded}
use Rattle.rasn_dynamic.proofs.OnlyFitting.{form_refused, fitted}
use Rattle.rasn_dynamic.proofs.LeafWritten.{named_refused, not_number}
use Rattle.rasn_dynamic.proofs.write_leaf.encode_number.Goals as goal

pub returns-in_default : goal.returns-in_default
returns-in_default c = rw c.refuse_form.ensures.1 (form_refused _ (not_number (numbers_of c.args.numbers.now) c.args.value.now c.in_default.not-Integer) refl c.refuse_form.ensures.2)

pub returns-then-not-is_listed : goal.returns-then-not-is_listed
returns-then-not-is_listed c = rw (c.in-Integer.is, c.refuse_form-then-not-is_listed.ensures.1) (form_refused _ c.if-not-is_listed.ensures refl c.refuse_form-then-not-is_listed.ensures.2)

pub returns : goal.returns
returns c = rw (c.in-Integer.is, c.kept.ensures) (fitted _ c.if-not-is_listed.ensures (record {
  ok = named_encoded _ every (numbers_of c.args.numbers.now) c.args.tag _ _ _ _ refl c.if-not-is_listed.ensures c.encode_integer.ensures.ok unconstrained;
  refused = named_refused _ (numbers_of c.args.numbers.now) c.args.tag _ _ c.encode_integer.ensures.fails;
}) c.encode_integer.ensures.err c.encode_integer.ensures.rules)
