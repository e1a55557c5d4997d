use Rattle.std.proofs.Common.{◌≡◌, ◌∙◌, ◌≤◌, ◌/◌, ℕ, length, chars, inl, Err, sym, subst}
use Rattle.rasn_types.specs.Shapes.{numbers, universal, Admits}
use Rattle.rasn_enc.proofs.Leaves.Primitive.{size_refused}
use Rattle.rasn_de.proofs.Leaves.Returns.{residual}
use Rattle.rasn_dynamic.proofs.Universals.{quads_counted, universal_encoded, universal_unwritten}
use Rattle.rasn_dynamic.proofs.write_leaf.encode_universal.Goals as goal

pub returns-in_err-check_size-clause-does : goal.returns-in_err-check_size-clause-does
returns-in_err-check_size-clause-does c =
    let ns = chars c.args.text.now in
    let size : c.len.result / 4 ≡ length ns = quads_counted c.in-Ok.octets.items ns c.len.result c.in-Ok.ensures (c.len.ensures ∙ c.in-Ok.octets.ok.0) in
    rw (residual _ c.from_residual.ensures.1) (record {
      ok = tt;
      refused = size_refused {R = Unit {0}} (Err c.in_err-check_size.field-0.0) universal c.args.tag c.args.constraints.now (numbers ns) (c.len.result / 4) c.args.encoder.now (λ b. subst (λ n. Admits ◌≤◌ c.args.constraints.now.size n) (sym size) b)
          (inl c.in_err-check_size.ensures.fails);
    })

pub returns-clause-does : goal.returns-clause-does
returns-clause-does c =
    let ns = chars c.args.text.now in
    let octets = c.in-Ok.octets.items in
    let size : c.len.result / 4 ≡ length ns = quads_counted octets ns c.len.result c.in-Ok.ensures (c.len.ensures ∙ c.in-Ok.octets.ok.0) in
    let call = rw c.deref.ensures.value at c.encode_octet_string.ensures in
    record {
      ok = universal_encoded _ c.args.tag c.args.constraints.now octets ns _ _ c.in-Ok.ensures (subst (λ n. Admits ◌≤◌ c.args.constraints.now.size n) size c.in_ok-check_size.ensures.ok) call.ok;
      refused = universal_unwritten _ c.args.tag c.args.constraints.now _ ns _ call.fails;
    }
