use Rattle.std.proofs.Common.{Err, ap, ◌∙◌, ◌≡◌, take, arith}
use Rattle.rasn_types.specs.BitString.{significant}
use Rattle.rasn_types.proofs.BitString.Significant.{significant_le, significant_front}
use Rattle.rasn_enc.proofs.Leaves.NamedBits.{named_bits_encoded, named_bits_fail, named_bits_misfit, named_bits_refused}
use Rattle.rasn_enc.proofs.ber.enc.Encoder.encode_named_bits.Goals as goal

pub split_at-bits-requires : goal.split_at-bits-requires
split_at-bits-requires c = omega (arith, c.significant_len.ensures, significant_le c.args.value.now)

pub returns-clause-ok : goal.returns-clause-ok
returns-clause-ok c =
    let x : c.split_at-bits.result.0 ≡ significant c.args.value.now = c.split_at-bits.ensures.front ∙ (ap (λ n. take n c.args.value.now) c.significant_len.ensures ∙ significant_front c.args.value.now) in
    named_bits_encoded c.args.tag c.args.constraints.now c.args.value.now c.split_at-bits.result.0 _ x c.encode_bit_string.result _ (rw c.len.ensures at c.if-not-admits_padded_size.ensures) c.encode_bit_string.ensures.ok

pub returns-clause-fails : goal.returns-clause-fails
returns-clause-fails c =
    let x : c.split_at-bits.result.0 ≡ significant c.args.value.now = c.split_at-bits.ensures.front ∙ (ap (λ n. take n c.args.value.now) c.significant_len.ensures ∙ significant_front c.args.value.now) in
    named_bits_fail c.args.tag c.args.constraints.now c.args.value.now c.split_at-bits.result.0 c.args.self.now x c.encode_bit_string.result _ (rw c.len.ensures at c.if-not-admits_padded_size.ensures) c.encode_bit_string.ensures.fails

pub returns-clause-refused : goal.returns-clause-refused
returns-clause-refused c =
    let x : c.split_at-bits.result.0 ≡ significant c.args.value.now = c.split_at-bits.ensures.front ∙ (ap (λ n. take n c.args.value.now) c.significant_len.ensures ∙ significant_front c.args.value.now) in
    named_bits_refused c.encode_bit_string.result c.args.tag c.args.constraints.now c.args.value.now c.args.self.now
    (named_bits_fail c.args.tag c.args.constraints.now c.args.value.now c.split_at-bits.result.0 c.args.self.now x c.encode_bit_string.result _ (rw c.len.ensures at c.if-not-admits_padded_size.ensures) c.encode_bit_string.ensures.fails)

pub returns-then-not-admits_padded_size-clause-fails : goal.returns-then-not-admits_padded_size-clause-fails
returns-then-not-admits_padded_size-clause-fails c =
    let x : c.split_at-bits.result.0 ≡ significant c.args.value.now = c.split_at-bits.ensures.front ∙ (ap (λ n. take n c.args.value.now) c.significant_len.ensures ∙ significant_front c.args.value.now) in
    rw (c.len-then-not-admits_padded_size.ensures, c.size_bounds.ensures, c.codec.ensures) (named_bits_misfit c.args.tag c.args.constraints.now c.args.value.now c.split_at-bits.result.0 c.args.self.now x c.args.self.now.rule (rw c.len.ensures at c.if-not-admits_padded_size.ensures))

pub returns-then-not-admits_padded_size-clause-refused : goal.returns-then-not-admits_padded_size-clause-refused
returns-then-not-admits_padded_size-clause-refused c =
    let x : c.split_at-bits.result.0 ≡ significant c.args.value.now = c.split_at-bits.ensures.front ∙ (ap (λ n. take n c.args.value.now) c.significant_len.ensures ∙ significant_front c.args.value.now) in
    rw (c.len-then-not-admits_padded_size.ensures, c.size_bounds.ensures, c.codec.ensures)
    (named_bits_refused {R = Unit {0}} (Err _) c.args.tag c.args.constraints.now c.args.value.now c.args.self.now (named_bits_misfit c.args.tag c.args.constraints.now c.args.value.now c.split_at-bits.result.0 c.args.self.now x c.args.self.now.rule (rw c.len.ensures at c.if-not-admits_padded_size.ensures)))
