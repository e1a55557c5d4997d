use Rattle.rasn_types.specs.Shapes.{bit_string, bits}
use Rattle.rasn_enc.proofs.Leaves.Primitive.{size_refused}
use Rattle.rasn_enc.proofs.ber.enc.bit_string.BitStringEncode.encode_with_tag_and_constraints.Goals as goal

pub returns-clause-refused : goal.returns-clause-refused
returns-clause-refused c = rw (← c.as_bitstr.ensures) (size_refused _ bit_string c.args.tag c.args.constraints.now (bits c.as_bitstr.result) _ _ (λ b. b) c.encode_bit_string.ensures.fails)
