use Rattle.rasn_types.specs.Shapes.{octet_string, numbers}
use Rattle.rasn_enc.proofs.Leaves.Primitive.{size_refused}
use Rattle.rasn_enc.proofs.ber.enc.octet_string.OctetStringEncode.encode_with_tag_and_constraints.Goals as goal

pub returns-clause-refused : goal.returns-clause-refused
returns-clause-refused c = rw (← c.as_octets.ensures) (size_refused _ octet_string c.args.tag c.args.constraints.now (numbers c.as_octets.result.now) _ _ (λ b. b) c.encode_octet_string.ensures.fails)
