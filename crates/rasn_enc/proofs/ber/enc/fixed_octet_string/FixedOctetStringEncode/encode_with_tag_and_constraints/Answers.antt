use Rattle.std.proofs.Common.{refl}
use Rattle.rasn_types.specs.Shapes.{fixed}
use Rattle.rasn_enc.proofs.Leaves.CharacterString.{text_refused, fixed_encoded, refused_at}
use Rattle.rasn_enc.proofs.ber.enc.fixed_octet_string.FixedOctetStringEncode.encode_with_tag_and_constraints.Goals as goal

pub returns-clause-ok : goal.returns-clause-ok
returns-clause-ok g c = rw (← c.as_octets.ensures.octets) (fixed_encoded _ c.args.tag c.args.constraints.now c.as_octets.result.now g.row.N _ _ c.as_octets.ensures.size c.encode_octet_string.ensures.ok)

pub returns-clause-refused : goal.returns-clause-refused
returns-clause-refused g c = rw (← c.as_octets.ensures.octets) (text_refused _ (fixed g.row.N) c.args.tag c.args.constraints.now c.as_octets.result.now _ refl c.encode_octet_string.ensures.fails)

pub returns-clause-errors : goal.returns-clause-errors
returns-clause-errors g c = refused_at _ c.args.constraints.now _ g.row.N _ c.as_octets.ensures.size c.encode_octet_string.ensures.fails
