use Rattle.std.proofs.Common.{refl, chars}
use Rattle.rasn_types.specs.Shapes.{utf8}
use Rattle.rasn_enc.proofs.Leaves.CharacterString.{text_refused}
use Rattle.rasn_enc.proofs.ber.enc.character_string.StringEncode.encode_with_tag_and_constraints.Goals as goal

pub returns-clause-refused : goal.returns-clause-refused
returns-clause-refused c = rw (← c.as_str.ensures.value) (text_refused _ utf8 c.args.tag c.args.constraints.now (chars c.as_str.result.now) _ refl c.encode_utf8_string.ensures.fails)
