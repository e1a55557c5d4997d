use Rattle.std.proofs.Common.{refl}
use Rattle.rasn_types.specs.CharacterString.{units_of}
use Rattle.rasn_types.specs.Shapes.{bmp}
use Rattle.rasn_enc.proofs.Leaves.CharacterString.{text_refused}
use Rattle.rasn_enc.proofs.ber.enc.character_string.BmpStringEncode.encode_with_tag_and_constraints.Goals as goal

pub returns-clause-refused : goal.returns-clause-refused
returns-clause-refused c = text_refused _ bmp c.args.tag c.args.constraints.now (units_of c.args.self.now) _ refl c.encode_bmp_string.ensures.fails
