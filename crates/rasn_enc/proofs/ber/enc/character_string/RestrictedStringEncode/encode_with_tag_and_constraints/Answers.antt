use Rattle.rasn_types.specs.CharacterString.{string_kind}
use Rattle.rasn_types.proofs.CharacterString.Texts.{alphabet_measure}
use Rattle.rasn_enc.proofs.Leaves.CharacterString.{text_refused}
use Rattle.rasn_enc.proofs.ber.enc.character_string.RestrictedStringEncode.encode_with_tag_and_constraints.Goals as goal

pub returns-clause-refused : goal.returns-clause-refused
returns-clause-refused g c = text_refused _ (string_kind g.S.StringType.ALPHABET) c.args.tag c.args.constraints.now c.args.self.now _ (alphabet_measure g.S.StringType.ALPHABET) c.restricted.ensures.fails
