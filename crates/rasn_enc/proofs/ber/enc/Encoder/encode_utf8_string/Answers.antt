use Rattle.std.proofs.Common.{length, chars, refl}
use Rattle.rasn_enc.proofs.Leaves.CharacterString.{characters_encoded, counted_appended, counted_refused}
use Rattle.rasn_enc.proofs.ber.enc.Encoder.encode_utf8_string.Goals as goal

pub returns-clause-ok : goal.returns-clause-ok
returns-clause-ok c = characters_encoded _ c.args.tag c.args.constraints.now c.as_bytes.result.now c.args.value.now (length (chars c.args.value.now)) _ _ c.as_bytes.ensures.value refl c.utf8.value
    (counted_appended _ c.args.tag c.args.constraints.now c.as_bytes.result.now c.character_count-size.result (length (chars c.args.value.now)) _ _ c.character_count-size.ensures c.string.ensures.ok)

pub returns-clause-fails : goal.returns-clause-fails
returns-clause-fails c = counted_refused _ c.args.constraints.now c.character_count-size.result (length (chars c.args.value.now)) _ c.character_count-size.ensures c.string.ensures.fails
