use Rattle.std.proofs.Common.{refl}
use Rattle.rasn_enc.proofs.Leaves.CharacterString.{alphabet_encoded}
use Rattle.rasn_enc.proofs.ber.enc.Encoder.restricted.Goals as goal

pub returns-clause-ok : goal.returns-clause-ok
returns-clause-ok g c = alphabet_encoded _ g.S.StringType.ALPHABET c.args.tag c.args.constraints.now c.as_octets-octets.result.now c.args.value.now _ _ _ c.as_octets-octets.ensures.octets
    refl c.as_octets-octets.ensures.admitted c.string.ensures.ok
