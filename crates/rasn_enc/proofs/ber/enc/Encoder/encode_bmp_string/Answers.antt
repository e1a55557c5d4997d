use Rattle.std.proofs.Common.{◌/◌, length, ap, sym, ◌∙◌}
use Rattle.rasn_types.specs.CharacterString.{units_of}
use Rattle.rasn_types.proofs.CharacterString.Texts.{length-units_of}
use Rattle.rasn_enc.proofs.Leaves.CharacterString.{units_encoded, refused_at}
use Rattle.rasn_enc.proofs.ber.enc.Encoder.encode_bmp_string.Goals as goal

pub returns-clause-ok : goal.returns-clause-ok
returns-clause-ok c = units_encoded _ c.args.tag c.args.constraints.now c.as_octets-octets.result.now c.args.value.now _ _ _ c.as_octets-octets.ensures.octets
    (ap (λ z. z / 2) (ap length c.as_octets-octets.ensures.octets) ∙ sym (length-units_of c.args.value.now)) c.as_octets-octets.ensures.paired c.string.ensures.ok

pub returns-clause-fails : goal.returns-clause-fails
returns-clause-fails c = refused_at _ c.args.constraints.now _ (length (units_of c.args.value.now)) _
    (ap (λ z. z / 2) (ap length c.as_octets-octets.ensures.octets) ∙ sym (length-units_of c.args.value.now)) c.string.ensures.fails
