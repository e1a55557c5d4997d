use Rattle.rasn_types.proofs.CharacterString.Texts.{units_told}
use Rattle.rasn_types.proofs.types.strings.bmp.are_equal.Goals as goal

pub returns : goal.returns
returns c =
    let r = c.requires in
    units_told c.args.octets.now c.args.others.now c.eq.result r.paired.0 r.paired.1 r.octets.0 r.octets.1 c.eq.ensures
