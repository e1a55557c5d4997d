use Rattle.std.proofs.Common.{◌∙◌}
use Rattle.rasn_types.proofs.CharacterString.Order.{units_ordered}
use Rattle.rasn_types.proofs.types.strings.bmp.order.Goals as goal

pub returns : goal.returns
returns c =
    let r = c.requires in
    c.cmp.ensures ∙ units_ordered c.args.octets.now c.args.others.now r.whole.0 r.whole.1 r.octets.0 r.octets.1
