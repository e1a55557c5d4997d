use Rattle.std.proofs.Common.{[], ◌∷◌}
use Rattle.rasn_lint.proofs.Listed.{more_listed}
use Rattle.rasn_lint.proofs.open.note_inside.Goals as goal

pub returns-in_ok-note_whole-clause-complete : goal.returns-in_ok-note_whole-clause-complete
returns-in_ok-note_whole-clause-complete c w n =
    let g = c.in_ok-look_along.ensures.grows in
    let m = c.in_ok-note_whole.ensures in
    more_listed c.args.contents.octets.now c.args.list.now.items c.look_along.new.list.items c.note_whole.new.list.items g.0 (m.0 ∷ []) (c.in_ok-look_along.ensures.complete w g.0 g.1) g.1 m.1
