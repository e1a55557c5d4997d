use Rattle.std.proofs.Common.{inr, refl}
use Rattle.rasn_lint.specs.declared.departure.Aspect.TheVariants.{Contents}
use Rattle.rasn_lint.proofs.Noted.{one_inside, if_so}
use Rattle.rasn_lint.proofs.open.note_whole.Goals as goal

pub returns : goal.returns
returns c = if_so c.note.result
    (one_inside c.args.way.len c.args.left c.args.way.part.now c.args.way.path.now c.args.octets.now _ c.site_at-site.result c.site_at-site.ensures c.requires.here c.args.octets.now
    Contents c.unreadable-error.result _ _ (inr (refl, refl, inr (refl, c.requires.formed, c.unreadable-error.ensures))))
    c.note.ensures
