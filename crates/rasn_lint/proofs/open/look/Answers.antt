use Rattle.std.proofs.Common.{inl, inr, refl}
use Rattle.rasn_lint.specs.declared.departure.Aspect.TheVariants.{Header, Contents}
use Rattle.rasn_lint.proofs.Noted.{grows_one, if_so}
use Rattle.rasn_lint.proofs.Opened.{leads_there, extra_follows, reached_after}
use Rattle.rasn_lint.proofs.Listed.{looked_extra, looked_unskipped, looked_on}
use Rattle.rasn_lint.proofs.open.look.Goals as goal

pub returns-then-is_extra-clause-grows : goal.returns-then-is_extra-clause-grows
returns-then-is_extra-clause-grows c = if_so c.note.result
    (λ g inside r.
    let x = extra_follows c.args.way.part.now inside c.args.path.now c.args.next _ r c.if-is_extra.ensures in
    grows_one c.args.way.len c.args.next.left c.args.way.part.now c.args.way.path.now c.args.next.octets.now c.args.path c.site_at-site.result c.site_at-site.ensures r.pending.found inside
    Contents c.extra-error.result _ _ (inr (x.0, refl, inl (x.1, x.2, c.extra-error.ensures x.1))) g)
    c.note.ensures

pub returns-then-is_extra-clause-all : goal.returns-then-is_extra-clause-all
returns-then-is_extra-clause-all c = if_so c.note.result (λ g inside r. r.all) c.note.ensures

pub returns-in_default-clause-grows : goal.returns-in_default-clause-grows
returns-in_default-clause-grows c = if_so c.note-in_default.result
    (λ g inside r. grows_one c.args.way.len c.args.next.left c.args.way.part.now c.args.way.path.now c.args.next.octets.now c.args.path c.site_at-site.result c.site_at-site.ensures r.pending.found inside
    Header c.unreadable-error.result _ _ (inl (leads_there c.args.way.part.now inside c.args.path.now c.args.next _ r c.if-is_extra.ensures, inr (inr (inr c.in_default.ensures.exact, c.unreadable-error.ensures)))) g)
    c.note-in_default.ensures

pub returns-in_default-clause-all : goal.returns-in_default-clause-all
returns-in_default-clause-all c = if_so c.note-in_default.result (λ g inside r. r.all) c.note-in_default.ensures

pub returns-clause-grows : goal.returns-clause-grows
returns-clause-grows c = if_so c.look_into.result
    (λ g inside r. g inside (reached_after c.args.way.part.now inside c.args.path.now c.args.next c.in-Some.rest.now c.after.result _ _ r c.if-is_extra.ensures c.in-Some.ensures.exact c.after.ensures c.in_ok-keep.ensures))
    c.look_into.ensures.grows

pub returns-clause-all : goal.returns-clause-all
returns-clause-all c = if_so c.look_into.result
    (λ g inside r. g inside (reached_after c.args.way.part.now inside c.args.path.now c.args.next c.in-Some.rest.now c.after.result _ _ r c.if-is_extra.ensures c.in-Some.ensures.exact c.after.ensures c.in_ok-keep.ensures))
    c.look_into.ensures.all

pub returns-then-is_extra-clause-told : goal.returns-then-is_extra-clause-told
returns-then-is_extra-clause-told c = if_so c.note.result
    (λ g inside r. looked_extra c.args.way.len c.args.next.left c.args.way.part.now c.args.way.path.now c.args.path c.site_at-site.result c.site_at-site.ensures c.args.next inside _ r c.if-is_extra.ensures c.extra-error.result _ _ g)
    c.note.ensures

pub returns-in_default-clause-told : goal.returns-in_default-clause-told
returns-in_default-clause-told c = if_so c.note-in_default.result
    (λ g inside r. looked_unskipped c.args.way.len c.args.next.left c.args.way.part.now c.args.way.path.now c.args.path c.site_at-site.result c.site_at-site.ensures c.args.next inside _ r c.if-is_extra.ensures c.in_default.ensures.exact c.unreadable-error.result _ _ g)
    c.note-in_default.ensures

pub returns-clause-told : goal.returns-clause-told
returns-clause-told c = if_so c.look_into.result
    (λ g inside r. looked_on c.args.path.now c.args.next c.args.way.part.now inside c.in-Some.rest.now c.after.result _ _ _ _ _ r c.if-is_extra.ensures c.in-Some.ensures.exact c.in-Some.ensures.one c.after.ensures c.in_ok-keep.ensures g)
    c.look_into.ensures.told
