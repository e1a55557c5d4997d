use Rattle.std.proofs.Common.{inl, inr, refl, sym}
use Rattle.rasn_lint.specs.declared.departure.Aspect.TheVariants.{Header}
use Rattle.rasn_lint.proofs.Noted.{grows_one, grows_listed, if_so}
use Rattle.rasn_lint.proofs.Opened.{leads_there, kept_inside}
use Rattle.rasn_lint.proofs.Listed.{looked_unread, looked_plain, looked_nested}
use Rattle.rasn_lint.proofs.open.look_into.Goals as goal

pub returns-in_default-clause-grows : goal.returns-in_default-clause-grows
returns-in_default-clause-grows c = if_so c.note.result
    (λ g inside r. grows_one c.args.way.len c.args.next.left c.args.way.part.now c.args.way.path.now c.args.next.octets.now c.args.path c.site_at-site.result c.site_at-site.ensures r.pending.found inside
    Header c.unreadable-error.result _ _ (inl (leads_there c.args.way.part.now inside c.args.path.now c.args.next _ r c.requires, inr (inr (inl c.in_default.ensures, c.unreadable-error.ensures)))) g)
    c.note.ensures

pub returns-in_default-clause-all : goal.returns-in_default-clause-all
returns-in_default-clause-all c = if_so c.note.result (λ g inside r. r.all) c.note.ensures

pub returns-then-not-is_constructed-clause-grows : goal.returns-then-not-is_constructed-clause-grows
returns-then-not-is_constructed-clause-grows c inside r = grows_listed c.args.way.len c.args.next.left c.args.way.part.now c.args.way.path.now c.args.next.octets.now c.args.path c.site_at-site.result c.site_at-site.ensures r.pending.found inside
    c.in_ok-faults.faults c.in-Some.tag c.in-Some.contents.octets.now _ _ (leads_there c.args.way.part.now inside c.args.path.now c.args.next _ r c.requires) c.in-Some.ensures.0 c.in_ok-faults.ensures c.in_ok-note_faults.ensures

pub returns-clause-grows : goal.returns-clause-grows
returns-clause-grows c = if_so c.keep.result
    (λ k inside r. grows_listed c.args.way.len c.args.next.left c.args.way.part.now c.args.way.path.now c.args.next.octets.now c.args.path c.site_at-site.result c.site_at-site.ensures r.pending.found inside
    c.in_ok-faults.faults c.in-Some.tag c.in-Some.contents.octets.now _ _ (leads_there c.args.way.part.now inside c.args.path.now c.args.next _ r c.requires) c.in-Some.ensures.0 c.in_ok-faults.ensures c.in_ok-note_faults.ensures)
    c.keep.ensures

pub returns-clause-all : goal.returns-clause-all
returns-clause-all c = if_so c.keep.result
    (λ k inside r. kept_inside c.args.way.part.now inside c.args.path.now c.args.next c.in-Some.tag c.in-Some.contents _ _ _ r c.requires (sym c.if-not-is_constructed.ensures) c.in-Some.ensures.0 c.in-Some.ensures.1 refl refl refl c.saturating_sub.ensures k)
    c.keep.ensures

pub returns-in_default-clause-told : goal.returns-in_default-clause-told
returns-in_default-clause-told c = if_so c.note.result
    (λ g. looked_unread c.args.way.len c.args.next.left c.args.way.part.now c.args.way.path.now c.args.path c.site_at-site.result c.site_at-site.ensures c.args.next.octets.now c.in_default.ensures c.unreadable-error.result _ _ _ g)
    c.note.ensures

pub returns-then-not-is_constructed-clause-told : goal.returns-then-not-is_constructed-clause-told
returns-then-not-is_constructed-clause-told c = looked_plain c.args.way.len c.args.next.left c.args.way.part.now c.args.way.path.now c.args.path c.site_at-site.result c.site_at-site.ensures c.args.next.octets.now
    c.in-Some.tag c.in-Some.contents.octets.now c.in_ok-faults.faults c.in-Some.ensures.0 c.in_ok-faults.ensures _ _ c.in_ok-note_faults.ensures _ (sym c.if-not-is_constructed.ensures)

pub returns-clause-told : goal.returns-clause-told
returns-clause-told c = if_so c.keep.result
    (λ k. looked_nested c.args.way.len c.args.next.left c.args.way.part.now c.args.way.path.now c.args.path c.site_at-site.result c.site_at-site.ensures c.args.next.octets.now
    c.in-Some.tag c.in-Some.contents.octets.now c.in_ok-faults.faults c.in-Some.ensures.0 c.in_ok-faults.ensures _ _ c.in_ok-note_faults.ensures _ _ _ refl refl refl k)
    c.keep.ensures
