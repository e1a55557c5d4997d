use Rattle.std.proofs.Common.{◌≡◌, ◌++◌, suc, sym, ap, ◌∙◌, append_assoc, arith}
use Rattle.rasn_lint.specs.declared.open.Wanted.TheVariants.{All, First}
use Rattle.rasn_lint.proofs.Listed.{value_listed, values_listed}
use Rattle.rasn_lint.proofs.Noted.{unknown_more}
use Rattle.rasn_lint.proofs.Opened.{followed_shorter}
use Rattle.rasn_lint.proofs.Wholes.{follows_more, unread_value, no_value}
use Rattle.rasn_lint.proofs.open.note_each.Goals as goal

pub returns-then-is_enough-clause-grows : goal.returns-then-is_enough-clause-grows
returns-then-is_enough-clause-grows c =
    let inv = c.values.invariant in
    let s = c.in-Some.ensures in
    let w = c.in_ok-note_inside.ensures.listed in
    unknown_more c.args.way.len c.args.way.part.now c.args.way.path.now c.in-Some.first.now c.args.list.now.items c.values.list.items c.note_inside.new.list.items w.0
    (inv.reached.0, c.values.rest.now, c.in-Some.others.now, inv.reached.1, s.is, s.follows) inv.grows w.1 w.3

pub returns-then-is_enough-clause-complete : goal.returns-then-is_enough-clause-complete
returns-then-is_enough-clause-complete c w = let first : All ≡ First = sym w ∙ c.if-is_enough.ensures.0 in cc

pub returns-in_default-clause-complete : goal.returns-in_default-clause-complete
returns-in_default-clause-complete c w = values_listed c.args.way.part.now.octets.now c.values.rest.now c.args.list.now.items c.values.list.items (c.values.invariant.listed w) (λ v h. unread_value c.values.rest.now c.in_default.ensures v h)

pub returns-clause-complete : goal.returns-clause-complete
returns-clause-complete c w = values_listed c.args.way.part.now.octets.now c.values.rest.now c.args.list.now.items c.values.list.items (c.values.invariant.listed w)
    (λ v h. no_value c.values.rest.now (let n = c.values.invariant.left in let m = c.values-test.false in omega (arith, n, m)) v h)

pub values-preserved : goal.values-preserved
values-preserved c =
    let inv = c.values.invariant in
    let s = c.in-Some.ensures in
    let w = c.in_ok-note_inside.ensures.listed in
    let front = inv.split.0 in
    let octets = c.args.way.part.now.octets.now in
    record {
      split = (front ++ c.in-Some.first.now, inv.split.1 ∙ (ap (λ l. front ++ l) s.is ∙ sym (append_assoc front c.in-Some.first.now c.in-Some.others.now)));
      grows = unknown_more c.args.way.len c.args.way.part.now c.args.way.path.now c.in-Some.first.now c.args.list.now.items c.values.list.items c.note_inside.new.list.items w.0
          (inv.reached.0, c.values.rest.now, c.in-Some.others.now, inv.reached.1, s.is, s.follows) inv.grows w.1 w.3;
      reached = (suc inv.reached.0, follows_more inv.reached.0 octets c.values.rest.now c.in-Some.others.now inv.reached.1 s.follows);
      left = let n = followed_shorter c.values.rest.now c.in-Some.others.now s.follows in let m = inv.left in omega (arith, n, m);
      listed = λ all. value_listed octets c.values.rest.now c.in-Some.first.now c.in-Some.others.now c.args.list.now.items c.values.list.items c.note_inside.new.list.items inv.grows.0 w.0
          (inv.listed all) inv.grows.1 w.1 s (c.in_ok-note_inside.ensures.complete all);
    }
