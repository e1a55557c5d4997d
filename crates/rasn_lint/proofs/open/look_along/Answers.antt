use Rattle.std.proofs.Common.{◌≡◌, ◌∙◌, sym, subst, ap, length, arith}
use Rattle.rasn_lint.specs.Open.{AllPending}
use Rattle.rasn_lint.specs.declared.open.Wanted.TheVariants.{All, First}
use Rattle.rasn_lint.proofs.Listed.{IsOwed, round_owed, round_some, round_left, none_left, all_listed}
use Rattle.rasn_lint.proofs.Noted.{grows_more}
use Rattle.rasn_lint.proofs.Opened.{reached}
use Rattle.rasn_lint.proofs.open.look_along.Goals as goal

pub encodings-preserved : goal.encodings-preserved
encodings-preserved c =
    let inside = c.args.encodings.octets.now in
    let inv = c.encodings.invariant in
    let went = c.deref.ensures.value ∙ c.in_ok-go_along.ensures in
    let r = reached c.args.way.part.now inside c.encodings.path.items c.deref.result.now c.encodings.pending.items c.pop.new.self.items c.in-Some.next inv.all c.in-Some.ensures.items went in
    let grows = c.in_ok-look.ensures.grows inside r in
    let told = c.in_ok-look.ensures.told inside r in
    let some = inv.some (λ q. let n = ap length q in let m = c.encodings-test.true in omega (arith, n, m)) in
    record {
      grows = grows_more c.args.way.len c.args.way.part.now c.args.way.path.now inside c.args.list.now.items c.encodings.list.items c.look.new.list.items inv.grows grows;
      all = subst (λ z. AllPending c.args.way.part.now inside z c.look.new.pending.items) c.deref.ensures.value (c.in_ok-look.ensures.all inside r);
      some = λ n. round_some c.args.way.part.now inside c.encodings.path.items c.deref.result.now c.in-Some.next c.encodings.pending.items c.pop.new.self.items c.look.new.pending.items inv.all c.in-Some.ensures.items
          c.encodings.list.items c.look.new.list.items told (inv.some n);
      left = round_left c.args.way.part.now inside c.encodings.path.items c.deref.result.now c.in-Some.next c.encodings.pending.items c.pop.new.self.items c.look.new.pending.items inv.all c.in-Some.ensures.items
          c.encodings.list.items c.look.new.list.items told c.encodings.index (length inside) some inv.left;
      owed = subst (λ z. IsOwed inside z c.look.new.pending.items c.args.list.now.items c.look.new.list.items) c.deref.ensures.value
          (round_owed c.args.way.part.now inside c.encodings.path.items c.deref.result.now c.in-Some.next c.encodings.pending.items c.pop.new.self.items c.look.new.pending.items inv.all c.in-Some.ensures.items
          c.encodings.list.items c.look.new.list.items told c.args.list.now.items inv.owed inv.grows.0 inv.grows.1 grows.0 grows.1 went);
    }

pub returns-then-is_enough-clause-grows : goal.returns-then-is_enough-clause-grows
returns-then-is_enough-clause-grows c =
    let r = reached c.args.way.part.now c.args.encodings.octets.now c.encodings.path.items c.deref.result.now c.encodings.pending.items c.pop.new.self.items c.in-Some.next c.encodings.invariant.all c.in-Some.ensures.items
    (c.deref.ensures.value ∙ c.in_ok-go_along.ensures) in
    grows_more c.args.way.len c.args.way.part.now c.args.way.path.now c.args.encodings.octets.now c.args.list.now.items c.encodings.list.items c.look.new.list.items c.encodings.invariant.grows
    (c.in_ok-look.ensures.grows c.args.encodings.octets.now r)

pub returns-then-is_enough-clause-complete : goal.returns-then-is_enough-clause-complete
returns-then-is_enough-clause-complete c w = let first : All ≡ First = sym w ∙ c.if-is_enough.ensures.0 in cc

pub returns-in_default-clause-complete : goal.returns-in_default-clause-complete
returns-in_default-clause-complete c w = all_listed c.args.encodings.octets.now c.encodings.path.items c.encodings.pending.items c.args.list.now.items c.encodings.list.items c.encodings.invariant.owed
    (none_left c.encodings.pending.items (let n = c.in_default.ensures.cases.0 in omega (arith, n)))

pub returns-clause-complete : goal.returns-clause-complete
returns-clause-complete c w = all_listed c.args.encodings.octets.now c.encodings.path.items c.encodings.pending.items c.args.list.now.items c.encodings.list.items c.encodings.invariant.owed
    (let n = c.encodings.invariant.left in let m = c.encodings-test.false in omega (arith, n, m))
