use Rattle.std.proofs.Common.{arith, ◌≡◌, length, ap, ◌∙◌, subst}
use Rattle.rasn_de.specs.State.{State}
use Rattle.rasn_schema.specs.declared.type_id.TypeId.{TypeId}
use Rattle.rasn_dynamic.specs.Faults.{start}
use Rattle.rasn_dynamic.specs.Parts.{LacksPath}
use Rattle.rasn_dynamic.proofs.Parts.{found_at, seen_short, if_true, if_false}
use Rattle.rasn_dynamic.proofs.find.read_along.Goals as goal

pub go_along-requires-clause-seen : goal.go_along-requires-clause-seen
go_along-requires-clause-seen c = let whole = ap (λ (s : State). length s.rest) c.new.ensures in omega (arith, whole)

pub read_part-requires-clause-lawful : goal.read_part-requires-clause-lawful
read_part-requires-clause-lawful c = c.in_ok-go_along.ensures.lawful c.if-branch.true

pub read_part-requires-clause-seen : goal.read_part-requires-clause-seen
read_part-requires-clause-seen c =
    let whole = ap (λ (s : State). length s.rest) c.new.ensures in
    seen_short _ _ _ _ (c.in_ok-go_along.ensures.seen c.if-branch.true) (omega (arith, whole))

pub returns-in-Ok : goal.returns-in-Ok
returns-in-Ok c = record {
  found =
      let e : c.new.result ≡ start c.args.rule c.args.input.now = c.new.ensures ∙ ap (λ z. start z c.args.input.now) c.of.ensures in
      let t = c.if-branch.true in
      let r = c.in-Ok.ensures in
      rw (← c.types-types.ensures.types)
      (found_at c.types-types.result.now c.args.rule c.args.id.0 c.args.input.now c.args.path.now c.in-Ok.part c.new.result e _ _ _ _ (if_true _ _ _ t c.in_ok-go_along.ensures.found) (c.in_ok-go_along.ensures.seen t) (ap (λ (z : TypeId). z.0) r.at.0) r.at.1 r.read);
}

pub returns-else-branch : goal.returns-else-branch
returns-else-branch c = record {
  found =
      let e : c.new.result ≡ start c.args.rule c.args.input.now = c.new.ensures ∙ ap (λ z. start z c.args.input.now) c.of.ensures in
      rw (← c.types-types.ensures.types) (subst (λ z. LacksPath c.types-types.result.now c.args.path.now 18446744073709551615 c.args.id.0 z) e (if_false _ _ _ c.if-branch.false c.in_ok-go_along.ensures.found));
}
