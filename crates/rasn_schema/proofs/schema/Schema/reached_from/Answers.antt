use Rattle.std.proofs.Common.{◌≡◌, [], subst, arith}
use Rattle.std.proofs.lemmas.Grind.{common_steps}
use Rattle.rasn_schema.specs.Made.{IsWalk, IsNone, AreReachedFrom}
use Rattle.rasn_schema.proofs.Made.{taken, taken_reached, walk_ends}
use Rattle.rasn_schema.proofs.schema.Schema.reached_from.Goals as goal

pub loop-id-preserved : goal.loop-id-preserved
loop-id-preserved c =
    let types = c.types-types.result.now in
    let roots = c.args.roots.now in
    let marks = c.loop-id.walk.is_reached.items in
    let left = c.loop-id.walk.left.items in
    let rest = c.pop.new.self.items in
    let e = c.in-Some.ensures.items in
    c.in_ok-visit.ensures.walk roots
    (taken_reached types roots marks left rest c.in-Some.id e c.loop-id.invariant)
    (taken types roots marks left rest c.in-Some.id e c.loop-id.invariant)

pub returns : goal.returns
returns c =
    let types = c.types-types.result.now in
    let roots = c.args.roots.now in
    let marks = c.loop-id.walk.is_reached.items in
    let left = c.loop-id.walk.left.items in
    let e : left ≡ [] = (let p = c.in_default.ensures in grind (arith, common_steps, p.items, p.cases, p.variant, p.rest)) in
    subst (λ l. AreReachedFrom l roots marks) c.types-types.ensures.types
    (walk_ends types roots marks (subst (λ l. IsWalk types roots roots IsNone marks l) e c.loop-id.invariant))
