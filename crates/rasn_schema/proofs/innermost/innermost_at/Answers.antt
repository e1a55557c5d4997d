use Rattle.std.proofs.Common.{◌≡◌, ◌≤◌, ◌-◌, List, length, Some, subst, arith}
use Rattle.std.specs.Prelude.{slice_get}
use Rattle.rasn_schema.specs.declared.types.Alternative.{Alternative}
use Rattle.rasn_schema.proofs.Lists.{read_at}
use Rattle.rasn_schema.proofs.Reach.{way_start, not_choice, no_levels, no_type, way_ends, no_choice, nothing_chosen, way_more}
use Rattle.rasn_schema.proofs.innermost.innermost_at.Goals as goal

pub loop-left-init : goal.loop-left-init
loop-left-init c = way_start c.args.types.now c.args.levels c.args.id.0 c.args.value.now

pub returns-in_default-clause-reaches : goal.returns-in_default-clause-reaches
returns-in_default-clause-reaches c = no_type _ _ _ _ 0 _ _ _ c.loop-left.invariant c.in_default.ensures

pub returns-in_default-ty : goal.returns-in_default-ty
returns-in_default-ty c = record {
  reaches = way_ends _ _ _ _ (c.loop-left.left - 1) _ _ _ c.loop-left.invariant _ (let n = c.loop-left-test.true in omega arith) c.in-Some.ensures;
  other = not_choice _ c.in_default-ty.not-Choice;
  below = let m = c.loop-left.invariant.below in let n = c.loop-left-test.true in omega arith;
}

pub returns-in_default-inner : goal.returns-in_default-inner
returns-in_default-inner c = record {
  reaches = no_choice _ _ _ _ (c.loop-left.left - 1) _ _ _ c.loop-left.invariant _ (let n = c.loop-left-test.true in omega arith) c.in-Some.ensures _ _ c.in-Choice.is c.in_default-inner.not-Chosen;
  other = tt;
  below = tt;
}

pub returns-in_default-get-clause-reaches : goal.returns-in_default-get-clause-reaches
returns-in_default-get-clause-reaches c =
    nothing_chosen _ _ _ _ (c.loop-left.left - 1) _ _ _ c.loop-left.invariant _ (let n = c.loop-left-test.true in omega arith) c.in-Some.ensures _ _ c.in-Choice.is _ _ c.in-Chosen.is (subst (λ (l : List Alternative). length l ≤ c.in-Chosen.index) c.deref.ensures.value c.in_default-get.ensures.lookup.3)

pub loop-left-preserved : goal.loop-left-preserved
loop-left-preserved c = rw c.deref-inner.ensures
    (way_more _ _ _ _ (c.loop-left.left - 1) _ _ _ c.loop-left.invariant _ (let n = c.loop-left-test.true in omega arith) c.in-Some.ensures _ _ c.in-Choice.is _ _ c.in-Chosen.is c.in-Some-get.alternative.now
    (subst (λ (l : List Alternative). Some c.in-Some-get.alternative.now ≡ slice_get l c.in-Chosen.index) c.deref.ensures.value (read_at _ _ _ c.in-Some-get.ensures.lookup.3.0 c.in-Some-get.ensures.lookup.1)))

pub returns-clause-reaches : goal.returns-clause-reaches
returns-clause-reaches c = no_levels _ _ _ _ 0 _ _ _ c.loop-left.invariant (let n = c.loop-left-test.false in omega arith)
