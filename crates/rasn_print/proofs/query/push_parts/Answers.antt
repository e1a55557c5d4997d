use Rattle.std.proofs.Common.{inl, inr}
use Rattle.rasn_print.proofs.Queries.{part_more}
use Rattle.rasn_print.proofs.query.push_parts.Goals as goal
use Rattle.rasn_print.proofs.query.push_parts.Goals.{in-Some-at+in_ok-push_part-2, in_default-at}

pub loop-index-preserved : goal.loop-index-preserved
loop-index-preserved c = elim c.match-at.branch [
  | in-Some-at+in_ok-push_part-2 w ↦ rw w.views-is (λ x a. part_more c.args.view.now w.in-Some-at.part x c.args.views.now.items c.loop-index.views.items w.push_part-in-Some-at.new.views.items
      (c.loop-index.invariant x) (w.in_ok-push_part-2.ensures x) w.in-Some-at.ensures.schema (inr (c.loop-index.index, w.in-Some-at.ensures.part)) a)
  | in_default-at w ↦ rw w.views-is c.loop-index.invariant
]

pub returns-in_ok-push_part : goal.returns-in_ok-push_part
returns-in_ok-push_part c = λ x a. part_more c.args.view.now c.in-Some.part x c.args.views.now.items c.args.views.now.items c.push_part.new.views.items
    (λ m. inl m) (c.in_ok-push_part.ensures x) c.in-Some.ensures.schema (inl c.in-Some.ensures.part) a
