use Rattle.std.proofs.Common.{get_or, decimal, sym, append-nil, arith, rules}
use Rattle.std.proofs.Output.{has_written_append, has_written_of_eq}
use Rattle.rasn_types.specs.Text.{point_and_arc}
use Rattle.rasn_schema.proofs.LeafTexts.{arcs_more, relative_done}
use Rattle.rasn_schema.proofs.relative.RelativeOidDisplay.fmt.Goals as goal

pub loop-arc-init : goal.loop-arc-init
loop-arc-init g c = λ p. has_written_of_eq _ _ _ _ _ (sym (append-nil (decimal c.first-first.result))) (search rules)

pub loop-arc-preserved : goal.loop-arc-preserved
loop-arc-preserved g c = λ p.
    let l = c.others-arc-items.result.now in
    let i = c.loop-arc.arc-index in
    has_written_of_eq _ _ _ _ _ (sym (arcs_more (decimal c.first-first.result) l i (omega arith)))
    (has_written_append _ _ _ c.loop-arc.f (point_and_arc (get_or l i 0)) _ (c.loop-arc.invariant p) (search rules))

pub returns-clause-writes : goal.returns-clause-writes
returns-clause-writes g c = λ p _.
    let l = c.others-arc-items.result.now in
    let i = c.loop-arc.arc-index in
    has_written_of_eq _ _ _ _ _ (relative_done c.args.self.now.held.now l c.first-first.result i c.first-first.ensures c.others-arc-items.ensures (omega arith)) (c.loop-arc.invariant p)
