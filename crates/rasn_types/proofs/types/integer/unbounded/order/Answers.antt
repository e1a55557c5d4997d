use Rattle.std.proofs.Common.{◌∙◌, ap₂}
use Rattle.std.specs.Ordering.{ordering_then}
use Rattle.rasn_types.proofs.Integer.Order.{positive_order, negative_order, signs_apart}
use Rattle.rasn_types.proofs.types.integer.unbounded.order.Goals as goal

pub returns-in-true-true : goal.returns-in-true-true
returns-in-true-true c =
    let r = c.requires in
    let f = c.in-true-true in
    c.then.ensures ∙ (ap₂ ordering_then c.cmp.ensures c.cmp-in-true-true.ensures
    ∙ positive_order c.args.octets.now c.args.others.now r.octets.0 r.octets.1 r.short.0 r.short.1 f.is-0 f.is-1)

pub returns-in-false-false : goal.returns-in-false-false
returns-in-false-false c =
    let r = c.requires in
    let f = c.in-false-false in
    c.then-in-false-false.ensures ∙ (ap₂ ordering_then c.cmp-in-false-false.ensures c.cmp-in-false-false-2.ensures
    ∙ negative_order c.args.octets.now c.args.others.now r.octets.0 r.octets.1 r.short.0 r.short.1 f.is-0 f.is-1)

pub returns-in-false-true : goal.returns-in-false-true
returns-in-false-true c =
    let r = c.requires in
    let f = c.in-false-true in
    (signs_apart c.args.others.now c.args.octets.now r.octets.1 r.octets.0 r.short.1 r.short.0 f.is-1 f.is-0).0

pub returns-in-true-false : goal.returns-in-true-false
returns-in-true-false c =
    let r = c.requires in
    let f = c.in-true-false in
    (signs_apart c.args.octets.now c.args.others.now r.octets.0 r.octets.1 r.short.0 r.short.1 f.is-0 f.is-1).1
