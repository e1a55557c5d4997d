use Rattle.std.proofs.Common.{◌<◌, ◌+◌, length, take, get_or, sym, arith}
use Rattle.std.proofs.lemmas.List.{take_more}
use Rattle.std.proofs.lemmas.Option.{slice_get-get_or}
use Rattle.rasn_schema.specs.Made.{IsNone}
use Rattle.rasn_schema.proofs.Made.{root_added, root_reached}
use Rattle.rasn_schema.proofs.walk.Walk.new.Goals as goal

pub loop-id-preserved : goal.loop-id-preserved
loop-id-preserved c =
    let types = c.args.types.now in
    let roots = c.args.roots.now in
    let i = c.loop-id.id-index in
    let id = get_or roots i (record { 0 = 0 }) in
    let within : i < length roots = (let n = c.loop-id-test.true in omega (arith, n)) in
    root_added c.loop-id.walk.is_reached.items c.loop-id.walk.left.items id c.reach.new.self.is_reached.items c.reach.new.self.left.items types roots (take i roots) IsNone
    c.in_ok-reach.ensures c.loop-id.invariant (take (i + 1) roots) (take_more roots i (record { 0 = 0 }) within)
    (root_reached types roots i id (sym (slice_get-get_or roots i (record { 0 = 0 }) within)))
