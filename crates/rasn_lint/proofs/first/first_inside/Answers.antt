use Rattle.std.proofs.lemmas.List.{get_or_default}
use Rattle.rasn_lint.proofs.Clean.{goes_on, is_first, no_departures, some_departed}
use Rattle.rasn_lint.proofs.first.first_inside.Goals as goal

pub loop-part-preserved : goal.loop-part-preserved
loop-part-preserved c =
    let none = no_departures c.note_first.new.list c.if-not-is_empty.ensures in
    record {
      none = none;
      goes_on = goes_on c.args.schema.now.types.items c.args.len c.args.parts.now c.loop-part.path.items c.as_slice.result.now c.extend_path.new.path.items c.loop-part.part-index _ c.loop-part.list.items c.note_first.new.list.items
          c.loop-part.invariant.goes_on c.loop-part-test.true (get_or_default c.args.parts.now c.loop-part.part-index _ _ c.loop-part-test.true) c.as_slice.ensures.value c.in_ok-extend_path.ensures c.in_ok-note_first.ensures none;
    }

pub returns-then-not-is_empty : goal.returns-then-not-is_empty
returns-then-not-is_empty c = is_first c.args.schema.now.types.items c.args.len c.args.parts.now c.loop-part.path.items c.as_slice.result.now c.extend_path.new.path.items c.loop-part.part-index _ c.loop-part.list.items c.note_first.new.list.items
    c.first_of.result c.loop-part.invariant.goes_on c.loop-part-test.true (get_or_default c.args.parts.now c.loop-part.part-index _ _ c.loop-part-test.true) c.as_slice.ensures.value c.in_ok-extend_path.ensures c.loop-part.invariant.none c.in_ok-note_first.ensures
    (some_departed c.note_first.new.list c.if-not-is_empty.ensures) c.first_of.ensures
