use Rattle.std.proofs.Common.{◌≡◌, ◌+◌, sym, ◌∙◌, arith}
use Rattle.rasn_schema.proofs.Made.{all_visited, walk_added, part_added, added_steps, part_reached, no_part}
use Rattle.rasn_schema.proofs.walk.Walk.visit.Goals as goal
use Rattle.rasn_schema.proofs.walk.Walk.visit.Goals.{in-Some-part_type+in_ok-reach, in_default-part_type}

pub loop-index-preserved : goal.loop-index-preserved
loop-index-preserved c =
    let types = c.args.types.now in
    let ty = c.in-Some.ty.now in
    let k = c.args.id.0 in
    let index = c.loop-index.index in
    let marks = c.loop-index.self.is_reached.items in
    let left = c.loop-index.self.left.items in
    elim c.match-part_type.branch [
      | in-Some-part_type+in_ok-reach w ↦
          let part = w.in-Some-part_type.part in
          let more = w.reach.new.self.is_reached.items in
          let list = w.reach.new.self.left.items in
          let at = sym w.in-Some-part_type.is ∙ c.part_type.ensures in
          let added = w.in_ok-reach.ensures in
          rw w.self-is (
            λ roots r v.
                let (walk, parts) = c.loop-index.invariant.0 roots r v in (
                  walk_added marks left part more list types roots roots (λ n. n ≡ k) added walk (λ l. part_reached types roots k index ty part c.in-Some.ensures at r l),
                  part_added marks left part more list types roots roots (λ n. n ≡ k) added walk ty index at parts,
                ),
            (let same = added_steps marks left part more list added in let less = c.loop-index.invariant.1 in omega (arith, same, less)),
          )
      | in_default-part_type w ↦
          rw w.self-is (
            λ roots r v.
                let (walk, parts) = c.loop-index.invariant.0 roots r v in
                (walk, no_part types marks ty index (sym w.in_default-part_type.is ∙ c.part_type.ensures) parts),
            c.loop-index.invariant.1,
          )
    ]

pub returns-clause-walk : goal.returns-clause-walk
returns-clause-walk c = λ roots r w.
    let (walk, parts) = c.loop-index.invariant.0 roots r w in
    all_visited c.args.types.now roots c.args.id.0 c.loop-index.self.is_reached.items c.loop-index.self.left.items walk c.in-Some.ty.now c.loop-index.index c.in-Some.ensures parts
    (λ i part at. let (j, below, found) = c.part_count-index-end.ensures i part at in (j, (let end = c.loop-index-test.false in omega (arith, below, end)), found))
