use Rattle.std.proofs.Common.{◌≡◌, false, true, sym, ◌∙◌, arith}
use Rattle.rasn_schema.specs.Shapes.{shape_of_type}
use Rattle.rasn_dynamic.specs.Sets.{is_extensible}
use Rattle.rasn_dynamic.proofs.Named.{none_below, not_among, ends_there, all_but_last}
use Rattle.rasn_dynamic.proofs.set.named_components.Goals.{then-levels-eq0-via-then-levels-eq0, then-levels-eq0-via-else-levels-eq0+then-not-is_unknown_at}
use Rattle.rasn_dynamic.proofs.set.named_components.Goals as goal

closed : (c : goal.Joined-then-levels-eq0) → is_extensible (shape_of_type c.args.types.now c.args.levels) c.args.components.now ≡ false
closed c = elim c.then-levels-eq0.branch [
  | then-levels-eq0-via-then-levels-eq0 w ↦ none_below c.args.types.now c.args.levels c.args.components.now w.if-levels-eq0.true
  | then-levels-eq0-via-else-levels-eq0+then-not-is_unknown_at w ↦
      ends_there c.args.types.now c.args.levels c.args.components.now c.in-Some.before w.index-components-before.result
      (let l = c.in-Some.ensures in omega (arith, l.0, l.1)) w.index-components-before.is w.if-levels-eq0.false w.is_unknown_at.result w.is_unknown_at.ensures.shape ∙ w.if-not-is_unknown_at.true
]

extensible : (c : goal.Else-not-is_unknown_at) → is_extensible (shape_of_type c.args.types.now c.args.levels) c.args.components.now ≡ true
extensible c =
    ends_there c.args.types.now c.args.levels c.args.components.now c.in-Some.before c.index-components-before.result
    (let l = c.in-Some.ensures in omega (arith, l.0, l.1)) c.index-components-before.is c.if-levels-eq0.false c.is_unknown_at.result c.is_unknown_at.ensures.shape ∙ c.if-not-is_unknown_at.false

pub returns-then-levels-eq0-clause-named : goal.returns-then-levels-eq0-clause-named
returns-then-levels-eq0-clause-named c = not_among c.args.types.now c.args.levels c.args.components.now (closed c)

pub returns-then-levels-eq0-clause-extensible : goal.returns-then-levels-eq0-clause-extensible
returns-then-levels-eq0-clause-extensible c = sym (closed c)

pub returns-clause-named : goal.returns-clause-named
returns-clause-named c =
    all_but_last c.args.types.now c.args.levels c.args.components.now c.in-Some.before c.index-components-before.result
    (let l = c.in-Some.ensures in omega (arith, l.0, l.1)) c.index-components-before.is c.if-levels-eq0.false (extensible c)

pub returns-clause-extensible : goal.returns-clause-extensible
returns-clause-extensible c = sym (extensible c)
