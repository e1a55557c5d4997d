use Rattle.std.proofs.Common.{refl}
use Rattle.rasn_lint.proofs.judge.note.Goals as goal

pub returns : goal.returns
returns c = rw c.in-Some.is (
  _,
  c.in_ok-push.ensures.items,
  (
    _,
    refl,
    record {
      error_is = refl;
      offset = refl;
      id = refl;
      steps = c.in_ok-steps.ensures.items;
      whole = refl;
      aspect_is = refl;
      inner = c.in_ok-inner.ensures;
    },
  ),
)
