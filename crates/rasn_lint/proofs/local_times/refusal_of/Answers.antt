use Rattle.std.proofs.Common.{refl}
use Rattle.rasn_lint.proofs.local_times.refusal_of.Goals as goal

pub returns : goal.returns
returns c = record {
  error = record { octets = c.args.text; items = refl; is = refl };
  offset = c.saturating_sub.ensures;
  id = refl;
  steps = refl;
}
