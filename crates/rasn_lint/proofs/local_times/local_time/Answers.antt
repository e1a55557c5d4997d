use Rattle.std.proofs.Common.{length, subst}
use Rattle.rasn_lint.specs.LocalTimes.{IsFirstOrNone}
use Rattle.rasn_lint.proofs.local_times.local_time.Goals as goal

pub returns-in-Ok-clause-found : goal.returns-in-Ok-clause-found
returns-in-Ok-clause-found c = (
  c.in_ok-parts.parts,
  c.in_ok-parts.ensures.parts,
  subst (λ z. IsFirstOrNone c.args.schema.now.types.items (length c.args.octets.now) z c.in-Ok.found) c.as_slice.ensures.value c.in-Ok.ensures,
)
