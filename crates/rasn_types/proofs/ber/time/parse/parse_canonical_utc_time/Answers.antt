use Rattle.rasn_types.specs.Time.{CanonicalUtc}
use Rattle.rasn_types.proofs.Time.Stamps.{moment_none}
use Rattle.rasn_types.proofs.ber.time.parse.parse_canonical_utc_time.Goals as goal

pub returns-in_err-stamp : goal.returns-in_err-stamp
returns-in_err-stamp c = rw c.from_residual.ensures (moment_none (CanonicalUtc c.args.text.now) c.in_err-stamp.ensures)
