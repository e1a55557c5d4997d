use Rattle.rasn_types.specs.Time.{short_form}
use Rattle.rasn_types.proofs.Time.Stamps.{utc_none, utc_unlike, utc_made}
use Rattle.rasn_types.proofs.ber.time.parse.utc_stamp.Goals as goal

pub returns-in_err-year : goal.returns-in_err-year
returns-in_err-year c = rw c.from_residual.ensures (utc_none short_form c.args.text.now c.in_err-year.ensures.exact)

pub returns-then-not-is_short : goal.returns-then-not-is_short
returns-then-not-is_short c = utc_unlike short_form c.args.text.now c.in_ok-year.year c.in_ok-year.fields c.in_ok-year.ensures.exact (cc)

pub returns : goal.returns
returns c = utc_made short_form c.args.text.now c.in_ok-year.year c.in_ok-year.fields c.stamp.result c.in_ok-year.ensures.exact (cc) (rw c.full_year.ensures.is at c.stamp.ensures)
