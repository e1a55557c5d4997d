use Rattle.rasn_types.proofs.Time.Dates.{date_none, date_made}
use Rattle.rasn_types.proofs.ber.time.parse.parse_date.Goals as goal

pub returns-in_err-year : goal.returns-in_err-year
returns-in_err-year c = rw c.from_residual.ensures (date_none c.args.text.now c.in_err-year.ensures.exact)

pub returns : goal.returns
returns c = date_made c.args.text.now c.in_ok-year.year c.in_ok-year.month c.in_ok-year.day c.day_of.result c.in_ok-year.ensures.exact c.day_of.ensures
