use Rattle.std.proofs.Common.{refl}
use Rattle.rasn_types.specs.Time.{long_form}
use Rattle.rasn_types.proofs.Time.Stamps.{generalized_none, generalized_made}
use Rattle.rasn_types.proofs.ber.time.parse.parse_generalized_time.Goals as goal

pub returns-in_err-year : goal.returns-in_err-year
returns-in_err-year c = rw c.from_residual.ensures (generalized_none long_form c.args.text.now c.in_err-year.ensures.exact)

pub returns : goal.returns
returns c = generalized_made long_form c.args.text.now c.in_ok-year.year c.in_ok-year.fields c.stamp.result c.in_ok-year.ensures.exact refl c.stamp.ensures
