use Rattle.rasn_types.specs.Time.{long_form, canonical_form, both}
use Rattle.rasn_types.proofs.Time.Stamps.{generalized_none, generalized_unlike, generalized_made}
use Rattle.rasn_types.proofs.ber.time.parse.parse_canonical_generalized_time.Goals as goal

pub returns-in_err-year : goal.returns-in_err-year
returns-in_err-year c = rw c.from_residual.ensures (generalized_none (both long_form canonical_form) c.args.text.now c.in_err-year.ensures.exact)

pub returns-then-not-is_canonical : goal.returns-then-not-is_canonical
returns-then-not-is_canonical c = generalized_unlike (both long_form canonical_form) c.args.text.now c.in_ok-year.year c.in_ok-year.parts c.in_ok-year.ensures.exact (cc)

pub returns : goal.returns
returns c = generalized_made (both long_form canonical_form) c.args.text.now c.in_ok-year.year c.in_ok-year.parts c.stamp.result c.in_ok-year.ensures.exact (cc) c.stamp.ensures
