use Rattle.std.proofs.Common.{◌≡◌, true, false, refl}
use Rattle.rasn_types.specs.Time.{short_form, canonical_form, both}
use Rattle.rasn_types.proofs.Time.Stamps.{utc_none, utc_unlike, utc_made, both_off, both_on}
use Rattle.rasn_types.proofs.ber.time.parse.canonical_utc_stamp.Goals as goal

pub returns-in_err-year : goal.returns-in_err-year
returns-in_err-year c = rw c.from_residual.ensures (utc_none (both short_form canonical_form) c.args.text.now c.in_err-year.ensures.exact)

pub returns-then-not-is_short : goal.returns-then-not-is_short
returns-then-not-is_short c =
    let f = c.in_ok-year.fields in
    let a : short_form f ≡ false = cc in
    utc_unlike (both short_form canonical_form) c.args.text.now c.in_ok-year.year f c.in_ok-year.ensures.exact (both_off (short_form f) (canonical_form f) a)

pub returns-then-not-is_canonical : goal.returns-then-not-is_canonical
returns-then-not-is_canonical c =
    let f = c.in_ok-year.fields in
    let a : short_form f ≡ true = cc in
    let b : canonical_form f ≡ false = cc in
    utc_unlike (both short_form canonical_form) c.args.text.now c.in_ok-year.year f c.in_ok-year.ensures.exact (rw (a, b) refl)

pub returns : goal.returns
returns c =
    let f = c.in_ok-year.fields in
    let a : short_form f ≡ true = cc in
    let b : canonical_form f ≡ true = cc in
    utc_made (both short_form canonical_form) c.args.text.now c.in_ok-year.year f c.stamp.result c.in_ok-year.ensures.exact (both_on (short_form f) (canonical_form f) a b) (rw c.full_year.ensures.is at c.stamp.ensures)
