use Rattle.std.proofs.Common.{rules, ap, ap₂, sym, refl, ◌≡◌, ◌∙◌, ◌+◌, length}
use Rattle.rasn_types.specs.Time.{written_year, written_fraction, within_second}
use Rattle.rasn_enc.proofs.Leaves.Time.{length-generalized, within}
use Rattle.rasn_enc.proofs.ber.enc.time.GeneralizedTimeContents.count.Goals as goal

pub returns : goal.returns
returns c = λ l w.
    let e : c.year_len.result ≡ length (written_year c.args.self.now.moment.day.year) = search rules in
    let f : c.fraction_len.result ≡ length (written_fraction (within_second c.args.self.now.moment)) = rw (c.fraction_len.ensures.exact, c.nanosecond.ensures, c.utc-value.ensures, within c.args.self.now.moment w.1) refl in
    ap length w.0 ∙ (length-generalized c.args.self.now.moment ∙ sym (ap₂ (λ n m. n + 11 + m) e f))
