use Rattle.std.proofs.Common.{rules, ap, sym, ◌≡◌, ◌∙◌, ◌+◌, length}
use Rattle.rasn_types.specs.Time.{written_year}
use Rattle.rasn_enc.proofs.Leaves.Time.{length-date}
use Rattle.rasn_enc.proofs.ber.enc.time.DateContents.count.Goals as goal

pub returns : goal.returns
returns c =
    let e : c.year_len.result ≡ length (written_year c.args.self.now.year) = search rules in
    λ l w. ap length w.0 ∙ (length-date c.args.self.now ∙ sym (ap (λ n. n + 4) e))
