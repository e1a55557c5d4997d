use Rattle.std.proofs.Common.{◌≡◌, ◌^◌, Bool, List, ◌++◌, length, sym, ap, ◌∙◌, arith}
use Rattle.std.proofs.lemmas.List.{length-append}
use Rattle.rasn_types.specs.BitString.{but_last, significant}
use Rattle.rasn_types.proofs.BitString.Significant.{significant_le}
use Rattle.rasn_types.proofs.BitString.Views.{length-but_last}
use Rattle.rasn_de.specs.Checks.{Counts}
use Rattle.rasn_de.proofs.Strings.SeenNamed.{counted_zeros, counted_ones}
use Rattle.rasn_de.proofs.ber.de.parser.named_count.NamedCountSegmented.append_segment.Goals as goal

pub returns-then-size-ne0-clause-exact : goal.returns-then-size-ne0-clause-exact
returns-then-size-ne0-clause-exact c =
    let bs = but_last c.in_ok-unused.unused c.in_ok-unused.octets.now in
    let n = length-but_last c.in_ok-unused.unused c.in_ok-unused.octets.now in
    let k : c.significant_len-size.result ≡ length (significant bs) = c.significant_len-size.ensures ∙ ap (λ (l : List Bool). length (significant l)) c.in-Some.ensures in
    let t : (seen : List Bool) → Counts (2 ^ 128) c.args.self.now.len seen → Counts (2 ^ 128) c.saturating_add-self.result (seen ++ bs) = λ seen h b.
    let a = length-append seen bs in
    let s = h (omega (arith, a, b)) in
    omega (arith, a, n, s, b, c.saturating_add-self.ensures) in (
      bs,
      c.in_ok-unused.ensures.exact,
      λ seen h. counted_ones seen bs c.args.self.now.len c.args.self.now.size c.saturating_add-self.result h (t seen) c.saturating_add-self-then-size-ne0.result (λ z. c.if-size-ne0.true (k ∙ z))
          (λ b l. omega (arith, k, l, b, length-append seen bs, significant_le bs, c.saturating_add-self-then-size-ne0.ensures)),
    )

pub returns-else-size-ne0-clause-exact : goal.returns-else-size-ne0-clause-exact
returns-else-size-ne0-clause-exact c =
    let bs = but_last c.in_ok-unused.unused c.in_ok-unused.octets.now in
    let n = length-but_last c.in_ok-unused.unused c.in_ok-unused.octets.now in
    let k : c.significant_len-size.result ≡ length (significant bs) = c.significant_len-size.ensures ∙ ap (λ (l : List Bool). length (significant l)) c.in-Some.ensures in
    let t : (seen : List Bool) → Counts (2 ^ 128) c.args.self.now.len seen → Counts (2 ^ 128) c.saturating_add-self.result (seen ++ bs) = λ seen h b.
    let a = length-append seen bs in
    let s = h (omega (arith, a, b)) in
    omega (arith, a, n, s, b, c.saturating_add-self.ensures) in (
      bs,
      c.in_ok-unused.ensures.exact,
      λ seen h. counted_zeros seen bs c.args.self.now.len c.args.self.now.size c.saturating_add-self.result h (t seen) (λ b. sym k ∙ c.if-size-ne0.false),
    )

pub returns-in_default-clause-exact : goal.returns-in_default-clause-exact
returns-in_default-clause-exact c =
    let bs = but_last c.in_ok-unused.unused c.in_ok-unused.octets.now in
    let n = length-but_last c.in_ok-unused.unused c.in_ok-unused.octets.now in
    let t : (seen : List Bool) → Counts (2 ^ 128) c.args.self.now.len seen → Counts (2 ^ 128) c.saturating_add-self.result (seen ++ bs) = λ seen h b.
    let a = length-append seen bs in
    let s = h (omega (arith, a, b)) in
    omega (arith, a, n, s, b, c.saturating_add-self.ensures) in (
      bs,
      c.in_ok-unused.ensures.exact,
      λ seen h. counted_zeros seen bs c.args.self.now.len c.args.self.now.size c.saturating_add-self.result h (t seen) (λ b. absurd {A = length (significant bs) ≡ 0} (omega (arith, b, c.in_default.ensures))),
    )
