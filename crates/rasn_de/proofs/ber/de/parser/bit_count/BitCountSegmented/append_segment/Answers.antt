use Rattle.std.proofs.Common.{arith}
use Rattle.std.proofs.lemmas.List.{length-append}
use Rattle.rasn_types.specs.BitString.{but_last}
use Rattle.rasn_types.proofs.BitString.Views.{length-but_last}
use Rattle.rasn_de.proofs.ber.de.parser.bit_count.BitCountSegmented.append_segment.Goals as goal

pub returns-clause-exact : goal.returns-clause-exact
returns-clause-exact c =
    let bs = but_last c.in_ok-unused.unused c.in_ok-unused.octets.now in
    let n = length-but_last c.in_ok-unused.unused c.in_ok-unused.octets.now in (
      bs,
      c.in_ok-unused.ensures.exact,
      λ seen h b.
          let k = length-append seen bs in
          let s = h (omega (arith, k, b)) in
          omega (arith, k, n, s, b, c.saturating_add-self.ensures),
    )
