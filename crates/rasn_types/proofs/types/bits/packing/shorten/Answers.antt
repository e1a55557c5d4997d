use Rattle.std.proofs.Common.{◌≡◌, ◌∙◌, ap, arith, take, length, vec_len, ◌-◌}
use Rattle.rasn_types.specs.BitString.{but_last}
use Rattle.rasn_types.proofs.BitString.Views.{but_last_popped}
use Rattle.rasn_types.proofs.types.bits.packing.shorten.Goals as goal

pub returns-clause-same : goal.returns-clause-same
returns-clause-same c =
    let n : vec_len c.args.octets.now ≡ length c.args.octets.now.items = omega arith in
    ap (λ z. but_last (c.args.unused - 8) z) (c.pop.ensures.rest ∙ ap (λ z. take (z - 1) c.args.octets.now.items) n)
    ∙ but_last_popped c.args.unused c.args.octets.now.items (omega arith) c.requires.held
