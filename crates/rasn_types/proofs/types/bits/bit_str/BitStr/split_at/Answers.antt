use Rattle.std.proofs.Common.{◌/◌, ◌%◌, ◌+◌, ◌-◌, ◌≤◌, ◌∙◌, subst, sym, length, List, Bool, arith}
use Rattle.rasn_types.proofs.BitString.Views.{bits_from_part, back_bits, length-bits_from}
use Rattle.rasn_types.proofs.types.bits.bit_str.BitStr.split_at.Goals as goal

pub returns-clause-back : goal.returns-clause-back
returns-clause-back c =
    let s = c.self.inside in
    let q = subst (λ (l : List Bool). c.args.place ≤ length l) (sym c.self.view_is) c.requires in
    rw (← c.self.view_is) (
    bits_from_part (c.args.place / 8 + (s.shift + c.args.place % 8) / 8) ((s.shift + c.args.place % 8) % 8) (s.shift + c.args.place) (s.len - c.args.place) s.octets.now (omega arith)
    ∙ back_bits c.args.place s.shift s.len s.octets.now (omega (arith, q, length-bits_from s.shift s.len s.octets.now c.self.invariant.1))
    )
