use Rattle.std.proofs.Common.{◌-◌, List, ℕ, length, get_or, take, sym, subst}
use Rattle.rasn_types.proofs.Integer.TwosComplement.{are_octets, octet_at}
use Rattle.rasn_schema.specs.RealParts.{ZerosAtEnd}
use Rattle.rasn_schema.proofs.RealNumbers.{last_split, same_zeros}
use Rattle.rasn_schema.proofs.real_binary.zeros_at_end.Goals as goal

pub returns-in-len1-up : goal.returns-in-len1-up
returns-in-len1-up c =
    let l = c.args.octets.now in
    let last = get_or l (length l - 1) 0 in
    subst (λ z. ZerosAtEnd z c.low_zeros.result) (sym (last_split l c.in-len1-up.len_at_least))
    (same_zeros (take (length l - 1) l) last c.low_zeros.result (octet_at (length l - 1) l (are_octets l c.type_inv.octets)) c.low_zeros.ensures)
