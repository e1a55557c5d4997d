use Rattle.std.proofs.Common.{◌≡◌, ◌-◌, ◌%◌, ℕ, length, get_or, take, nat_eq, ap, sym, subst, ◌∙◌}
use Rattle.rasn_types.specs.Truth.{IsWhether}
use Rattle.rasn_types.specs.Framing.{number_in}
use Rattle.rasn_types.proofs.Integer.TwosComplement.{are_octets, octet_at}
use Rattle.rasn_schema.proofs.RealNumbers.{last_split, eq_whether}
use Rattle.rasn_schema.proofs.RealViews.{odd_end}
use Rattle.rasn_schema.proofs.real_binary.is_odd.Goals as goal

pub returns-in-len1-up : goal.returns-in-len1-up
returns-in-len1-up c =
    let l = c.args.octets.now in
    let last = get_or l (length l - 1) 0 in
    let e : number_in 256 l % 2 ≡ last % 2 =
    ap (λ z. number_in 256 z % 2) (last_split l c.in-len1-up.len_at_least) ∙ odd_end (take (length l - 1) l) last (octet_at (length l - 1) l (are_octets l c.type_inv.octets)) in
    subst (λ z. IsWhether (nat_eq (last % 2) 1) (z ≡ 1)) (sym e) (eq_whether (last % 2) 1)
