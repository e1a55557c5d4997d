use Rattle.std.proofs.Common.{rules, ◌≡◌, ◌∷◌, [], ◌-◌, length, get_or, take, drop, pos, inl, refl, ap}
use Rattle.rasn_schema.proofs.RealTexts.{two_octets}
use Rattle.rasn_schema.proofs.real_decimal.whole_text.Goals as goal

pub returns-in-43 : goal.returns-in-43
returns-in-43 c =
    let l = c.args.text.now in
    let a : get_or l 0 0 ≡ 43 = search rules in
    let b : get_or l 1 0 ≡ 48 = search rules in
    let e : l ≡ 43 ∷ (48 ∷ []) = two_octets l 43 48 c.in-43.len_at_least c.in-43.len_below a b in
    (pos 0, inl (e, refl), inl (ap (λ l. take (length l - 1) (drop 1 l)) e, refl))
