use Rattle.std.proofs.Common.{ℕ, List, ◌≡◌, ◌-◌, ◌<◌, ◌≤◌, length, take, drop, subst, slice_index_or, arith}
use Rattle.rasn_de.proofs.Headers.Short.{short_value}
use Rattle.rasn_de.proofs.ber.de.parser.headers.short_value.Goals as goal

pub returns-clause-exact : goal.returns-clause-exact
returns-clause-exact c rule =
    let n = c.from.ensures in
    let i = c.in_ok-contents.ensures.cases in
    let l : List ℕ = take (length c.args.input.now - 2) (drop 2 c.args.input.now) in
    let x : slice_index_or c.args.input.now 1 0 < 128 = omega (arith, c.if-length-gt127.false) in
    short_value rule c.args.tag c.args.input.now c.in_ok-contents.contents.now c.in_ok-contents.rest.now c.in-len2-up.len_at_least
    (c.is_primitive_identifier.ensures c.if-not-is_primitive_identifier.false) x (subst (λ (z : ℕ). z ≤ length l) n i.0)
    (subst (λ (z : ℕ). c.in_ok-contents.contents.now ≡ take z l) n i.1) (subst (λ (z : ℕ). c.in_ok-contents.rest.now ≡ drop z l) n i.2)
