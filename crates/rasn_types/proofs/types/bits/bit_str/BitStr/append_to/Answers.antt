use Rattle.std.proofs.Common.{◌≡◌, ◌+◌, ◌∙◌, ap, subst, length, take, List, ℕ, arith}
use Rattle.rasn_types.specs.BitPacking.{Shifts}
use Rattle.rasn_types.proofs.BitString.Views.{packed, aligned, first_more, octets_by, on_ok}
use Rattle.rasn_types.proofs.types.bits.bit_str.BitStr.append_to.Goals as goal

pub returns-in-len1-up-clause-ok : goal.returns-in-len1-up-clause-ok
returns-in-len1-up-clause-ok c =
    let s = c.self.inside in
    let held = c.octets_across-held.result in
    let l = c.len.ensures in
    let e = first_more (take held s.octets.now) c.in-len1-up.len_at_least in
    let h = subst (λ (z : List ℕ). Shifts s.shift z c.reserve.new.self.items c.push_shifted.new.out.items) e c.push_shifted.ensures in
    let q : c.len.result ≡ length c.reserve.new.self.items = omega (arith, l) in
    rw (← c.self.view_is, ← c.in_ok-reserve.ensures.items)
    (packed s.shift s.len held c.octets_for-in-len1-up.result c.unused_by-in-len1-up.result s.octets.now _ _ _ _ c.self.invariant.0 (omega arith) (omega (arith, c.octets_across-held.ensures)) (omega (arith, c.octets_across-held.ensures))
    (omega (arith, c.octets_for-in-len1-up.ensures, c.unused_by-in-len1-up.ensures)) (omega (arith, c.unused_by-in-len1-up.ensures)) h (c.truncate.ensures.items ∙ ap (λ z. take (z + c.octets_for-in-len1-up.result) c.push_shifted.new.out.items) q) c.clear_last.ensures.cleared)

pub returns-then-self-eq0-clause-octets : goal.returns-then-self-eq0-clause-octets
returns-then-self-eq0-clause-octets c = octets_by c.args.out.now.items c.type_inv.out

pub returns-then-self-eq0-2-clause-ok : goal.returns-then-self-eq0-2-clause-ok
returns-then-self-eq0-2-clause-ok c =
    let s = c.self.inside in
    let z : s.shift ≡ 0 = c.if-self-eq0-2.true in
    rw (← c.self.view_is, z) (on_ok c.push_cleared.result
    (aligned s.len c.octets_for.result c.unused_by.result s.octets.now c.args.out.now.items _ (omega (arith, c.if-self-eq0.false)) (omega (arith, c.self.invariant.1, z, c.octets_for.ensures))
    (omega (arith, c.octets_for.ensures, c.unused_by.ensures)) (omega (arith, c.unused_by.ensures))) c.push_cleared.ensures.ok)
