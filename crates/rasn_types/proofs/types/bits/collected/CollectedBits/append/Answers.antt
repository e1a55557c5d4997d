use Rattle.std.proofs.Common.{◌∙◌, ◌+◌, ◌<◌, ◌≤◌, vec_len, vec_capacity, length, rules, arith, Result, Ok, Err, OnErr}
use Rattle.rasn_types.proofs.BitString.Views.{collects_whole, joined_bits, some_bits}
use Rattle.rasn_types.proofs.types.bits.collected.CollectedBits.append.Goals as goal

on_err : {T E P : Type 0} (r : Result T E) → P → OnErr r P
on_err (Ok v) p = tt
on_err (Err e) p = p

pub returns-then-self-eq0-clause-ok : goal.returns-then-self-eq0-clause-ok
returns-then-self-eq0-clause-ok c =
    rw (← c.self.view_is) (rw c.if-self-eq0.true (collects_whole c.args.unused c.self.inside.octets.items c.args.octets.now _ c.requires.held c.in_ok-extend_from_slice.ensures.items))

pub returns-clause-ok : goal.returns-clause-ok
returns-clause-ok c =
    let g = c.self.inside in
    let j = rw c.in_ok-reserve.ensures.items at c.push_joined.ensures in
    rw (← c.self.view_is) (c.shorten-self-inside.ensures.same ∙ joined_bits g.unused c.args.unused g.octets.items c.args.octets.now _ c.self.invariant.1 c.requires.held j)

pub returns-in_err-extend_from_slice-clause-memory : goal.returns-in_err-extend_from_slice-clause-memory
returns-in_err-extend_from_slice-clause-memory c =
    let h : vec_capacity c.self.inside.octets < vec_len c.self.inside.octets + length c.args.octets.now = search rules in
    let held : vec_len c.self.inside.octets ≤ vec_capacity c.self.inside.octets = c.self.inside.octets.ok.1 in
    on_err _ (some_bits c.args.unused c.args.octets.now c.requires.few (omega (arith, h, held)))

pub returns-in_err-reserve-clause-memory : goal.returns-in_err-reserve-clause-memory
returns-in_err-reserve-clause-memory c =
    let h : vec_capacity c.self.inside.octets < vec_len c.self.inside.octets + length c.args.octets.now = search rules in
    let held : vec_len c.self.inside.octets ≤ vec_capacity c.self.inside.octets = c.self.inside.octets.ok.1 in
    on_err _ (some_bits c.args.unused c.args.octets.now c.requires.few (omega (arith, h, held)))
