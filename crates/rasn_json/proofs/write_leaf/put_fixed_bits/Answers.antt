use Rattle.std.proofs.Common.{◌≡◌, ◌+◌, ◌-◌, ◌++◌, ◌∙◌, sym, subst, length, arith}
use Rattle.rasn_types.specs.BitString.{Packs, zeros}
use Rattle.rasn_json.specs.Json.{HexadecimalJson}
use Rattle.rasn_json.proofs.Appended.{on_appends}
use Rattle.rasn_json.proofs.Filled.{filled_up, octets_taken}
use Rattle.rasn_json.proofs.Levels.{handed, was_ok}
use Rattle.rasn_json.proofs.write_leaf.put_fixed_bits.Goals as goal

pub returns-clause-ok : goal.returns-clause-ok
returns-clause-ok g c =
    let bs = c.args.bits.now in
    let same = handed (λ s. s ≡ bs) c.from_bitstr.result c.or_memory.result c.in_ok-or_memory.field-0 c.or_memory.ensures.ok c.in_ok-or_memory.was c.from_bitstr.ensures in
    let packs = subst (λ l. Packs l c.into_vec-octets.result.items) same c.into_vec-octets.ensures in
    let new = filled_up bs c.into_vec-octets.result.items c.resize.new.self.items c.args.size c.div_ceil.result c.into_vec-octets.result.len _ packs (omega arith) c.requires (c.div_ceil.ensures ∙ octets_taken c.args.size) (was_ok c.resize.result c.or_memory-2.result c.in_ok-or_memory-2.field-0 c.or_memory-2.ensures.ok c.in_ok-or_memory-2.was) c.resize.ensures.items in
    on_appends (HexadecimalJson c.as_slice.result.now) _ _ _ c.put_digits.result (λ j h. (c.as_slice.result.now, subst (Packs (bs ++ zeros (c.args.size - length bs))) (sym c.as_slice.ensures.value) new, h)) c.put_digits.ensures.ok
