use Rattle.std.proofs.Common.{◌≡◌, [], ℕ, refl, subst, arith}
use Rattle.rasn_types.specs.BitString.{Packs}
use Rattle.rasn_json.specs.Json.{Appends, HexadecimalJson}
use Rattle.rasn_json.proofs.Appended.{counted_appended, on_ok}
use Rattle.rasn_json.proofs.Levels.{handed}
use Rattle.rasn_json.proofs.write_leaf.put_counted_bits.Goals as goal

pub returns-clause-ok : goal.returns-clause-ok
returns-clause-ok g c =
    let same = handed (λ s. s ≡ c.args.bits.now) c.from_bitstr.result c.or_memory.result c.in_ok-or_memory.field-0 c.or_memory.ensures.ok c.in_ok-or_memory.was c.from_bitstr.ensures in
    let packs = subst (λ bs. Packs bs c.into_vec-octets.result.items) same c.into_vec-octets.ensures in
    let digits = subst (λ o. Appends (HexadecimalJson o) (g.T.Tokens.written c.put-2.new.out) (g.T.Tokens.written c.put_digits.new.out)) c.as_slice.ensures.value c.in_ok-put_digits.ensures.ok in
    on_ok c.put-4.result _ _ (λ f. counted_appended c.args.bits.now c.into_vec-octets.result.items c.len.result _ _ _ _ _ _ _ packs c.len.ensures (omega (arith, c.len.type_inv)) c.in_ok-put.ensures.ok c.in_ok-put-2.ensures.ok digits c.in_ok-put-3.ensures.ok c.in_ok-put_size.ensures.ok f) c.put-4.ensures.ok
