use Rattle.std.proofs.Common.{◌∙◌, sym, subst}
use Rattle.rasn_json.specs.Json.{BitsJson, IsSize}
use Rattle.rasn_json.proofs.Appended.{on_appends}
use Rattle.rasn_json.proofs.Filled.{bits_written}
use Rattle.rasn_json.proofs.write_leaf.put_bits.Goals as goal

pub returns-then-is_size-clause-ok : goal.returns-then-is_size-clause-ok
returns-then-is_size-clause-ok g c =
    let size = subst (IsSize c.args.kind c.in-Some.size) c.len.ensures c.if-is_size.ensures in
    let one = sym c.in-Some.is ∙ c.fixed_size.ensures in
    on_appends _ _ _ _ c.put_fixed_bits.result (λ j h. subst (λ o. BitsJson c.args.kind o c.args.bits.now j) one (bits_written c.in-Some.size c.args.bits.now j c.args.kind size h)) c.put_fixed_bits.ensures.ok
