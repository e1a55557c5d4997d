use Rattle.std.proofs.Common.{◌≡◌, ap, ◌∙◌, arith, string_bytes}
use Rattle.json.specs.Json as json
use Rattle.rasn_types.specs.Text.{hexadecimal}
use Rattle.rasn_json.specs.Json.{HexadecimalJson}
use Rattle.rasn_json.proofs.Appended.{on_one}
use Rattle.rasn_json.proofs.Levels.{handed}
use Rattle.rasn_json.proofs.LowFirst.{octets_of_digits}
use Rattle.rasn_json.proofs.write_leaf.put_digits.Goals as goal

pub returns-clause-ok : goal.returns-clause-ok
returns-clause-ok g c =
    let text = handed (λ s. string_bytes s ≡ hexadecimal c.args.octets.now) c.digits_of.result c.or_memory.result c.in_ok-digits.digits c.or_memory.ensures.ok c.in_ok-digits.was c.digits_of.ensures in
    on_one (HexadecimalJson c.args.octets.now) (json.string c.as_str.result.now) _ _ c.put.result c.put.ensures.ok
    (octets_of_digits c.args.octets.now (λ k. let f = c.type_inv.octets k in omega arith), ap json.string (c.as_str.ensures.value ∙ text))
