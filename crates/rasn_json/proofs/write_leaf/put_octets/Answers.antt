use Rattle.std.proofs.Common.{◌≡◌, ap, ◌∙◌, string_bytes}
use Rattle.json.specs.Json as json
use Rattle.std.specs.Prelude.{encode_utf8_all}
use Rattle.rasn_schema.specs.TimeTexts.{shown_digits}
use Rattle.rasn_json.specs.Json.{OctetsJson}
use Rattle.rasn_json.proofs.Appended.{on_one, other_octets}
use Rattle.rasn_json.proofs.Levels.{handed}
use Rattle.rasn_json.proofs.NewLeaves.{digits_octets}
use Rattle.rasn_json.proofs.write_leaf.put_octets.Goals as goal

pub returns-in_ok-text-in_default-clause-ok : goal.returns-in_ok-text-in_default-clause-ok
returns-in_ok-text-in_default-clause-ok g c =
    let text = handed (λ s. string_bytes s ≡ encode_utf8_all c.args.octets.now) c.text_of.result c.or_memory-in_default.result c.in_ok-text-in_default.text c.or_memory-in_default.ensures.ok c.in_ok-text-in_default.was c.text_of.ensures in
    on_one (OctetsJson c.args.kind c.args.octets.now) (json.string c.as_str-in_default.result.now) _ _ c.put-in_default.result c.put-in_default.ensures.ok
    (other_octets c.args.kind c.args.octets.now _ c.in_default.not-OctetString c.in_default.not-FixedOctetString c.in_default.not-Real c.in_default.not-TimeOfDay c.in_default.not-DateTime (ap json.string (c.as_str-in_default.ensures.value ∙ text)))

pub returns-in_ok-text-in-TimeOfDay-clause-ok : goal.returns-in_ok-text-in-TimeOfDay-clause-ok
returns-in_ok-text-in-TimeOfDay-clause-ok g c =
    let text = handed (λ s. string_bytes s ≡ encode_utf8_all (shown_digits c.args.octets.now)) c.format.result c.or_memory.result c.in_ok-text-in-TimeOfDay.text c.or_memory.ensures.ok c.in_ok-text-in-TimeOfDay.was c.format.ensures.ok in
    on_one (OctetsJson c.args.kind c.args.octets.now) (json.string c.as_str.result.now) _ _ c.put.result c.put.ensures.ok
    (digits_octets c.args.kind c.args.octets.now (json.string c.as_str.result.now) c.in-TimeOfDay.is c.requires (ap json.string (c.as_str.ensures.value ∙ text)))
