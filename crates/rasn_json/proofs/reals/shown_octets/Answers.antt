use Rattle.std.proofs.Common.{◌≡◌, rules}
use Rattle.rasn_types.proofs.Integer.TwosComplement.{are_octets}
use Rattle.rasn_schema.specs.RealShown.{mantissa_text, exponent_text, number_text}
use Rattle.rasn_json.proofs.Levels.{if_ok}
use Rattle.rasn_json.proofs.RealTexts.{notation_found, some_found}
use Rattle.rasn_json.proofs.reals.shown_octets.Goals as goal

pub returns : goal.returns
returns c =
    let b = c.args.is_negative in
    let m = c.args.mantissa.now in
    let x = c.args.exponent.now in
    let octets = are_octets x c.type_inv.exponent in
    let shown : c.args.text.now ≡ number_text b (mantissa_text m) 2 (exponent_text x) = search rules in
    if_ok _ _ c.contents_of_binary.result (λ found h. some_found _ _ _ found (λ v k. notation_found c.args.text.now v.items b m x octets shown k) h) c.contents_of_binary.ensures
