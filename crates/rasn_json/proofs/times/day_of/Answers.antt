use Rattle.std.proofs.Common.{◌≡◌, ℕ, arith, refl, sym, ap, ◌∙◌, subst, length, get_or, List, [], ◌∷◌}
use Rattle.std.specs.Prelude.{IfSome}
use Rattle.rasn_json.specs.Texts.{DayText}
use Rattle.rasn_json.proofs.DayTexts.{day_read}
use Rattle.rasn_json.proofs.times.day_of.Goals as goal

pub returns : goal.returns
returns c = subst (λ x. IfSome c.parse_date.result (DayText x)) c.as_bytes-octets.ensures.value
    (day_read c.as_bytes-octets.result.now _ c.parse_date.result refl (omega (arith, c.if-octets-ne10.false)) (omega (arith, c.if-octets-ne45.false)) (omega (arith, c.if-octets-ne45-2.false)) c.parse_date.ensures)
