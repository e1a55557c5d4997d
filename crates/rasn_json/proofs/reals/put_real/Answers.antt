use Rattle.std.proofs.Common.{◌≡◌, refl, sym, subst}
use Rattle.std.specs.Prelude.{codes}
use Rattle.json.specs.Json as json
use Rattle.rasn_schema.specs.declared.real.Real.TheVariants.{Zero, MinusZero, Infinity, MinusInfinity, NotANumber, Decimal}
use Rattle.rasn_schema.specs.Reals.{IsShownAs}
use Rattle.rasn_json.specs.Reals.{base_ten, BinaryJson, decimal_text, IsBinaryView, RealJson}
use Rattle.rasn_json.proofs.Appended.{on_appends, on_one}
use Rattle.rasn_json.proofs.RealTexts.{view_binary, zero_number}
use Rattle.rasn_json.proofs.reals.put_real.Goals as goal

pub put-requires : goal.put-requires
put-requires g c = zero_number

pub returns-in-Zero-clause-ok : goal.returns-in-Zero-clause-ok
returns-in-Zero-clause-ok g c = on_one (RealJson c.args.octets.now) (json.number (codes "0")) _ _ c.put.result c.put.ensures.ok (Zero, subst (IsShownAs c.args.octets.now) c.in-Zero.is c.in-Some.ensures, refl)

pub returns-in-MinusZero-clause-ok : goal.returns-in-MinusZero-clause-ok
returns-in-MinusZero-clause-ok g c = on_one (RealJson c.args.octets.now) (json.string (codes "-0")) _ _ c.put-in-MinusZero.result c.put-in-MinusZero.ensures.ok (MinusZero, subst (IsShownAs c.args.octets.now) c.in-MinusZero.is c.in-Some.ensures, refl)

pub returns-in-Infinity-clause-ok : goal.returns-in-Infinity-clause-ok
returns-in-Infinity-clause-ok g c = on_one (RealJson c.args.octets.now) (json.string (codes "INF")) _ _ c.put-in-Infinity.result c.put-in-Infinity.ensures.ok (Infinity, subst (IsShownAs c.args.octets.now) c.in-Infinity.is c.in-Some.ensures, refl)

pub returns-in-MinusInfinity-clause-ok : goal.returns-in-MinusInfinity-clause-ok
returns-in-MinusInfinity-clause-ok g c = on_one (RealJson c.args.octets.now) (json.string (codes "-INF")) _ _ c.put-in-MinusInfinity.result c.put-in-MinusInfinity.ensures.ok (MinusInfinity, subst (IsShownAs c.args.octets.now) c.in-MinusInfinity.is c.in-Some.ensures, refl)

pub returns-in-NotANumber-clause-ok : goal.returns-in-NotANumber-clause-ok
returns-in-NotANumber-clause-ok g c = on_one (RealJson c.args.octets.now) (json.string (codes "NaN")) _ _ c.put-in-NotANumber.result c.put-in-NotANumber.ensures.ok (NotANumber, subst (IsShownAs c.args.octets.now) c.in-NotANumber.is c.in-Some.ensures, refl)

pub returns-in-Binary-clause-ok : goal.returns-in-Binary-clause-ok
returns-in-Binary-clause-ok g c = on_appends (BinaryJson c.in-Some.real) (RealJson c.args.octets.now) _ _ c.put_binary.result (λ j h. (c.in-Some.real, c.in-Some.ensures, view_binary c.in-Some.real j (subst IsBinaryView (sym c.in-Binary.is) tt) h)) c.put_binary.ensures.ok

pub returns-else-depth-eq0-clause-ok : goal.returns-else-depth-eq0-clause-ok
returns-else-depth-eq0-clause-ok g c =
    let shown = subst (IsShownAs c.args.octets.now) c.in-Decimal.is c.in-Some.ensures in
    on_appends (λ j. j ≡ base_ten (decimal_text c.in-Decimal.is_negative c.in-Decimal.mantissa.now c.in-Decimal.exponent.now)) (RealJson c.args.octets.now) _ _ c.put_decimal.result
    (λ j h. (Decimal c.in-Decimal.is_negative c.in-Decimal.mantissa c.in-Decimal.exponent, shown, h)) c.put_decimal.ensures.ok
