use Rattle.std.proofs.Common.{◌≡◌, refl, ap, ◌∙◌, string_bytes, inl, inr}
use Rattle.json.specs.Json as json
use Rattle.json.proofs.Printed.Floats.{IsNumber-plain}
use Rattle.rasn_schema.specs.RealShown.{real_text}
use Rattle.rasn_json.specs.Reals.{BinaryJson}
use Rattle.rasn_json.proofs.Appended.{on_one}
use Rattle.rasn_json.proofs.Levels.{handed}
use Rattle.rasn_json.proofs.RealTexts.{view_finite}
use Rattle.rasn_json.proofs.reals.put_binary.Goals as goal

pub format_finite-requires : goal.format_finite-requires
format_finite-requires g c = view_finite c.args.real c.in-Some.number c.requires.binary c.in-Some.ensures

pub put-requires : goal.put-requires
put-requires g c = IsNumber-plain c.format_finite.result.now c.format_finite.ensures.plain

pub returns-in-Some-clause-ok : goal.returns-in-Some-clause-ok
returns-in-Some-clause-ok g c = on_one (BinaryJson c.args.real) (json.number c.format_finite.result.now) _ _ c.put.result c.put.ensures.ok
    (inl (c.in-Some.number, c.format_finite.result.now, c.in-Some.ensures, refl, IsNumber-plain c.format_finite.result.now c.format_finite.ensures.plain, c.format_finite.ensures.parses))

pub returns-in_ok-text-in-None-clause-ok : goal.returns-in_ok-text-in-None-clause-ok
returns-in_ok-text-in-None-clause-ok g c =
    let text = handed (λ s. string_bytes s ≡ real_text c.args.real) c.format.result c.or_memory.result c.in_ok-text-in-None.text c.or_memory.ensures.ok c.in_ok-text-in-None.was c.format.ensures.ok in
    on_one (BinaryJson c.args.real) (json.string c.as_str.result.now) _ _ c.put-in-None.result c.put-in-None.ensures.ok (inr (c.in-None.ensures, ap json.string (c.as_str.ensures.value ∙ text)))
