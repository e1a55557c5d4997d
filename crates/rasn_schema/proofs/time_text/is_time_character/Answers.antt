use Rattle.std.proofs.Common.{rules, arith}
use Rattle.rasn_schema.proofs.RealTexts.{mark_told}
use Rattle.rasn_schema.proofs.time_text.is_time_character.Goals as goal

pub returns-else-is_ascii_digit : goal.returns-else-is_ascii_digit
returns-else-is_ascii_digit c =
    let k = c.if-is_ascii_digit.ensures.cases in
    mark_told c.contains.result c.args.octet (λ d. let a = d.0 in let b = d.1 in search rules) c.contains.ensures.cases
