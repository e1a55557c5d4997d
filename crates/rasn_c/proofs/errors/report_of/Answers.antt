use Rattle.rasn_c.proofs.Reports.{reported}
use Rattle.rasn_c.proofs.errors.report_of.Goals as goal

pub returns-in-Some-Refused-clause-answer : goal.returns-in-Some-Refused-clause-answer
returns-in-Some-Refused-clause-answer c =
    let of_type = rw c.in-Some-Refused.field-0-is at c.in-Some-Refused.ensures in
    reported _ c.of_error.result.fault c.in-Some-Refused.error c.of_error.result.status (record { shape_is = of_type.1; rule_is = c.in-Some.ensures }) of_type.2 c.of_error.ensures.report
