use Rattle.rasn_c.proofs.checking.soq_proved_check_by.Goals as goal

pub returns : goal.returns
returns c = record {
  status = c.status_of.result;
  numbered = c.number.ensures;
  is = record {
    made = c.check_by-checked.result;
    is = c.check_by-checked.ensures;
    answer = c.report.result;
    reported = c.report.ensures;
    given = c.status_of.ensures;
  };
}
