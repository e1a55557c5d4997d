use Rattle.rasn_c.proofs.finding.soq_proved_find.Goals as goal

pub returns : goal.returns
returns c = record {
  status = c.put_extent.result;
  numbered = c.number.ensures;
  is = record {
    made = c.find.result;
    is = c.find.ensures;
    answer = c.report-made.result;
    reported = c.report-made.ensures;
    given = c.put_extent.ensures;
  };
}
