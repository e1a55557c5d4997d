use Rattle.rasn_c.proofs.listing.soq_proved_parts.Goals as goal

pub returns : goal.returns
returns c = record {
  status = c.put_parts.result;
  numbered = c.number.ensures;
  is = record {
    made = c.list.result;
    is = c.list.ensures;
    answer = c.report-made.result;
    reported = c.report-made.ensures;
    given = c.put_parts.ensures;
  };
}
