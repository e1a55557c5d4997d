use Rattle.rasn_c.proofs.converting.soq_proved_encode.Goals as goal

pub returns : goal.returns
returns c = record {
  status = c.deliver.result;
  numbered = c.number.ensures;
  is = record {
    made = c.encode_by-made.result;
    is = c.encode_by-made.ensures;
    answer = c.report.result;
    reported = c.report.ensures;
    delivered = c.deliver.ensures;
  };
}
