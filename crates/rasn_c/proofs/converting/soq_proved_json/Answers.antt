use Rattle.rasn_c.proofs.converting.soq_proved_json.Goals as goal

pub returns : goal.returns
returns c = record {
  status = c.deliver.result;
  numbered = c.number.ensures;
  is = record {
    made = c.json_by-made.result;
    is = c.json_by-made.ensures;
    answer = c.report.result;
    reported = c.report.ensures;
    delivered = c.deliver.ensures;
  };
}
