use Rattle.rasn_c.proofs.compiling.soq_proved_compile.Goals as goal

pub returns : goal.returns
returns c = record {
  status = c.deliver.result;
  numbered = c.number.ensures;
  is = record {
    made = c.schema_octets-made.result;
    is = c.schema_octets-made.ensures;
    answer = c.report.result;
    reported = c.report.ensures;
    delivered = c.deliver.ensures;
  };
}
