use Rattle.rasn_bench.proofs.LawfulLines.{in_lines}
use Rattle.rasn_bench.proofs.lawful.lawful_in_lines.Goals as goal

pub returns : goal.returns
returns c = in_lines
