use Rattle.rasn_bench.proofs.line.Request.asked.Goals as goal

pub returns-in_default : goal.returns-in_default
returns-in_default c = λ rule kind octets asks. c.in_default.ensures rule kind asks.digits asks.request
