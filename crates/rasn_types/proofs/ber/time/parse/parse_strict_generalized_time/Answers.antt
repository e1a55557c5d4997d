use Rattle.rasn_types.proofs.ber.time.parse.parse_strict_generalized_time.Goals as goal

pub returns-in_err-time : goal.returns-in_err-time
returns-in_err-time c = rw c.from_residual.ensures (λ t s. c.in_err-time.ensures t s.is)

pub returns-then-is_shortest : goal.returns-then-is_shortest
returns-then-is_shortest c = record { is = c.in_ok-time.ensures; short = c.if-is_shortest.ensures c.in_ok-time.time c.in_ok-time.ensures }

pub returns-else-is_shortest : goal.returns-else-is_shortest
returns-else-is_shortest c = λ t s. c.if-is_shortest.ensures t s.is s.short
