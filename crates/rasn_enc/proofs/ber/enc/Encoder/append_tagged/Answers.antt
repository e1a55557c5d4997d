use Rattle.rasn_enc.proofs.Constructed.Enclosed.{dropped}
use Rattle.rasn_enc.proofs.Constructed.Any.{filled, closed_round, round_refused}
use Rattle.rasn_enc.proofs.ber.enc.Encoder.append_tagged.Goals as goal

pub close-requires : goal.close-requires
close-requires c = (filled c.args.self.now _ _ c.args.octets.now _ c.in_ok-open.ensures.ok c.append_encoded-outcome.ensures.ok c.append_encoded-outcome.ensures.err c.append_encoded-outcome.ensures.memory_alone).some

pub returns-clause-ok : goal.returns-clause-ok
returns-clause-ok c = closed_round _ _ _ _ _ (filled c.args.self.now _ _ c.args.octets.now _ c.in_ok-open.ensures.ok c.append_encoded-outcome.ensures.ok c.append_encoded-outcome.ensures.err c.append_encoded-outcome.ensures.memory_alone) _ c.args.tag c.close.ensures.accepted c.close.ensures.ok

pub returns-clause-err : goal.returns-clause-err
returns-clause-err c = dropped _ c.append_encoded-outcome.new.self _ (filled c.args.self.now _ _ c.args.octets.now _ c.in_ok-open.ensures.ok c.append_encoded-outcome.ensures.ok c.append_encoded-outcome.ensures.err c.append_encoded-outcome.ensures.memory_alone).below _ c.close.ensures.err

pub returns-clause-memory_alone : goal.returns-clause-memory_alone
returns-clause-memory_alone c = round_refused _ _ c.close.new.self _ _ (filled c.args.self.now _ _ c.args.octets.now _ c.in_ok-open.ensures.ok c.append_encoded-outcome.ensures.ok c.append_encoded-outcome.ensures.err c.append_encoded-outcome.ensures.memory_alone) _ c.close.ensures.refused
