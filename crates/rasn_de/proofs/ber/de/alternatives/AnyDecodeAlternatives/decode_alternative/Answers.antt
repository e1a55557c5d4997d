use Rattle.rasn_de.proofs.OwnTypes.AlternativeTypes.{unknown_read}
use Rattle.rasn_de.proofs.ber.de.alternatives.AnyDecodeAlternatives.decode_alternative.Goals as goal

pub returns-clause-reads : goal.returns-clause-reads
returns-clause-reads c = record { from = λ k. unknown_read c.args._tag _ _ _ c.requires.next c.decode_any.ensures.exact k }
