use Rattle.rasn_de.proofs.ber.de.time.UtcTimeDecode.decode_with_tag_and_constraints.Goals as goal

pub returns-clause-reads : goal.returns-clause-reads
returns-clause-reads c = c.decode_utc_time.ensures.reads c.args._constraints.now
