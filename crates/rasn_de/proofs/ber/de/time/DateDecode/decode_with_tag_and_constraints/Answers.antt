use Rattle.rasn_de.proofs.ber.de.time.DateDecode.decode_with_tag_and_constraints.Goals as goal

pub returns-clause-reads : goal.returns-clause-reads
returns-clause-reads c = c.decode_date.ensures.reads c.args._constraints.now
