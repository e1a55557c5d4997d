use Rattle.rasn_dynamic.proofs.read_leaf.check_utc_time.Goals as goal

pub returns-in-Err-clause-reads : goal.returns-in-Err-clause-reads
returns-in-Err-clause-reads c = c.in-Err.ensures.reads c.args.bounds.now
