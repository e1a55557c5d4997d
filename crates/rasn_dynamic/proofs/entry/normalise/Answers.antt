use Rattle.std.proofs.Common.{arith}
use Rattle.rasn_de.proofs.Headers.Results.{octets_all}
use Rattle.rasn.proofs.Normalised.{if_ok, if_ok_both, if_err, identified, kept, unchanged, answered}
use Rattle.rasn_dynamic.proofs.entry.normalise.Goals as goal

pub returns-clause-identifies : goal.returns-clause-identifies
returns-clause-identifies c = if_ok c.convert.result (λ octets. identified) c.convert.ensures.normal

pub returns-clause-kept : goal.returns-clause-kept
returns-clause-kept c = if_ok_both c.convert.result (λ octets. kept) c.convert.ensures.octets c.convert.ensures.normal

pub returns-clause-unchanged : goal.returns-clause-unchanged
returns-clause-unchanged c = if_ok c.convert.result (λ octets. unchanged (octets_all c.args.input.now (λ i. omega (arith, c.type_inv.input i)))) c.convert.ensures.normal

pub returns-clause-answered : goal.returns-clause-answered
returns-clause-answered c = if_err c.convert.result answered c.convert.ensures.fails
