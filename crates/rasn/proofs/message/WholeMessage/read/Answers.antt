use Rattle.std.proofs.Common.{arith, subst, ◌∙◌}
use Rattle.rasn_de.proofs.Headers.Results.{octets_all}
use Rattle.rasn.specs.Headline.{AnsweredAlone}
use Rattle.rasn.proofs.WholeMessages.{carried_as_written}
use Rattle.rasn.proofs.message.WholeMessage.read.Goals as goal

pub returns-clause-written : goal.returns-clause-written
returns-clause-written g c is = carried_as_written g.Self.AsnType.shape g.met.Self.WholeMessage.whole g.Self.AsnType.tree c.args.input.now (octets_all c.args.input.now (λ i. omega (arith, c.type_inv.input i))) c.decode.result
    (subst (λ k. AnsweredAlone k g.Self.AsnType.shape g.Self.AsnType.tree c.args.input.now c.decode.result) (c.RULES.ensures ∙ is) c.decode.ensures.exact)
