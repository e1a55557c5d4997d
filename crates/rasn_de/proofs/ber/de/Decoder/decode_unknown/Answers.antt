use Rattle.std.proofs.Common.{rules, Ok, Err, ◌∙◌}
use Rattle.rasn_types.specs.Tags.{eoc}
use Rattle.rasn_de.specs.Any.{DecodesOpenType}
use Rattle.rasn_de.proofs.Any.Unknown.{unknown_decodes, turn_is_by_rules, open_shorter}
use Rattle.rasn_de.proofs.Constructed.NextElement.{passes_more}
use Rattle.rasn_de.proofs.Leaves.Returns.{residual}
use Rattle.rasn_de.proofs.ber.de.Decoder.decode_unknown.Goals as goal

pub returns-in_err-push_unknown-clause-exact : goal.returns-in_err-push_unknown-clause-exact
returns-in_err-push_unknown-clause-exact c =
    rw (residual _ c.from_residual.ensures.1) (c.loop-self.values.items, c.loop-self.self, c.loop-self.invariant, c.loop-self-test.ensures, c.in_err-push_unknown.ensures.exact)

pub returns-in_err-push_unknown-clause-reads : goal.returns-in_err-push_unknown-clause-reads
returns-in_err-push_unknown-clause-reads c =
    rw (residual _ c.from_residual.ensures.1) (unknown_decodes c.args.self.now (Err c.in_err-push_unknown.field-0.0) _ (c.loop-self.values.items, c.loop-self.self, c.loop-self.invariant, c.loop-self-test.ensures, c.in_err-push_unknown.ensures.exact))

pub returns-in_err-push_unknown-clause-rules : goal.returns-in_err-push_unknown-clause-rules
returns-in_err-push_unknown-clause-rules c =
    rw (residual _ c.from_residual.ensures.1) (c.in_err-push_unknown.ensures.rules ∙ turn_is_by_rules _ _ _ c.loop-self.invariant)

pub returns-clause-reads : goal.returns-clause-reads
returns-clause-reads c = unknown_decodes c.args.self.now (Ok (record { values = c.loop-self.values })) c.loop-self.self (search rules)

pub loop-self-preserved : goal.loop-self-preserved
loop-self-preserved c =
    let k = c.in_ok-push_unknown.ensures.exact in
    passes_more (DecodesOpenType eoc) c.loop-self.self _ k.0 c.loop-self-test.ensures k.2 k.3 c.args.self.now c.loop-self.values.items _ k.1 c.loop-self.invariant
