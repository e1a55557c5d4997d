use Rattle.std.proofs.Common.{true, refl, sym, subst}
use Rattle.std.specs.Fmt.{HasWritten, IsPlainFormatter, DisplaysOnOk}
use Rattle.rasn_dynamic.specs.Shown.{shown_refusal, shown_way, way_text}
use Rattle.rasn_dynamic.proofs.Shown.{then_shown}
use Rattle.rasn_dynamic.proofs.refusal.NamedRefusalDisplay.fmt.Goals as goal

pub returns-then-self-clause-writes : goal.returns-then-self-clause-writes
returns-then-self-clause-writes g c =
    let n = c.args.self.now in
    let way = way_text n.schema.now.types.items n.inner.now true n.id.0 n.refusal.now.steps.items in
    subst (λ b. DisplaysOnOk g.W.Write.write_str_gives c.args.f.now c.fmt.result (shown_way b way (shown_refusal n.refusal.now)) c.fmt.new.f) (sym c.if-self.true) c.fmt.ensures.writes

pub returns-clause-writes : goal.returns-clause-writes
returns-clause-writes g c =
    let n = c.args.self.now in
    let way = way_text n.schema.now.types.items n.inner.now true n.id.0 n.refusal.now.steps.items in
    let written : IsPlainFormatter c.args.f.now → HasWritten g.W.Write.write_str_gives c.args.f.now way c.write_steps.new.f
    = λ plain.
    subst (λ l. HasWritten g.W.Write.write_str_gives c.args.f.now (way_text n.schema.now.types.items n.inner.now true n.id.0 l) c.write_steps.new.f) c.as_slice-steps.ensures.value
    (subst (λ t. HasWritten g.W.Write.write_str_gives c.args.f.now (way_text t n.inner.now true n.id.0 c.as_slice-steps.result.now) c.write_steps.new.f) c.types.ensures.types (c.in_ok-write_steps.ensures plain refl)) in
    subst (λ b. DisplaysOnOk g.W.Write.write_str_gives c.args.f.now c.fmt-2.result (shown_way b way (shown_refusal n.refusal.now)) c.fmt-2.new.f) (sym c.if-self.false)
    (then_shown g.W.Write.write_str_gives c.args.f.now c.write_steps.new.f c.fmt-2.new.f way (shown_refusal n.refusal.now) c.fmt-2.result written c.fmt-2.ensures.writes)
