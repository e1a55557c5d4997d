use Rattle.std.proofs.Common.{arith, ◌∙◌}
use Rattle.rasn_enc.specs.Buffer.Lists.{tags_of}
use Rattle.rasn_enc.proofs.Buffer.CutBack.{end_within, cut_view, cut_chained}
use Rattle.rasn_enc.specs.Buffer.OpenValues.{opens}
use Rattle.rasn_enc.proofs.ber.enc.Encoder.cut_back.Goals as goal

pub returns-then-self-end : goal.returns-then-self-end
returns-then-self-end c = λ v octets tags m e.
    let w = end_within c.self.inside.rule c.self.inside.gathered.items c.self.inside.headers.items c.self.inside.list.start c.self.inside.list.first c.self.inside.list.measured (opens c.self.inside.around.items c.self.inside.innermost) c.self.invariant.0 c.self.invariant.1 (tags_of c.self.inside.list.tags) c.args.end v octets tags m (c.self.view_is ∙ e) in
    absurd (omega (arith, w, c.if-self-end.true))

pub invariant_of-self : goal.invariant_of-self
invariant_of-self c = (c.cut.ensures.sound, cut_chained c.self.inside.rule c.self.inside.gathered.items c.self.inside.headers.items c.self.inside.list.start c.self.inside.list.first c.self.inside.list.measured (opens c.self.inside.around.items c.self.inside.innermost) c.self.invariant.0 c.self.invariant.1 (tags_of c.self.inside.list.tags) c.args.end.octets _ _ c.cut.ensures, c.self.invariant.2)

pub returns : goal.returns
returns c = λ v octets tags m e. cut_view c.self.inside.rule c.self.inside.gathered.items c.self.inside.headers.items c.self.inside.list.start c.self.inside.list.first c.self.inside.list.measured (opens c.self.inside.around.items c.self.inside.innermost) c.self.invariant.0 c.self.invariant.1 (tags_of c.self.inside.list.tags) c.args.end v octets tags m (c.self.view_is ∙ e) _ _ c.cut.ensures _ c.cut_tags.ensures
