use Rattle.std.proofs.Common.{ap, ◌∙◌, ◌++◌, ◌∷◌, [], ◌≡◌}
use Rattle.rasn_enc.proofs.Buffer.OpenValues.{top, cut-chain, cut-view}
use Rattle.rasn_enc.specs.Buffer.OpenValues.{opens}
use Rattle.rasn_enc.proofs.Buffer.OpenValues.{is_open}
use Rattle.rasn_enc.proofs.ber.enc.Encoder.abandon.Goals as goal

pub invariant_of-self : goal.invariant_of-self
invariant_of-self c =
    let e : (opens c.self.inside.around.items c.self.inside.innermost) ≡ (opens c.pop_innermost-list.new.around.items c.pop_innermost-list.new.innermost) ++ c.pop_innermost-list.result ∷ [] = c.pop_innermost-list.ensures.all in
    let t = top c.self.inside.gathered.items c.self.inside.headers.items (opens c.self.inside.around.items c.self.inside.innermost) (opens c.pop_innermost-list.new.around.items c.pop_innermost-list.new.innermost) c.pop_innermost-list.result c.self.inside.list.start c.self.inside.list.first e c.self.invariant.1 in
    rw (c.truncate.ensures.items, c.truncate-2.ensures.items) (t.sound, cut-chain c.self.inside.rule c.self.inside.gathered.items c.self.inside.headers.items (opens c.pop_innermost-list.new.around.items c.pop_innermost-list.new.innermost) c.pop_innermost-list.result c.self.inside.list.start c.self.inside.list.first t, c.pop_innermost-list.ensures.innermost)

pub returns : goal.returns
returns c = λ v b.
    let e : (opens c.self.inside.around.items c.self.inside.innermost) ≡ (opens c.pop_innermost-list.new.around.items c.pop_innermost-list.new.innermost) ++ c.pop_innermost-list.result ∷ [] = c.pop_innermost-list.ensures.all in
    let t = top c.self.inside.gathered.items c.self.inside.headers.items (opens c.self.inside.around.items c.self.inside.innermost) (opens c.pop_innermost-list.new.around.items c.pop_innermost-list.new.innermost) c.pop_innermost-list.result c.self.inside.list.start c.self.inside.list.first e c.self.invariant.1 in
    rw (c.truncate.ensures.items, c.truncate-2.ensures.items) (cut-view c.self.inside.rule c.self.inside.gathered.items c.self.inside.headers.items (opens c.pop_innermost-list.new.around.items c.pop_innermost-list.new.innermost) c.pop_innermost-list.result c.self.inside.list.start c.self.inside.list.first t (opens c.self.inside.around.items c.self.inside.innermost) e v (ap (λ x. x.rule) c.self.view_is ∙ b.0) (ap (λ x. x.below) c.self.view_is ∙ b.1))

pub pop_innermost-list-requires : goal.pop_innermost-list-requires
pop_innermost-list-requires c = is_open c.self.inside.gathered.items c.self.inside.headers.items c.self.inside.around.items c.self.inside.innermost c.self.invariant.2 (rw (← c.self.view_is) at c.requires)
