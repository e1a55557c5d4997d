use Rattle.std.proofs.Common.{rules, ap, ◌∙◌, ◌++◌, ◌∷◌, [], ◌≡◌, arith}
use Rattle.rasn_enc.specs.Buffer.Lists.{tags_of}
use Rattle.rasn_enc.proofs.Buffer.OpenValues.{top, cut-chain, cut-view, close-sound, close-chain, close-appends}
use Rattle.rasn_enc.specs.Buffer.OpenValues.{opens}
use Rattle.rasn_enc.proofs.Buffer.OpenValues.{is_open}
use Rattle.rasn_enc.proofs.ber.enc.Encoder.close.Goals as goal

pub close_value-closed-requires-clause-room : goal.close_value-closed-requires-clause-room
close_value-closed-requires-clause-room c =
    let e : (opens c.self.inside.around.items c.self.inside.innermost) ≡ (opens c.pop_innermost-open.new.around.items c.pop_innermost-open.new.innermost) ++ c.pop_innermost-open.result ∷ [] = c.pop_innermost-open.ensures.all in
    let t = top c.self.inside.gathered.items c.self.inside.headers.items (opens c.self.inside.around.items c.self.inside.innermost) (opens c.pop_innermost-open.new.around.items c.pop_innermost-open.new.innermost) c.pop_innermost-open.result c.self.inside.list.start c.self.inside.list.first e c.self.invariant.1 in
    let w = t.ends in
    let f = c.self.invariant.0.start_within in
    omega (arith, w, f, c.self.inside.gathered.ok)

pub close_value-closed-requires-clause-index : goal.close_value-closed-requires-clause-index
close_value-closed-requires-clause-index c =
    let e : (opens c.self.inside.around.items c.self.inside.innermost) ≡ (opens c.pop_innermost-open.new.around.items c.pop_innermost-open.new.innermost) ++ c.pop_innermost-open.result ∷ [] = c.pop_innermost-open.ensures.all in
    let t = top c.self.inside.gathered.items c.self.inside.headers.items (opens c.self.inside.around.items c.self.inside.innermost) (opens c.pop_innermost-open.new.around.items c.pop_innermost-open.new.innermost) c.pop_innermost-open.result c.self.inside.list.start c.self.inside.list.first e c.self.invariant.1 in
    let w = t.lasts in
    let f = c.self.invariant.0.first_within in
    omega (arith, w, f, c.self.inside.headers.ok)

pub invariant_of-self : goal.invariant_of-self
invariant_of-self c =
    let e : (opens c.self.inside.around.items c.self.inside.innermost) ≡ (opens c.pop_innermost-open.new.around.items c.pop_innermost-open.new.innermost) ++ c.pop_innermost-open.result ∷ [] = c.pop_innermost-open.ensures.all in
    let t = top c.self.inside.gathered.items c.self.inside.headers.items (opens c.self.inside.around.items c.self.inside.innermost) (opens c.pop_innermost-open.new.around.items c.pop_innermost-open.new.innermost) c.pop_innermost-open.result c.self.inside.list.start c.self.inside.list.first e c.self.invariant.1 in
    rw (c.in-Ok.ensures.start.0, c.in-Ok.ensures.start.1) (
      close-sound c.self.inside.rule c.self.inside.gathered.items c.self.inside.headers.items (opens c.pop_innermost-open.new.around.items c.pop_innermost-open.new.innermost) c.pop_innermost-open.result c.self.inside.list.start c.self.inside.list.first t c.args.tag c.self.inside.list.measured c.self.invariant.0 c.close_value-closed.new.gathered.items c.close_value-closed.new.headers.items c.in-Ok.ensures.octets c.close_value-closed.new.value.list.measured c.in-Ok.ensures.total,
      close-chain c.self.inside.rule c.self.inside.gathered.items c.self.inside.headers.items (opens c.pop_innermost-open.new.around.items c.pop_innermost-open.new.innermost) c.pop_innermost-open.result c.self.inside.list.start c.self.inside.list.first t c.args.tag c.self.inside.list.measured c.self.invariant.0 c.close_value-closed.new.gathered.items c.close_value-closed.new.headers.items c.in-Ok.ensures.octets,
      c.pop_innermost-open.ensures.innermost,
    )

pub invariant_of-self-in-Err-closed : goal.invariant_of-self-in-Err-closed
invariant_of-self-in-Err-closed c =
    let e : (opens c.self.inside.around.items c.self.inside.innermost) ≡ (opens c.pop_innermost-open.new.around.items c.pop_innermost-open.new.innermost) ++ c.pop_innermost-open.result ∷ [] = c.pop_innermost-open.ensures.all in
    let t = top c.self.inside.gathered.items c.self.inside.headers.items (opens c.self.inside.around.items c.self.inside.innermost) (opens c.pop_innermost-open.new.around.items c.pop_innermost-open.new.innermost) c.pop_innermost-open.result c.self.inside.list.start c.self.inside.list.first e c.self.invariant.1 in
    rw (c.truncate.ensures.items, c.truncate-in-Err-closed.ensures.items, c.in-Err-closed.ensures.place.0, c.in-Err-closed.ensures.place.1, c.in-Err-closed.ensures.err.0, c.in-Err-closed.ensures.err.1, c.in-Err-closed.ensures.start.0, c.in-Err-closed.ensures.start.1, c.in-Err-closed.ensures.same.0) (t.sound, cut-chain c.self.inside.rule c.self.inside.gathered.items c.self.inside.headers.items (opens c.pop_innermost-open.new.around.items c.pop_innermost-open.new.innermost) c.pop_innermost-open.result c.self.inside.list.start c.self.inside.list.first t, c.pop_innermost-open.ensures.innermost)

pub returns-in-Ok-clause-ok : goal.returns-in-Ok-clause-ok
returns-in-Ok-clause-ok c = λ v b.
    let e : (opens c.self.inside.around.items c.self.inside.innermost) ≡ (opens c.pop_innermost-open.new.around.items c.pop_innermost-open.new.innermost) ++ c.pop_innermost-open.result ∷ [] = c.pop_innermost-open.ensures.all in
    let t = top c.self.inside.gathered.items c.self.inside.headers.items (opens c.self.inside.around.items c.self.inside.innermost) (opens c.pop_innermost-open.new.around.items c.pop_innermost-open.new.innermost) c.pop_innermost-open.result c.self.inside.list.start c.self.inside.list.first e c.self.invariant.1 in
    rw (← ap (λ x. x.last.octets) c.self.view_is, c.in-Ok.ensures.start.0, c.in-Ok.ensures.start.1) (close-appends c.self.inside.rule c.self.inside.gathered.items c.self.inside.headers.items (opens c.pop_innermost-open.new.around.items c.pop_innermost-open.new.innermost) c.pop_innermost-open.result c.self.inside.list.start c.self.inside.list.first t c.args.tag c.self.inside.list.measured c.self.invariant.0 c.close_value-closed.new.gathered.items c.close_value-closed.new.headers.items c.in-Ok.ensures.octets (opens c.self.inside.around.items c.self.inside.innermost) e v (ap (λ x. x.rule) c.self.view_is ∙ b.0) (ap (λ x. x.below) c.self.view_is ∙ b.1) (tags_of c.close_value-closed.new.value.list.tags) c.in-Ok.ensures.noted (search rules) (search rules))

pub returns-in-Err-closed-clause-err : goal.returns-in-Err-closed-clause-err
returns-in-Err-closed-clause-err c = λ v b.
    let e : (opens c.self.inside.around.items c.self.inside.innermost) ≡ (opens c.pop_innermost-open.new.around.items c.pop_innermost-open.new.innermost) ++ c.pop_innermost-open.result ∷ [] = c.pop_innermost-open.ensures.all in
    let t = top c.self.inside.gathered.items c.self.inside.headers.items (opens c.self.inside.around.items c.self.inside.innermost) (opens c.pop_innermost-open.new.around.items c.pop_innermost-open.new.innermost) c.pop_innermost-open.result c.self.inside.list.start c.self.inside.list.first e c.self.invariant.1 in
    rw (c.truncate.ensures.items, c.truncate-in-Err-closed.ensures.items, c.in-Err-closed.ensures.place.0, c.in-Err-closed.ensures.place.1, c.in-Err-closed.ensures.err.0, c.in-Err-closed.ensures.err.1, c.in-Err-closed.ensures.start.0, c.in-Err-closed.ensures.start.1, c.in-Err-closed.ensures.same.1) (cut-view c.self.inside.rule c.self.inside.gathered.items c.self.inside.headers.items (opens c.pop_innermost-open.new.around.items c.pop_innermost-open.new.innermost) c.pop_innermost-open.result c.self.inside.list.start c.self.inside.list.first t (opens c.self.inside.around.items c.self.inside.innermost) e v (ap (λ x. x.rule) c.self.view_is ∙ b.0) (ap (λ x. x.below) c.self.view_is ∙ b.1))

pub pop_innermost-open-requires : goal.pop_innermost-open-requires
pop_innermost-open-requires c = is_open c.self.inside.gathered.items c.self.inside.headers.items c.self.inside.around.items c.self.inside.innermost c.self.invariant.2 (rw (← c.self.view_is) at c.requires)
