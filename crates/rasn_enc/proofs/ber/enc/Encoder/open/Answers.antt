use Rattle.std.proofs.Common.{rules, ap, ◌∙◌, ◌≡◌, ◌++◌, ◌∷◌, [], length, append_assoc, Some, None, cond}
use Rattle.rasn_enc.specs.Buffer.Lists.{tags_of}
use Rattle.rasn_enc.specs.Buffer.OpenValues.{opens}
use Rattle.rasn_enc.specs.declared.ber.enc.writer.Open.{Open}
use Rattle.rasn_enc.proofs.Buffer.OpenValues.{begun, begun-sound, begun-chain}
use Rattle.rasn_enc.proofs.ber.enc.Encoder.open.Goals as goal

pub invariant_of-self-in-Ok : goal.invariant_of-self-in-Ok
invariant_of-self-in-Ok c =
    let o : Open = record { list = c.replace-list.result; end = c.len-end.result; last = c.len-last.result } in
    let e : c.push_reserved-in-Ok.new.self.items ≡ c.self.inside.gathered.items ++ 0 ∷ 0 ∷ [] = c.push_reserved-in-Ok.ensures.items ∙ (ap (λ l. l ++ 0 ∷ []) (c.push_reserved.ensures.items ∙ ap (λ l. l ++ 0 ∷ []) c.reserve.ensures.items) ∙ append_assoc c.self.inside.gathered.items (0 ∷ []) (0 ∷ [])) in
    let q : c.push_innermost.new.around.items ++ o ∷ [] ≡ (opens c.self.inside.around.items c.self.inside.innermost) ++ o ∷ [] = ap (λ l. l ++ o ∷ []) c.in-Ok.ensures.ok.0 in
    let n : c.len-end.result ≡ length c.self.inside.gathered.items = search rules in
    let m : c.len-last.result ≡ length c.self.inside.headers.items = search rules in
    let p : c.len.result ≡ length c.push_reserved-in-Ok.new.self.items = search rules in
    let start : c.replace-list.new.dest.start ≡ length c.push_reserved-in-Ok.new.self.items = ap (λ l. l.start) c.replace-list.ensures.after ∙ p in
    let first : c.replace-list.new.dest.first ≡ length c.self.inside.headers.items = ap (λ l. l.first) c.replace-list.ensures.after ∙ m in
    let measured : c.replace-list.new.dest.measured ≡ 0 = ap (λ l. l.measured) c.replace-list.ensures.after in
    rw (start, first, measured) (
      begun-sound c.self.inside.rule c.self.inside.gathered.items c.push_reserved-in-Ok.new.self.items c.self.inside.headers.items c.self.inside.list.start c.self.inside.list.first c.self.inside.list.measured (opens c.self.inside.around.items c.self.inside.innermost) o c.self.invariant.0 c.self.invariant.1 e (ap (λ l. l.start) c.replace-list.ensures.value) (ap (λ l. l.first) c.replace-list.ensures.value) n m (ap (λ l. l.measured) c.replace-list.ensures.value),
      begun-chain c.self.inside.rule c.self.inside.gathered.items c.push_reserved-in-Ok.new.self.items c.self.inside.headers.items c.self.inside.list.start c.self.inside.list.first c.self.inside.list.measured (opens c.self.inside.around.items c.self.inside.innermost) o c.self.invariant.0 c.self.invariant.1 e (ap (λ l. l.start) c.replace-list.ensures.value) (ap (λ l. l.first) c.replace-list.ensures.value) n m (ap (λ l. l.measured) c.replace-list.ensures.value) (c.push_innermost.new.around.items ++ o ∷ []) q,
      tt,
    )

pub returns-after-keeps_tags-clause-ok : goal.returns-after-keeps_tags-clause-ok
returns-after-keeps_tags-clause-ok c =
    let o : Open = record { list = c.replace-list.result; end = c.len-end.result; last = c.len-last.result } in
    let e : c.push_reserved-in-Ok.new.self.items ≡ c.self.inside.gathered.items ++ 0 ∷ 0 ∷ [] = c.push_reserved-in-Ok.ensures.items ∙ (ap (λ l. l ++ 0 ∷ []) (c.push_reserved.ensures.items ∙ ap (λ l. l ++ 0 ∷ []) c.reserve.ensures.items) ∙ append_assoc c.self.inside.gathered.items (0 ∷ []) (0 ∷ [])) in
    let q : c.push_innermost.new.around.items ++ o ∷ [] ≡ (opens c.self.inside.around.items c.self.inside.innermost) ++ o ∷ [] = ap (λ l. l ++ o ∷ []) c.in-Ok.ensures.ok.0 in
    let n : c.len-end.result ≡ length c.self.inside.gathered.items = search rules in
    let m : c.len-last.result ≡ length c.self.inside.headers.items = search rules in
    let p : c.len.result ≡ length c.push_reserved-in-Ok.new.self.items = search rules in
    let start : c.replace-list.new.dest.start ≡ length c.push_reserved-in-Ok.new.self.items = ap (λ l. l.start) c.replace-list.ensures.after ∙ p in
    let first : c.replace-list.new.dest.first ≡ length c.self.inside.headers.items = ap (λ l. l.first) c.replace-list.ensures.after ∙ m in
    let t : tags_of c.replace-list.result.tags ≡ tags_of c.self.inside.list.tags = ap (λ l. tags_of l.tags) c.replace-list.ensures.value in
    let u : tags_of c.replace-list.new.dest.tags ≡ cond c.args.keeps_tags (Some []) None = search rules in
    rw (← c.self.view_is, start, first) (begun c.self.inside.rule c.self.inside.gathered.items c.push_reserved-in-Ok.new.self.items c.self.inside.headers.items c.self.inside.list.start c.self.inside.list.first c.self.inside.list.measured (opens c.self.inside.around.items c.self.inside.innermost) o c.self.invariant.0 c.self.invariant.1 e (ap (λ l. l.start) c.replace-list.ensures.value) (ap (λ l. l.first) c.replace-list.ensures.value) n m (ap (λ l. l.measured) c.replace-list.ensures.value) (tags_of c.self.inside.list.tags) (tags_of c.replace-list.new.dest.tags) (c.push_innermost.new.around.items ++ o ∷ []) c.args.keeps_tags q t u)
