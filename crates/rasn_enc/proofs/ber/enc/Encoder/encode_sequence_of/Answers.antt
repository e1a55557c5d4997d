use Rattle.std.proofs.Common.{◌≤◌, map, sym, subst, inl, rules}
use Rattle.std.proofs.lemmas.List.{length-map}
use Rattle.std.proofs.lemmas.Result.{err_from_is_err_and}
use Rattle.rasn_types.specs.Shapes.{Admits}
use Rattle.rasn_enc.specs.SequenceOf.{FailsAtList}
use Rattle.rasn_enc.proofs.Constructed.SequenceOf.{list_ok, list_named, list_may_refuse, list_refused}
use Rattle.rasn_enc.proofs.ber.enc.Encoder.encode_sequence_of.Goals as goal

pub returns-in_err-check_size-clause-refused : goal.returns-in_err-check_size-clause-refused
returns-in_err-check_size-clause-refused g c = let p = err_from_is_err_and c.from_residual.result c.from_residual.ensures.1 in rw (p.1, p.2)
    (list_refused g.E.AsnType.shape (map g.E.AsnType.tree c.args.values.now) c.args.tag c.args.constraints.now c.args.self.now _
    (subst (λ n. FailsAtList g.E.AsnType.shape (map g.E.AsnType.tree c.args.values.now) n c.args.constraints.now c.args.self.now.rule c.in_err-check_size.field-0.0)
    (sym (length-map c.args.values.now g.E.AsnType.tree)) (inl c.in_err-check_size.ensures.fails)))

pub returns-clause-ok : goal.returns-clause-ok
returns-clause-ok g c = list_ok _ _ g.E.AsnType.shape (map g.E.AsnType.tree c.args.values.now) c.args.tag c.args.constraints.now.size c.args.self.now _ _
    (subst (λ n. Admits ◌≤◌ c.args.constraints.now.size n) (sym (length-map c.args.values.now g.E.AsnType.tree)) c.in_ok-check_size.ensures.ok) c.enclose.ensures.ok (λ u k. search rules)

pub returns-clause-named : goal.returns-clause-named
returns-clause-named g c = list_named _ _ g.E.AsnType.shape (map g.E.AsnType.tree c.args.values.now) c.args.constraints.now _ c.args.self.now _ c.in_ok-check_size.ensures.ok c.enclose.ensures.refused (λ e u k. search rules)

pub returns-clause-refused : goal.returns-clause-refused
returns-clause-refused g c = list_may_refuse g.E.AsnType.shape (map g.E.AsnType.tree c.args.values.now) c.args.tag c.args.constraints.now _ c.args.self.now _
    (sym (length-map c.args.values.now g.E.AsnType.tree))
    (list_named _ _ g.E.AsnType.shape (map g.E.AsnType.tree c.args.values.now) c.args.constraints.now _ c.args.self.now _ c.in_ok-check_size.ensures.ok c.enclose.ensures.refused (λ e u k. search rules))
