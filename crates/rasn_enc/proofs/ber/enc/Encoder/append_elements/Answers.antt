use Rattle.std.proofs.Common.{map, subst}
use Rattle.std.proofs.lemmas.Result.{err_from_is_err_and}
use Rattle.rasn_enc.proofs.Constructed.SequenceOf.{ElementsSoFar, split_is, split_values, elements_start, elements_more, element_refused, elements_end, none_before, one_more_before, element_error}
use Rattle.rasn_enc.proofs.Constructed.SetOf.{none_left}
use Rattle.rasn_enc.proofs.ber.enc.Encoder.append_elements.Goals as goal

pub loop-rest-init : goal.loop-rest-init
loop-rest-init g c = (elements_start g.E.AsnType.shape _ _ c.requires, none_before g.E.AsnType.tree c.args.values.now)

pub loop-rest-preserved : goal.loop-rest-preserved
loop-rest-preserved g c = (
  elements_more g.E.AsnType.shape _ _ _ _ _ _ c.loop-rest.invariant.0 (split_is g.E.AsnType.tree c.loop-rest.rest.now _ c.in-len1-up.len_at_least c.value-item.is) _ c.in_ok-encode.ensures.ok,
  one_more_before g.E.AsnType.tree _ _ _ _ (split_values c.loop-rest.rest.now _ c.in-len1-up.len_at_least c.value-item.is) _ c.loop-rest.invariant.1,
)

pub returns-in_err-encode-clause-refused : goal.returns-in_err-encode-clause-refused
returns-in_err-encode-clause-refused g c =
    let p = err_from_is_err_and c.from_residual.result c.from_residual.ensures.1 in
    rw (p.1, p.2) (element_refused g.E.AsnType.shape _ _ _ _ _ _ c.loop-rest.invariant.0 (split_is g.E.AsnType.tree c.loop-rest.rest.now _ c.in-len1-up.len_at_least c.value-item.is) _ c.in_err-encode.ensures.refused)

pub returns-in_err-encode-clause-errors : goal.returns-in_err-encode-clause-errors
returns-in_err-encode-clause-errors g c =
    let p = err_from_is_err_and c.from_residual.result c.from_residual.ensures.1 in
    rw (p.1, p.2) (element_error g.E.AsnType.tree _ _ _ _ (split_values c.loop-rest.rest.now _ c.in-len1-up.len_at_least c.value-item.is) g.E.AsnType.shape (g.E.Encode.errors g.E.AsnType.TAG g.E.AsnType.CONSTRAINTS) _ _ c.loop-rest.invariant.0 c.loop-rest.invariant.1 _ c.in_err-encode.ensures.errors)

pub returns-clause-ok : goal.returns-clause-ok
returns-clause-ok g c = elements_end g.E.AsnType.shape _ _ _
    (subst (λ l. ElementsSoFar g.E.AsnType.shape (map g.E.AsnType.tree c.args.values.now) l c.args.self.now c.loop-rest.self) (none_left g.E.AsnType.tree c.loop-rest.rest.now c.in_default.len_below) c.loop-rest.invariant.0)
