use Rattle.std.proofs.Common.{inl, inr, map, subst}
use Rattle.std.proofs.lemmas.Result.{err_from_is_err_and}
use Rattle.rasn_enc.proofs.Constructed.SequenceOf.{split_is, split_values, none_before, one_more_before, element_error}
use Rattle.rasn_enc.proofs.Constructed.SetOf.{SetOfSoFar, set_of_start, set_of_more, set_of_end, places_rise, place_within, none_left, fall_refused, set_of_element_refused}
use Rattle.rasn_enc.proofs.ber.enc.Encoder.append_in_order.Goals as goal

pub loop-rest-init : goal.loop-rest-init
loop-rest-init g c = (set_of_start g.E.AsnType.shape _ _ _ c.requires c.last_len-previous.ensures, none_before g.E.AsnType.tree c.args.values.now)

pub neighbours_out_of_order-requires-clause-order : goal.neighbours_out_of_order-requires-clause-order
neighbours_out_of_order-requires-clause-order g c = places_rise g.E.AsnType.shape _ _ _ _ _ _ _ _ _ c.loop-rest.invariant.0 (split_is g.E.AsnType.tree c.loop-rest.rest.now _ c.in-len1-up.len_at_least c.value-item.is) c.in_ok-encode.ensures.ok c.last_len-start.ensures

pub neighbours_out_of_order-requires-clause-within : goal.neighbours_out_of_order-requires-clause-within
neighbours_out_of_order-requires-clause-within g c = place_within g.E.AsnType.shape _ _ _ _ _ _ _ _ _ c.loop-rest.invariant.0 (split_is g.E.AsnType.tree c.loop-rest.rest.now _ c.in-len1-up.len_at_least c.value-item.is) c.in_ok-encode.ensures.ok c.last_len-start.ensures

pub loop-rest-preserved : goal.loop-rest-preserved
loop-rest-preserved g c = (
  set_of_more g.E.AsnType.shape _ _ _ _ _ _ _ _ _ c.loop-rest.invariant.0 (split_is g.E.AsnType.tree c.loop-rest.rest.now _ c.in-len1-up.len_at_least c.value-item.is) c.in_ok-encode.ensures.ok c.last_len-start.ensures c.if-neighbours_out_of_order.ensures,
  one_more_before g.E.AsnType.tree _ _ _ _ (split_values c.loop-rest.rest.now _ c.in-len1-up.len_at_least c.value-item.is) _ c.loop-rest.invariant.1,
)

pub returns-then-neighbours_out_of_order-clause-refused : goal.returns-then-neighbours_out_of_order-clause-refused
returns-then-neighbours_out_of_order-clause-refused g c = inr (fall_refused g.E.AsnType.shape _ _ _ _ _ _ _ _ _ c.loop-rest.invariant.0 (split_is g.E.AsnType.tree c.loop-rest.rest.now _ c.in-len1-up.len_at_least c.value-item.is) c.in_ok-encode.ensures.ok c.last_len-start.ensures c.if-neighbours_out_of_order.ensures _ _ c.codec.ensures c.out_of_order.ensures)

pub returns-in_err-encode-clause-refused : goal.returns-in_err-encode-clause-refused
returns-in_err-encode-clause-refused g c =
    let p = err_from_is_err_and c.from_residual.result c.from_residual.ensures.1 in
    rw (p.1, p.2) (inl (set_of_element_refused g.E.AsnType.shape _ _ _ _ _ _ _ c.loop-rest.invariant.0 (split_is g.E.AsnType.tree c.loop-rest.rest.now _ c.in-len1-up.len_at_least c.value-item.is) _ c.in_err-encode.ensures.refused))

pub returns-clause-ok : goal.returns-clause-ok
returns-clause-ok g c = set_of_end g.E.AsnType.shape _ _ _ c.loop-rest.previous
    (subst (λ l. SetOfSoFar g.E.AsnType.shape (map g.E.AsnType.tree c.args.values.now) l c.args.self.now c.loop-rest.self c.loop-rest.previous) (none_left g.E.AsnType.tree c.loop-rest.rest.now c.in_default.len_below) c.loop-rest.invariant.0)

pub returns-in_err-encode-clause-errors : goal.returns-in_err-encode-clause-errors
returns-in_err-encode-clause-errors g c =
    let p = err_from_is_err_and c.from_residual.result c.from_residual.ensures.1 in
    rw (p.1, p.2) (inr (element_error g.E.AsnType.tree _ _ _ _ (split_values c.loop-rest.rest.now _ c.in-len1-up.len_at_least c.value-item.is) g.E.AsnType.shape (g.E.Encode.errors g.E.AsnType.TAG g.E.AsnType.CONSTRAINTS) _ _ c.loop-rest.invariant.0.so_far c.loop-rest.invariant.1 _ c.in_err-encode.ensures.errors))
