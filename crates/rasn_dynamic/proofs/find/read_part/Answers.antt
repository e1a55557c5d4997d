use Rattle.std.proofs.Common.{arith, ◌++◌, length, refl, sym, ap, ◌∙◌}
use Rattle.rasn_dynamic.proofs.find.read_part.Goals as goal

pub overflow_sub-result : goal.overflow_sub-result
overflow_sub-result c = let e = ap length c.remaining-start.ensures.value in omega (arith, e, c.requires.seen)

pub octets_before-octets-requires : goal.octets_before-octets-requires
octets_before-octets-requires c = rw (c.remaining-start.ensures.value, c.remaining.ensures.value) c.in-Ok.ensures.reads.2.end

pub returns-in-Ok-clause-read : goal.returns-in-Ok-clause-read
returns-in-Ok-clause-read c = record {
  tree = c.in-Ok.ensures.reads.0;
  rest = _;
  is = sym c.remaining-start.ensures.value ∙ c.octets_before-octets.ensures ∙ ap (λ l. c.octets_before-octets.result.now ++ l) c.remaining.ensures.value;
  reads = c.in-Ok.ensures.reads.2.exact;
  header = c.in_ok-header_len-in-Ok.ensures;
}

pub returns-in-Ok-clause-at : goal.returns-in-Ok-clause-at
returns-in-Ok-clause-at c = (refl, (let e = ap length c.remaining-start.ensures.value in omega (arith, e, c.requires.seen)))
