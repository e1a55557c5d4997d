use Rattle.std.proofs.Common.{Ok, inl, inr, subst, arith}
use Rattle.rasn_types.specs.Grammar.{Reads, top}
use Rattle.rasn_de.specs.Outcomes.{Exact, Got}
use Rattle.rasn_de.proofs.Headers.Results.{octets_all}
use Rattle.rasn_schema.specs.Trees.{tree_of}
use Rattle.rasn_dynamic.specs.Entry.{shape_of}
use Rattle.rasn.specs.Headline.{AnsweredAlone}
use Rattle.rasn_de.proofs.Leaves.Returns.{residual}
use Rattle.rasn.proofs.ReadBack.Der.{as_written}
use Rattle.rasn_dynamic.proofs.entry.decode.Goals as goal

pub returns-clause-written : goal.returns-clause-written
returns-clause-written c = λ der.
    let s = shape_of c.args.schema.now.types.items c.args.id.0 in
    let value = c.in_ok-value.value in
    let alone = subst (λ r. Exact (Reads c.args.rule s 128 (top c.args.rule)) c.args.input.now (Got (tree_of value) r)) c.in_ok-refuse_remainder.ensures c.in_ok-value.ensures.exact in
    as_written s tree_of c.args.input.now (octets_all c.args.input.now (λ i. omega (arith, c.type_inv.input i))) (Ok value)
    (subst (λ k. AnsweredAlone k s tree_of c.args.input.now (Ok value)) der alone)

pub returns-in_err-value-clause-fails : goal.returns-in_err-value-clause-fails
returns-in_err-value-clause-fails c = rw (residual _ c.from_residual.ensures.1) (inl c.in_err-value.ensures.fails)

pub returns-in_err-refuse_remainder-clause-fails : goal.returns-in_err-refuse_remainder-clause-fails
returns-in_err-refuse_remainder-clause-fails c = rw (residual _ c.from_residual-in_err-refuse_remainder.ensures.1)
    (inr (record { t = tree_of c.in_ok-value.value; rest = c.in_ok-value.remainder.now; read = c.in_ok-value.ensures.exact; extra = c.in_err-refuse_remainder.ensures }))
