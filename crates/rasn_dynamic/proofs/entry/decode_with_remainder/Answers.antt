use Rattle.std.proofs.Common.{Ok, refl, subst, arith}
use Rattle.rasn_de.proofs.Headers.Results.{octets_all}
use Rattle.rasn_schema.specs.Trees.{tree_of}
use Rattle.rasn.specs.Headline.{Answered}
use Rattle.rasn.proofs.ReadBack.Der.{consumes_written}
use Rattle.rasn_dynamic.specs.Entry.{shape_of}
use Rattle.rasn_dynamic.proofs.entry.decode_with_remainder.Goals as goal

pub returns-in-Err-clause-fails : goal.returns-in-Err-clause-fails
returns-in-Err-clause-fails c = (c.in-Err.refusal, refl, c.in-Err.ensures.located)

pub returns-in-Ok-clause-written : goal.returns-in-Ok-clause-written
returns-in-Ok-clause-written c = λ der.
    let s = shape_of c.args.schema.now.types.items c.args.id.0 in
    consumes_written s tree_of c.args.input.now (octets_all c.args.input.now (λ i. omega (arith, c.type_inv.input i))) (Ok c.in-Ok.read)
    (subst (λ k. Answered k s tree_of c.args.input.now (Ok c.in-Ok.read)) der c.in-Ok.ensures.exact)
