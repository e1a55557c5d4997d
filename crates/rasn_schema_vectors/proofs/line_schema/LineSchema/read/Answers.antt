use Rattle.std.proofs.Common.{Ok, subst}
use Rattle.rasn_types.specs.Grammar.{Reads, top}
use Rattle.rasn_de.specs.Outcomes.{Exact}
use Rattle.rasn.specs.Headline.{remainder_of}
use Rattle.rasn_schema.specs.Trees.{tree_of}
use Rattle.rasn_dynamic.specs.Entry.{shape_of}
use Rattle.rasn_schema_vectors.specs.LineShapes.{LooksAhead}
use Rattle.rasn_schema_vectors.proofs.Lines.{there_exact, absent_exact, unseen_exact}
use Rattle.rasn_schema_vectors.proofs.line_schema.LineSchema.read.Goals as goal

pub returns-then-present-clause-exact : goal.returns-then-present-clause-exact
returns-then-present-clause-exact c =
    let types = c.args.self.now.schema.types.items in
    there_exact types c.args.rule c.args.input.now c.args.value_type (remainder_of tree_of c.decode_with_remainder.result)
    (subst (λ b. LooksAhead c.args.rule c.args.value_type c.args.input.now (Ok b)) c.if-present.true c.in-Ok.ensures)
    (subst (λ k. Exact (Reads c.args.rule (shape_of types k) 128 (top c.args.rule)) c.args.input.now (remainder_of tree_of c.decode_with_remainder.result)) c.type_id.ensures c.decode_with_remainder.ensures.exact)

pub returns-else-present-clause-exact : goal.returns-else-present-clause-exact
returns-else-present-clause-exact c =
    absent_exact c.args.self.now.schema.types.items c.args.rule c.args.input.now c.args.value_type
    (subst (λ b. LooksAhead c.args.rule c.args.value_type c.args.input.now (Ok b)) c.if-present.false c.in-Ok.ensures)

pub returns-in-Err-clause-exact : goal.returns-in-Err-clause-exact
returns-in-Err-clause-exact c = unseen_exact c.args.self.now.schema.types.items c.args.rule c.args.input.now c.args.value_type c.in-Err.error c.in-Err.ensures
