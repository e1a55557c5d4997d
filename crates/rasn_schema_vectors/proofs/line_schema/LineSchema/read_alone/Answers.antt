use Rattle.std.proofs.Common.{inr}
use Rattle.rasn_schema.specs.Trees.{tree_of}
use Rattle.rasn_schema_vectors.proofs.line_schema.LineSchema.read_alone.Goals as goal

pub returns-in-Ok-clause-exact : goal.returns-in-Ok-clause-exact
returns-in-Ok-clause-exact c = inr (record { t = tree_of c.in-Ok.value; rest = c.in-Ok.remainder.now; read = c.in-Ok.ensures.exact; extra = c.in-Err-refuse_remainder.ensures })
