-- The result of a line.
use Rattle.std.specs.Prelude.{ℕ, List}
use Rattle.rasn_types.specs.Shapes.{Shape}
use Rattle.rasn_bench.specs.declared.line.ValueType.{ValueType}
use Rattle.rasn_bench.specs.declared.answer.Answer.TheVariants.{Malformed}
use Rattle.rasn_bench.specs.Answers.{IsAnswerBy}
use Rattle.rasn_schema_vectors.specs.declared.answers.SchemaAnswer.{SchemaAnswer}
use Rattle.rasn_schema_vectors.specs.declared.answers.SchemaAnswer.TheVariants.{Line, Row}

-- The answer to a line of rasn-vectors, whose types have these shapes; a row is no such line.
abbrev pub IsSchemaAnswer : (ValueType → Shape) → List ℕ → SchemaAnswer → Type 0
IsSchemaAnswer shape line (Line answer) = IsAnswerBy shape line answer
IsSchemaAnswer shape line (Row text) = IsAnswerBy shape line Malformed
