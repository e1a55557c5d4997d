use Rattle.rasn.proofs.Normalised.{if_ok, if_err}
use Rattle.rasn_schema_vectors.proofs.line_schema.LineSchema.normalised.Goals as goal

pub returns-in-Ok-clause-normal : goal.returns-in-Ok-clause-normal
returns-in-Ok-clause-normal c = if_ok c.write_normal.result (λ octets h. h c.args.rule c.args.input.now c.in-Ok.ensures.exact) c.write_normal.ensures.normal

pub returns-in-Ok-clause-fails : goal.returns-in-Ok-clause-fails
returns-in-Ok-clause-fails c = if_err c.write_normal.result (λ e h. h c.args.rule c.args.input.now c.in-Ok.ensures.exact) c.write_normal.ensures.fails
