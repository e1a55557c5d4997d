use Rattle.rasn.proofs.Normalised.{if_ok, if_err}
use Rattle.rasn_dynamic.proofs.Canonical.{by_rules, after_reading}
use Rattle.rasn_dynamic.proofs.entry.convert.Goals as goal

pub returns-in-Ok-clause-normal : goal.returns-in-Ok-clause-normal
returns-in-Ok-clause-normal c = if_ok c.write_normal.result (λ octets h. h c.args.rule c.args.input.now c.in-Ok.ensures.exact) c.write_normal.ensures.normal

pub returns-in-Ok-clause-fails : goal.returns-in-Ok-clause-fails
returns-in-Ok-clause-fails c = if_err c.write_normal.result (λ e h. h c.args.rule c.args.input.now c.in-Ok.ensures.exact) c.write_normal.ensures.fails

pub returns-in-Ok-clause-rules : goal.returns-in-Ok-clause-rules
returns-in-Ok-clause-rules c = if_err c.write_normal.result (by_rules c.args.rule) c.write_normal.ensures.rules

pub returns-in-Ok-clause-errors : goal.returns-in-Ok-clause-errors
returns-in-Ok-clause-errors c = if_err c.write_normal.result (after_reading c.args.schema.now.types.items c.args.rule c.args.id.0 c.args.input.now) c.write_normal.ensures.rules
