use Rattle.std.proofs.Common.{inl, refl, Err}
use Rattle.rasn_schema.specs.Trees.{tree_of}
use Rattle.rasn_dynamic.specs.Entry.{shape_of}
use Rattle.rasn_dynamic.specs.Refusals.{FailsSomewhere}
use Rattle.rasn_dynamic.proofs.Checked.{checked, followed, agrees}
use Rattle.rasn_dynamic.proofs.entry.check.Goals as goal

pub returns-in-Ok-clause-exact : goal.returns-in-Ok-clause-exact
returns-in-Ok-clause-exact c = checked c.args.rule (shape_of c.args.schema.now.types.items c.args.id.0) c.args.input.now c.in-Ok.rest c.in-Ok.ensures.exact c.refuse_remainder.result c.refuse_remainder.ensures

pub returns-in-Err-clause-exact : goal.returns-in-Err-clause-exact
returns-in-Err-clause-exact c = inl c.in-Err.ensures.exact

pub returns-in-Ok-clause-agrees : goal.returns-in-Ok-clause-agrees
returns-in-Ok-clause-agrees c = agrees c.args.rule (shape_of c.args.schema.now.types.items c.args.id.0) tree_of c.args.input.now c.refuse_remainder.result (returns-in-Ok-clause-exact c)

pub returns-in-Err-clause-agrees : goal.returns-in-Err-clause-agrees
returns-in-Err-clause-agrees c = agrees c.args.rule (shape_of c.args.schema.now.types.items c.args.id.0) tree_of c.args.input.now (Err c.in-Err.refusal.error) (returns-in-Err-clause-exact c)

pub returns-in-Ok-clause-fails : goal.returns-in-Ok-clause-fails
returns-in-Ok-clause-fails c =
    followed (FailsSomewhere c.args.schema.now.types.items c.args.rule c.args.id.0 c.args.input.now) c.args.rule (shape_of c.args.schema.now.types.items c.args.id.0) c.args.input.now c.in-Ok.rest c.in-Ok.ensures.exact c.refuse_remainder.result c.refuse_remainder.ensures

pub returns-in-Err-clause-fails : goal.returns-in-Err-clause-fails
returns-in-Err-clause-fails c = inl (c.in-Err.refusal, refl, c.in-Err.ensures.located)
