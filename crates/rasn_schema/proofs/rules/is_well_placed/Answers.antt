use Rattle.rasn_schema.proofs.Follow.{placed_told}
use Rattle.rasn_schema.proofs.rules.is_well_placed.Goals as goal

pub returns-then-not-is_unknown_at : goal.returns-then-not-is_unknown_at
returns-then-not-is_unknown_at c = λ h. absurd (c.if-not-is_unknown_at.ensures.shape c.args.levels c.requires.levels h)

pub returns : goal.returns
returns c = placed_told _ _ c.may_be_unknown.result (c.if-not-is_unknown_at.ensures.shape c.args.levels c.requires.levels) c.may_be_unknown.ensures
