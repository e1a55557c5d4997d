use Rattle.rasn_schema.proofs.Follow.{placed_told}
use Rattle.rasn_schema.proofs.rules.is_tagged_or_unknown.Goals as goal

pub returns-then-is_unknown_at : goal.returns-then-is_unknown_at
returns-then-is_unknown_at c = λ n. absurd (n (c.if-is_unknown_at.ensures.shape c.args.levels c.requires))

pub returns : goal.returns
returns c = placed_told _ _ c.has_tag.result (c.if-is_unknown_at.ensures.shape c.args.levels c.requires) c.has_tag.ensures
