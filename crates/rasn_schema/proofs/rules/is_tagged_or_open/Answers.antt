use Rattle.rasn_schema.proofs.Follow.{placed_told}
use Rattle.rasn_schema.proofs.rules.is_tagged_or_open.Goals as goal

pub returns-then-has_tag : goal.returns-then-has_tag
returns-then-has_tag c = λ n. absurd (n c.if-has_tag.ensures)

pub returns : goal.returns
returns c = placed_told _ _ c.is_open_end.result c.if-has_tag.ensures c.is_open_end.ensures
