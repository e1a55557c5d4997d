use Rattle.rasn_schema.specs.Shapes.{alternatives_by}
use Rattle.rasn_schema.proofs.OpenEnds.{first_of_among, first_among}
use Rattle.rasn_schema.proofs.first_tags.type_first_tags.Goals as goal

pub returns-in-Any : goal.returns-in-Any
returns-in-Any c = λ f. rw c.in-Any.is (c.any_first_tags.ensures.tags f)

pub returns-in-Choice : goal.returns-in-Choice
returns-in-Choice c = λ f. rw (c.in-Choice.is, ← c.as_slice.ensures.value) (first_of_among (alternatives_by f c.as_slice.result.now), first_among (alternatives_by f c.as_slice.result.now))
