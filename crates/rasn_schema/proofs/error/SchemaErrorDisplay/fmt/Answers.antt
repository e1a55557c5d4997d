use Rattle.rasn_schema.proofs.error.SchemaErrorDisplay.fmt.Goals as goal

pub returns-in-AlternativesClash-clause-writes : goal.returns-in-AlternativesClash-clause-writes
returns-in-AlternativesClash-clause-writes g c = rw c.in-AlternativesClash.is c.write_both-in-AlternativesClash.ensures

pub returns-in-ComponentsClash-clause-writes : goal.returns-in-ComponentsClash-clause-writes
returns-in-ComponentsClash-clause-writes g c = rw c.in-ComponentsClash.is c.write_both-in-ComponentsClash.ensures

pub returns-in-UntaggedComponent-clause-writes : goal.returns-in-UntaggedComponent-clause-writes
returns-in-UntaggedComponent-clause-writes g c = rw c.in-UntaggedComponent.is c.write_one-in-UntaggedComponent.ensures

pub returns-in-UntaggedInSet-clause-writes : goal.returns-in-UntaggedInSet-clause-writes
returns-in-UntaggedInSet-clause-writes g c = rw c.in-UntaggedInSet.is c.write_one-in-UntaggedInSet.ensures

pub returns-in-SetClash-clause-writes : goal.returns-in-SetClash-clause-writes
returns-in-SetClash-clause-writes g c = rw c.in-SetClash.is c.write_both-in-SetClash.ensures

pub returns-in-UnfitDefault-clause-writes : goal.returns-in-UnfitDefault-clause-writes
returns-in-UnfitDefault-clause-writes g c = rw c.in-UnfitDefault.is c.write_one-in-UnfitDefault.ensures
