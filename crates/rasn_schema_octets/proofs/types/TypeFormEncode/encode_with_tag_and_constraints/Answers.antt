use Rattle.rasn_schema_octets.proofs.types.TypeFormEncode.encode_with_tag_and_constraints.Goals as goal

pub returns-in-Leaf-clause-ok : goal.returns-in-Leaf-clause-ok
returns-in-Leaf-clause-ok c = rw c.in-Leaf.is c.write_choice.ensures.ok

pub returns-in-Leaf-clause-refused : goal.returns-in-Leaf-clause-refused
returns-in-Leaf-clause-refused c = rw c.in-Leaf.is c.write_choice.ensures.refused

pub returns-in-Enumerated-clause-ok : goal.returns-in-Enumerated-clause-ok
returns-in-Enumerated-clause-ok c = rw c.in-Enumerated.is c.write_choice-in-Enumerated.ensures.ok

pub returns-in-Enumerated-clause-refused : goal.returns-in-Enumerated-clause-refused
returns-in-Enumerated-clause-refused c = rw c.in-Enumerated.is c.write_choice-in-Enumerated.ensures.refused

pub returns-in-Any-clause-ok : goal.returns-in-Any-clause-ok
returns-in-Any-clause-ok c = rw c.in-Any.is c.write_choice-in-Any.ensures.ok

pub returns-in-Any-clause-refused : goal.returns-in-Any-clause-refused
returns-in-Any-clause-refused c = rw c.in-Any.is c.write_choice-in-Any.ensures.refused

pub returns-in-Tagged-clause-ok : goal.returns-in-Tagged-clause-ok
returns-in-Tagged-clause-ok c = rw c.in-Tagged.is c.write_choice-in-Tagged.ensures.ok

pub returns-in-Tagged-clause-refused : goal.returns-in-Tagged-clause-refused
returns-in-Tagged-clause-refused c = rw c.in-Tagged.is c.write_choice-in-Tagged.ensures.refused

pub returns-in-Choice-clause-ok : goal.returns-in-Choice-clause-ok
returns-in-Choice-clause-ok c = rw c.in-Choice.is c.write_choice-in-Choice.ensures.ok

pub returns-in-Choice-clause-refused : goal.returns-in-Choice-clause-refused
returns-in-Choice-clause-refused c = rw c.in-Choice.is c.write_choice-in-Choice.ensures.refused

pub returns-in-Sequence-clause-ok : goal.returns-in-Sequence-clause-ok
returns-in-Sequence-clause-ok c = rw c.in-Sequence.is c.write_choice-in-Sequence.ensures.ok

pub returns-in-Sequence-clause-refused : goal.returns-in-Sequence-clause-refused
returns-in-Sequence-clause-refused c = rw c.in-Sequence.is c.write_choice-in-Sequence.ensures.refused

pub returns-in-Set-clause-ok : goal.returns-in-Set-clause-ok
returns-in-Set-clause-ok c = rw c.in-Set.is c.write_choice-in-Set.ensures.ok

pub returns-in-Set-clause-refused : goal.returns-in-Set-clause-refused
returns-in-Set-clause-refused c = rw c.in-Set.is c.write_choice-in-Set.ensures.refused

pub returns-in-SequenceOf-clause-ok : goal.returns-in-SequenceOf-clause-ok
returns-in-SequenceOf-clause-ok c = rw c.in-SequenceOf.is c.write_choice-in-SequenceOf.ensures.ok

pub returns-in-SequenceOf-clause-refused : goal.returns-in-SequenceOf-clause-refused
returns-in-SequenceOf-clause-refused c = rw c.in-SequenceOf.is c.write_choice-in-SequenceOf.ensures.refused

pub returns-in-SetOf-clause-ok : goal.returns-in-SetOf-clause-ok
returns-in-SetOf-clause-ok c = rw c.in-SetOf.is c.write_choice-in-SetOf.ensures.ok

pub returns-in-SetOf-clause-refused : goal.returns-in-SetOf-clause-refused
returns-in-SetOf-clause-refused c = rw c.in-SetOf.is c.write_choice-in-SetOf.ensures.refused

pub returns-in-Unknown-clause-ok : goal.returns-in-Unknown-clause-ok
returns-in-Unknown-clause-ok c = rw c.in-Unknown.is c.write_choice-in-Unknown.ensures.ok

pub returns-in-Unknown-clause-refused : goal.returns-in-Unknown-clause-refused
returns-in-Unknown-clause-refused c = rw c.in-Unknown.is c.write_choice-in-Unknown.ensures.refused
