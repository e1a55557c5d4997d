use Rattle.rasn_schema_octets.proofs.node.NodeFormEncode.encode_with_tag_and_constraints.Goals as goal

pub returns-in-Boolean-clause-ok : goal.returns-in-Boolean-clause-ok
returns-in-Boolean-clause-ok c = rw c.in-Boolean.is c.write_choice.ensures.ok

pub returns-in-Boolean-clause-refused : goal.returns-in-Boolean-clause-refused
returns-in-Boolean-clause-refused c = rw c.in-Boolean.is c.write_choice.ensures.refused

pub returns-in-Null-clause-ok : goal.returns-in-Null-clause-ok
returns-in-Null-clause-ok c = rw c.in-Null.is c.write_choice-in-Null.ensures.ok

pub returns-in-Null-clause-refused : goal.returns-in-Null-clause-refused
returns-in-Null-clause-refused c = rw c.in-Null.is c.write_choice-in-Null.ensures.refused

pub returns-in-Integer-clause-ok : goal.returns-in-Integer-clause-ok
returns-in-Integer-clause-ok c = rw c.in-Integer.is c.write_choice-in-Integer.ensures.ok

pub returns-in-Integer-clause-refused : goal.returns-in-Integer-clause-refused
returns-in-Integer-clause-refused c = rw c.in-Integer.is c.write_choice-in-Integer.ensures.refused

pub returns-in-Bits-clause-ok : goal.returns-in-Bits-clause-ok
returns-in-Bits-clause-ok c = rw c.in-Bits.is c.write_choice-in-Bits.ensures.ok

pub returns-in-Bits-clause-refused : goal.returns-in-Bits-clause-refused
returns-in-Bits-clause-refused c = rw c.in-Bits.is c.write_choice-in-Bits.ensures.refused

pub returns-in-Octets-clause-ok : goal.returns-in-Octets-clause-ok
returns-in-Octets-clause-ok c = rw c.in-Octets.is c.write_choice-in-Octets.ensures.ok

pub returns-in-Octets-clause-refused : goal.returns-in-Octets-clause-refused
returns-in-Octets-clause-refused c = rw c.in-Octets.is c.write_choice-in-Octets.ensures.refused

pub returns-in-Text-clause-ok : goal.returns-in-Text-clause-ok
returns-in-Text-clause-ok c = rw c.in-Text.is c.write_choice-in-Text.ensures.ok

pub returns-in-Text-clause-refused : goal.returns-in-Text-clause-refused
returns-in-Text-clause-refused c = rw c.in-Text.is c.write_choice-in-Text.ensures.refused

pub returns-in-Units-clause-ok : goal.returns-in-Units-clause-ok
returns-in-Units-clause-ok c = rw c.in-Units.is c.write_choice-in-Units.ensures.ok

pub returns-in-Units-clause-refused : goal.returns-in-Units-clause-refused
returns-in-Units-clause-refused c = rw c.in-Units.is c.write_choice-in-Units.ensures.refused

pub returns-in-Arcs-clause-ok : goal.returns-in-Arcs-clause-ok
returns-in-Arcs-clause-ok c = rw c.in-Arcs.is c.write_choice-in-Arcs.ensures.ok

pub returns-in-Arcs-clause-refused : goal.returns-in-Arcs-clause-refused
returns-in-Arcs-clause-refused c = rw c.in-Arcs.is c.write_choice-in-Arcs.ensures.refused

pub returns-in-Instant-clause-ok : goal.returns-in-Instant-clause-ok
returns-in-Instant-clause-ok c = rw c.in-Instant.is c.write_choice-in-Instant.ensures.ok

pub returns-in-Instant-clause-refused : goal.returns-in-Instant-clause-refused
returns-in-Instant-clause-refused c = rw c.in-Instant.is c.write_choice-in-Instant.ensures.refused

pub returns-in-Day-clause-ok : goal.returns-in-Day-clause-ok
returns-in-Day-clause-ok c = rw c.in-Day.is c.write_choice-in-Day.ensures.ok

pub returns-in-Day-clause-refused : goal.returns-in-Day-clause-refused
returns-in-Day-clause-refused c = rw c.in-Day.is c.write_choice-in-Day.ensures.refused

pub returns-in-Items-clause-ok : goal.returns-in-Items-clause-ok
returns-in-Items-clause-ok c = rw c.in-Items.is c.write_choice-in-Items.ensures.ok

pub returns-in-Items-clause-refused : goal.returns-in-Items-clause-refused
returns-in-Items-clause-refused c = rw c.in-Items.is c.write_choice-in-Items.ensures.refused

pub returns-in-Elements-clause-ok : goal.returns-in-Elements-clause-ok
returns-in-Elements-clause-ok c = rw c.in-Elements.is c.write_choice-in-Elements.ensures.ok

pub returns-in-Elements-clause-refused : goal.returns-in-Elements-clause-refused
returns-in-Elements-clause-refused c = rw c.in-Elements.is c.write_choice-in-Elements.ensures.refused

pub returns-in-Chosen-clause-ok : goal.returns-in-Chosen-clause-ok
returns-in-Chosen-clause-ok c = rw c.in-Chosen.is c.write_choice-in-Chosen.ensures.ok

pub returns-in-Chosen-clause-refused : goal.returns-in-Chosen-clause-refused
returns-in-Chosen-clause-refused c = rw c.in-Chosen.is c.write_choice-in-Chosen.ensures.refused

pub returns-in-Absent-clause-ok : goal.returns-in-Absent-clause-ok
returns-in-Absent-clause-ok c = rw c.in-Absent.is c.write_choice-in-Absent.ensures.ok

pub returns-in-Absent-clause-refused : goal.returns-in-Absent-clause-refused
returns-in-Absent-clause-refused c = rw c.in-Absent.is c.write_choice-in-Absent.ensures.refused
