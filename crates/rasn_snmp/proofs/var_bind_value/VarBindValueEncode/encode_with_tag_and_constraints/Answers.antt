use Rattle.rasn_snmp.proofs.var_bind_value.VarBindValueEncode.encode_with_tag_and_constraints.Goals as goal

pub returns-in-IntegerValue-clause-ok : goal.returns-in-IntegerValue-clause-ok
returns-in-IntegerValue-clause-ok c = rw c.in-IntegerValue.is c.write_choice.ensures.ok

pub returns-in-IntegerValue-clause-refused : goal.returns-in-IntegerValue-clause-refused
returns-in-IntegerValue-clause-refused c = rw c.in-IntegerValue.is c.write_choice.ensures.refused

pub returns-in-StringValue-clause-ok : goal.returns-in-StringValue-clause-ok
returns-in-StringValue-clause-ok c = rw c.in-StringValue.is c.write_choice-in-StringValue.ensures.ok

pub returns-in-StringValue-clause-refused : goal.returns-in-StringValue-clause-refused
returns-in-StringValue-clause-refused c = rw c.in-StringValue.is c.write_choice-in-StringValue.ensures.refused

pub returns-in-ObjectIdValue-clause-ok : goal.returns-in-ObjectIdValue-clause-ok
returns-in-ObjectIdValue-clause-ok c = rw c.in-ObjectIdValue.is c.write_choice-in-ObjectIdValue.ensures.ok

pub returns-in-ObjectIdValue-clause-refused : goal.returns-in-ObjectIdValue-clause-refused
returns-in-ObjectIdValue-clause-refused c = rw c.in-ObjectIdValue.is c.write_choice-in-ObjectIdValue.ensures.refused

pub returns-in-IpAddressValue-clause-ok : goal.returns-in-IpAddressValue-clause-ok
returns-in-IpAddressValue-clause-ok c = rw c.in-IpAddressValue.is c.write_choice-in-IpAddressValue.ensures.ok

pub returns-in-IpAddressValue-clause-refused : goal.returns-in-IpAddressValue-clause-refused
returns-in-IpAddressValue-clause-refused c = rw c.in-IpAddressValue.is c.write_choice-in-IpAddressValue.ensures.refused

pub returns-in-CounterValue-clause-ok : goal.returns-in-CounterValue-clause-ok
returns-in-CounterValue-clause-ok c = rw c.in-CounterValue.is c.write_choice-in-CounterValue.ensures.ok

pub returns-in-CounterValue-clause-refused : goal.returns-in-CounterValue-clause-refused
returns-in-CounterValue-clause-refused c = rw c.in-CounterValue.is c.write_choice-in-CounterValue.ensures.refused

pub returns-in-TimeticksValue-clause-ok : goal.returns-in-TimeticksValue-clause-ok
returns-in-TimeticksValue-clause-ok c = rw c.in-TimeticksValue.is c.write_choice-in-TimeticksValue.ensures.ok

pub returns-in-TimeticksValue-clause-refused : goal.returns-in-TimeticksValue-clause-refused
returns-in-TimeticksValue-clause-refused c = rw c.in-TimeticksValue.is c.write_choice-in-TimeticksValue.ensures.refused

pub returns-in-ArbitraryValue-clause-ok : goal.returns-in-ArbitraryValue-clause-ok
returns-in-ArbitraryValue-clause-ok c = rw c.in-ArbitraryValue.is c.write_choice-in-ArbitraryValue.ensures.ok

pub returns-in-ArbitraryValue-clause-refused : goal.returns-in-ArbitraryValue-clause-refused
returns-in-ArbitraryValue-clause-refused c = rw c.in-ArbitraryValue.is c.write_choice-in-ArbitraryValue.ensures.refused

pub returns-in-BigCounterValue-clause-ok : goal.returns-in-BigCounterValue-clause-ok
returns-in-BigCounterValue-clause-ok c = rw c.in-BigCounterValue.is c.write_choice-in-BigCounterValue.ensures.ok

pub returns-in-BigCounterValue-clause-refused : goal.returns-in-BigCounterValue-clause-refused
returns-in-BigCounterValue-clause-refused c = rw c.in-BigCounterValue.is c.write_choice-in-BigCounterValue.ensures.refused

pub returns-in-UnsignedIntegerValue-clause-ok : goal.returns-in-UnsignedIntegerValue-clause-ok
returns-in-UnsignedIntegerValue-clause-ok c = rw c.in-UnsignedIntegerValue.is c.write_choice-in-UnsignedIntegerValue.ensures.ok

pub returns-in-UnsignedIntegerValue-clause-refused : goal.returns-in-UnsignedIntegerValue-clause-refused
returns-in-UnsignedIntegerValue-clause-refused c = rw c.in-UnsignedIntegerValue.is c.write_choice-in-UnsignedIntegerValue.ensures.refused

pub returns-in-UnSpecified-clause-ok : goal.returns-in-UnSpecified-clause-ok
returns-in-UnSpecified-clause-ok c = rw c.in-UnSpecified.is c.write_choice-in-UnSpecified.ensures.ok

pub returns-in-UnSpecified-clause-refused : goal.returns-in-UnSpecified-clause-refused
returns-in-UnSpecified-clause-refused c = rw c.in-UnSpecified.is c.write_choice-in-UnSpecified.ensures.refused

pub returns-in-NoSuchObject-clause-ok : goal.returns-in-NoSuchObject-clause-ok
returns-in-NoSuchObject-clause-ok c = rw c.in-NoSuchObject.is c.write_choice-in-NoSuchObject.ensures.ok

pub returns-in-NoSuchObject-clause-refused : goal.returns-in-NoSuchObject-clause-refused
returns-in-NoSuchObject-clause-refused c = rw c.in-NoSuchObject.is c.write_choice-in-NoSuchObject.ensures.refused

pub returns-in-NoSuchInstance-clause-ok : goal.returns-in-NoSuchInstance-clause-ok
returns-in-NoSuchInstance-clause-ok c = rw c.in-NoSuchInstance.is c.write_choice-in-NoSuchInstance.ensures.ok

pub returns-in-NoSuchInstance-clause-refused : goal.returns-in-NoSuchInstance-clause-refused
returns-in-NoSuchInstance-clause-refused c = rw c.in-NoSuchInstance.is c.write_choice-in-NoSuchInstance.ensures.refused

pub returns-in-EndOfMibView-clause-ok : goal.returns-in-EndOfMibView-clause-ok
returns-in-EndOfMibView-clause-ok c = rw c.in-EndOfMibView.is c.write_choice-in-EndOfMibView.ensures.ok

pub returns-in-EndOfMibView-clause-refused : goal.returns-in-EndOfMibView-clause-refused
returns-in-EndOfMibView-clause-refused c = rw c.in-EndOfMibView.is c.write_choice-in-EndOfMibView.ensures.refused
