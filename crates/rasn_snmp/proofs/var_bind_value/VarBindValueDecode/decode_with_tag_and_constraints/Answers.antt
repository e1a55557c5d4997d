use Rattle.rasn_snmp.proofs.var_bind_value.VarBindValueDecode.decode_with_tag_and_constraints.Goals as goal
use Rattle.std.proofs.Common.{w8, w16, w32, w64}
use Rattle.std.proofs.lemmas.Int.{to_z-of_z}

pub returns-in-Ok-This-clause-reads : goal.returns-in-Ok-This-clause-reads
returns-in-Ok-This-clause-reads c =
    let a = c.in-Ok-This in
    let read = rw (a.is, a.field-0-is) at c.read_choice.ensures.reads in
    let held = rw (a.is, a.field-0-is) at c.read_choice.type_inv in
    rw (to_z-of_z w32 a.value (record { sfits = assumption held })) read

pub returns-in-Ok-Other-This-clause-reads : goal.returns-in-Ok-Other-This-clause-reads
returns-in-Ok-Other-This-clause-reads c =
    let a = c.in-Ok-Other-This in
    rw (a.is, a.field-0-is, a.field-0-0-is) at c.read_choice.ensures.reads

pub returns-in-Ok-Other-Other-This-clause-reads : goal.returns-in-Ok-Other-Other-This-clause-reads
returns-in-Ok-Other-Other-This-clause-reads c =
    let a = c.in-Ok-Other-Other-This in
    rw (a.is, a.field-0-is, a.field-0-0-is, a.field-0-0-0-is) at c.read_choice.ensures.reads

pub returns-in-Ok-Other-Other-Other-This-clause-reads : goal.returns-in-Ok-Other-Other-Other-This-clause-reads
returns-in-Ok-Other-Other-Other-This-clause-reads c =
    let a = c.in-Ok-Other-Other-Other-This in
    rw (a.is, a.field-0-is, a.field-0-0-is, a.field-0-0-0-is, a.field-0-0-0-0-is) at c.read_choice.ensures.reads

pub returns-in-Ok-Other-Other-Other-Other-This-clause-reads : goal.returns-in-Ok-Other-Other-Other-Other-This-clause-reads
returns-in-Ok-Other-Other-Other-Other-This-clause-reads c =
    let a = c.in-Ok-Other-Other-Other-Other-This in
    rw (a.is, a.field-0-is, a.field-0-0-is, a.field-0-0-0-is, a.field-0-0-0-0-is, a.field-0-0-0-0-0-is) at c.read_choice.ensures.reads

pub returns-in-Ok-Other-Other-Other-Other-Other-This-clause-reads : goal.returns-in-Ok-Other-Other-Other-Other-Other-This-clause-reads
returns-in-Ok-Other-Other-Other-Other-Other-This-clause-reads c =
    let a = c.in-Ok-Other-Other-Other-Other-Other-This in
    rw (a.is, a.field-0-is, a.field-0-0-is, a.field-0-0-0-is, a.field-0-0-0-0-is, a.field-0-0-0-0-0-is, a.field-0-0-0-0-0-0-is) at c.read_choice.ensures.reads

pub returns-in-Ok-Other-Other-Other-Other-Other-Other-This-clause-reads : goal.returns-in-Ok-Other-Other-Other-Other-Other-Other-This-clause-reads
returns-in-Ok-Other-Other-Other-Other-Other-Other-This-clause-reads c =
    let a = c.in-Ok-Other-Other-Other-Other-Other-Other-This in
    rw (a.is, a.field-0-is, a.field-0-0-is, a.field-0-0-0-is, a.field-0-0-0-0-is, a.field-0-0-0-0-0-is, a.field-0-0-0-0-0-0-is, a.field-0-0-0-0-0-0-0-is) at c.read_choice.ensures.reads

pub returns-in-Ok-Other-Other-Other-Other-Other-Other-Other-This-clause-reads : goal.returns-in-Ok-Other-Other-Other-Other-Other-Other-Other-This-clause-reads
returns-in-Ok-Other-Other-Other-Other-Other-Other-Other-This-clause-reads c =
    let a = c.in-Ok-Other-Other-Other-Other-Other-Other-Other-This in
    rw (a.is, a.field-0-is, a.field-0-0-is, a.field-0-0-0-is, a.field-0-0-0-0-is, a.field-0-0-0-0-0-is, a.field-0-0-0-0-0-0-is, a.field-0-0-0-0-0-0-0-is, a.field-0-0-0-0-0-0-0-0-is) at c.read_choice.ensures.reads

pub returns-in-Ok-Other-Other-Other-Other-Other-Other-Other-Other-This-clause-reads : goal.returns-in-Ok-Other-Other-Other-Other-Other-Other-Other-Other-This-clause-reads
returns-in-Ok-Other-Other-Other-Other-Other-Other-Other-Other-This-clause-reads c =
    let a = c.in-Ok-Other-Other-Other-Other-Other-Other-Other-Other-This in
    rw (a.is, a.field-0-is, a.field-0-0-is, a.field-0-0-0-is, a.field-0-0-0-0-is, a.field-0-0-0-0-0-is, a.field-0-0-0-0-0-0-is, a.field-0-0-0-0-0-0-0-is, a.field-0-0-0-0-0-0-0-0-is, a.field-0-0-0-0-0-0-0-0-0-is) at c.read_choice.ensures.reads

pub returns-in-Ok-Other-Other-Other-Other-Other-Other-Other-Other-Other-This-clause-reads : goal.returns-in-Ok-Other-Other-Other-Other-Other-Other-Other-Other-Other-This-clause-reads
returns-in-Ok-Other-Other-Other-Other-Other-Other-Other-Other-Other-This-clause-reads c =
    let a = c.in-Ok-Other-Other-Other-Other-Other-Other-Other-Other-Other-This in
    rw (a.is, a.field-0-is, a.field-0-0-is, a.field-0-0-0-is, a.field-0-0-0-0-is, a.field-0-0-0-0-0-is, a.field-0-0-0-0-0-0-is, a.field-0-0-0-0-0-0-0-is, a.field-0-0-0-0-0-0-0-0-is, a.field-0-0-0-0-0-0-0-0-0-is, a.field-0-0-0-0-0-0-0-0-0-0-is) at c.read_choice.ensures.reads

pub returns-in-Ok-Other-Other-Other-Other-Other-Other-Other-Other-Other-Other-This-clause-reads : goal.returns-in-Ok-Other-Other-Other-Other-Other-Other-Other-Other-Other-Other-This-clause-reads
returns-in-Ok-Other-Other-Other-Other-Other-Other-Other-Other-Other-Other-This-clause-reads c =
    let a = c.in-Ok-Other-Other-Other-Other-Other-Other-Other-Other-Other-Other-This in
    rw (a.is, a.field-0-is, a.field-0-0-is, a.field-0-0-0-is, a.field-0-0-0-0-is, a.field-0-0-0-0-0-is, a.field-0-0-0-0-0-0-is, a.field-0-0-0-0-0-0-0-is, a.field-0-0-0-0-0-0-0-0-is, a.field-0-0-0-0-0-0-0-0-0-is, a.field-0-0-0-0-0-0-0-0-0-0-is, a.field-0-0-0-0-0-0-0-0-0-0-0-is) at c.read_choice.ensures.reads

pub returns-in-Ok-Other-Other-Other-Other-Other-Other-Other-Other-Other-Other-Other-This-clause-reads : goal.returns-in-Ok-Other-Other-Other-Other-Other-Other-Other-Other-Other-Other-Other-This-clause-reads
returns-in-Ok-Other-Other-Other-Other-Other-Other-Other-Other-Other-Other-Other-This-clause-reads c =
    let a = c.in-Ok-Other-Other-Other-Other-Other-Other-Other-Other-Other-Other-Other-This in
    rw (a.is, a.field-0-is, a.field-0-0-is, a.field-0-0-0-is, a.field-0-0-0-0-is, a.field-0-0-0-0-0-is, a.field-0-0-0-0-0-0-is, a.field-0-0-0-0-0-0-0-is, a.field-0-0-0-0-0-0-0-0-is, a.field-0-0-0-0-0-0-0-0-0-is, a.field-0-0-0-0-0-0-0-0-0-0-is, a.field-0-0-0-0-0-0-0-0-0-0-0-is, a.field-0-0-0-0-0-0-0-0-0-0-0-0-is) at c.read_choice.ensures.reads

pub returns-in-Ok-Other-Other-Other-Other-Other-Other-Other-Other-Other-Other-Other-Other-clause-reads : goal.returns-in-Ok-Other-Other-Other-Other-Other-Other-Other-Other-Other-Other-Other-Other-clause-reads
returns-in-Ok-Other-Other-Other-Other-Other-Other-Other-Other-Other-Other-Other-Other-clause-reads c =
    let a = c.in-Ok-Other-Other-Other-Other-Other-Other-Other-Other-Other-Other-Other-Other in
    rw (a.is, a.field-0-is, a.field-0-0-is, a.field-0-0-0-is, a.field-0-0-0-0-is, a.field-0-0-0-0-0-is, a.field-0-0-0-0-0-0-is, a.field-0-0-0-0-0-0-0-is, a.field-0-0-0-0-0-0-0-0-is, a.field-0-0-0-0-0-0-0-0-0-is, a.field-0-0-0-0-0-0-0-0-0-0-is, a.field-0-0-0-0-0-0-0-0-0-0-0-is, a.field-0-0-0-0-0-0-0-0-0-0-0-0-is) at c.read_choice.ensures.reads
