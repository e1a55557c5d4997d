use Rattle.rasn_schema_octets.proofs.types.TypeFormDecode.decode_with_tag_and_constraints.Goals as goal

pub returns-in-Ok-This-clause-reads : goal.returns-in-Ok-This-clause-reads
returns-in-Ok-This-clause-reads c =
    let a = c.in-Ok-This in
    rw (a.is, a.field-0-is) at c.read_choice.ensures.reads

pub returns-in-Ok-Other-This-clause-reads : goal.returns-in-Ok-Other-This-clause-reads
returns-in-Ok-Other-This-clause-reads c =
    let a = c.in-Ok-Other-This in
    rw (a.is, a.field-0-is, a.field-0-0-is) at c.read_choice.ensures.reads

pub returns-in-Ok-Other-Other-This-clause-reads : goal.returns-in-Ok-Other-Other-This-clause-reads
returns-in-Ok-Other-Other-This-clause-reads c =
    let a = c.in-Ok-Other-Other-This in
    rw (a.is, a.field-0-is, a.field-0-0-is, a.field-0-0-0-is) at c.read_choice.ensures.reads

pub returns-in-Ok-Other-Other-Other-This-clause-reads : goal.returns-in-Ok-Other-Other-Other-This-clause-reads
returns-in-Ok-Other-Other-Other-This-clause-reads c =
    let a = c.in-Ok-Other-Other-Other-This in
    rw (a.is, a.field-0-is, a.field-0-0-is, a.field-0-0-0-is, a.field-0-0-0-0-is) at c.read_choice.ensures.reads

pub returns-in-Ok-Other-Other-Other-Other-This-clause-reads : goal.returns-in-Ok-Other-Other-Other-Other-This-clause-reads
returns-in-Ok-Other-Other-Other-Other-This-clause-reads c =
    let a = c.in-Ok-Other-Other-Other-Other-This in
    rw (a.is, a.field-0-is, a.field-0-0-is, a.field-0-0-0-is, a.field-0-0-0-0-is, a.field-0-0-0-0-0-is) at c.read_choice.ensures.reads

pub returns-in-Ok-Other-Other-Other-Other-Other-This-clause-reads : goal.returns-in-Ok-Other-Other-Other-Other-Other-This-clause-reads
returns-in-Ok-Other-Other-Other-Other-Other-This-clause-reads c =
    let a = c.in-Ok-Other-Other-Other-Other-Other-This in
    rw (a.is, a.field-0-is, a.field-0-0-is, a.field-0-0-0-is, a.field-0-0-0-0-is, a.field-0-0-0-0-0-is, a.field-0-0-0-0-0-0-is) at c.read_choice.ensures.reads

pub returns-in-Ok-Other-Other-Other-Other-Other-Other-This-clause-reads : goal.returns-in-Ok-Other-Other-Other-Other-Other-Other-This-clause-reads
returns-in-Ok-Other-Other-Other-Other-Other-Other-This-clause-reads c =
    let a = c.in-Ok-Other-Other-Other-Other-Other-Other-This in
    rw (a.is, a.field-0-is, a.field-0-0-is, a.field-0-0-0-is, a.field-0-0-0-0-is, a.field-0-0-0-0-0-is, a.field-0-0-0-0-0-0-is, a.field-0-0-0-0-0-0-0-is) at c.read_choice.ensures.reads

pub returns-in-Ok-Other-Other-Other-Other-Other-Other-Other-This-clause-reads : goal.returns-in-Ok-Other-Other-Other-Other-Other-Other-Other-This-clause-reads
returns-in-Ok-Other-Other-Other-Other-Other-Other-Other-This-clause-reads c =
    let a = c.in-Ok-Other-Other-Other-Other-Other-Other-Other-This in
    rw (a.is, a.field-0-is, a.field-0-0-is, a.field-0-0-0-is, a.field-0-0-0-0-is, a.field-0-0-0-0-0-is, a.field-0-0-0-0-0-0-is, a.field-0-0-0-0-0-0-0-is, a.field-0-0-0-0-0-0-0-0-is) at c.read_choice.ensures.reads

pub returns-in-Ok-Other-Other-Other-Other-Other-Other-Other-Other-This-clause-reads : goal.returns-in-Ok-Other-Other-Other-Other-Other-Other-Other-Other-This-clause-reads
returns-in-Ok-Other-Other-Other-Other-Other-Other-Other-Other-This-clause-reads c =
    let a = c.in-Ok-Other-Other-Other-Other-Other-Other-Other-Other-This in
    rw (a.is, a.field-0-is, a.field-0-0-is, a.field-0-0-0-is, a.field-0-0-0-0-is, a.field-0-0-0-0-0-is, a.field-0-0-0-0-0-0-is, a.field-0-0-0-0-0-0-0-is, a.field-0-0-0-0-0-0-0-0-is, a.field-0-0-0-0-0-0-0-0-0-is) at c.read_choice.ensures.reads

pub returns-in-Ok-Other-Other-Other-Other-Other-Other-Other-Other-Other-clause-reads : goal.returns-in-Ok-Other-Other-Other-Other-Other-Other-Other-Other-Other-clause-reads
returns-in-Ok-Other-Other-Other-Other-Other-Other-Other-Other-Other-clause-reads c =
    let a = c.in-Ok-Other-Other-Other-Other-Other-Other-Other-Other-Other in
    rw (a.is, a.field-0-is, a.field-0-0-is, a.field-0-0-0-is, a.field-0-0-0-0-is, a.field-0-0-0-0-0-is, a.field-0-0-0-0-0-0-is, a.field-0-0-0-0-0-0-0-is, a.field-0-0-0-0-0-0-0-0-is, a.field-0-0-0-0-0-0-0-0-0-is) at c.read_choice.ensures.reads
