use Rattle.std.specs.Fn.{FnOnceReturnsAtMut}
use Rattle.rasn.proofs.OneRefusal.SequenceWith.{sequence_determined, sequence_with_apart, sequence_with_settles, sequence_with_grammar}
use Rattle.rasn.proofs.refusal_laws.sequence_with.Goals as goal

pub returns-clause-determined : goal.returns-clause-determined
returns-clause-determined g c = λ default f one tag. sequence_determined g.row.RC g.row.EC g.D.Constructed.IS_EXTENSIBLE g.D.Constructed.HAS_REQUIRED_FIELDS (goal.DF-post g) default (FnOnceReturnsAtMut g.F.FnOnce f) tag one

pub returns-clause-apart : goal.returns-clause-apart
returns-clause-apart g c = λ default f reads bare once tag.
    sequence_with_apart g.row.RC g.row.EC g.D.Constructed.IS_EXTENSIBLE g.D.Constructed.HAS_REQUIRED_FIELDS (goal.DF-post g) default (FnOnceReturnsAtMut g.F.FnOnce f) tag g.D.Constructed.parts g.D.Constructed.described g.D.AsnType.tree reads bare once

pub returns-clause-settled : goal.returns-clause-settled
returns-clause-settled g c = λ default f leaves can all tag.
    sequence_with_settles g.row.RC g.row.EC g.D.Constructed.IS_EXTENSIBLE g.D.Constructed.HAS_REQUIRED_FIELDS (goal.DF-post g) default (FnOnceReturnsAtMut g.F.FnOnce f) tag leaves can all

pub returns-clause-grammar : goal.returns-clause-grammar
returns-clause-grammar g c = λ default f reads bare can all tag.
    sequence_with_grammar g.row.RC g.row.EC g.D.Constructed.IS_EXTENSIBLE g.D.Constructed.HAS_REQUIRED_FIELDS (goal.DF-post g) default (FnOnceReturnsAtMut g.F.FnOnce f) tag g.D.Constructed.parts g.D.Constructed.described g.D.AsnType.tree reads bare can all
