use Rattle.rasn.proofs.OneRefusal.SetWith.{set_determined, set_with_apart, set_with_settles, set_with_grammar}
use Rattle.rasn.proofs.refusal_laws.set_with.Goals as goal

pub returns-clause-determined : goal.returns-clause-determined
returns-clause-determined g c = λ extensible ps is once f one tag.
    set_determined g.FIELDS.AsnType.shape g.FIELDS.AsnType.tree (g.FIELDS.Decode.errors g.FIELDS.AsnType.TAG g.FIELDS.AsnType.CONSTRAINTS) (goal.F-post g f) tag extensible ps is once one

pub returns-clause-apart : goal.returns-clause-apart
returns-clause-apart g c = λ is once f makes one tag.
    set_with_apart g.FIELDS.AsnType.shape g.FIELDS.AsnType.tree (g.FIELDS.Decode.errors g.FIELDS.AsnType.TAG g.FIELDS.AsnType.CONSTRAINTS) (goal.F-post g f) tag g.SET.Constructed.parts is g.SET.AsnType.tree makes once one

pub returns-clause-settled : goal.returns-clause-settled
returns-clause-settled g c = λ all f always tag.
    set_with_settles g.FIELDS.AsnType.shape g.FIELDS.AsnType.tree (g.FIELDS.Decode.errors g.FIELDS.AsnType.TAG g.FIELDS.AsnType.CONSTRAINTS) (goal.F-post g f) tag always all

pub returns-clause-grammar : goal.returns-clause-grammar
returns-clause-grammar g c = λ is all f makes always tag.
    set_with_grammar g.FIELDS.AsnType.shape g.FIELDS.AsnType.tree (g.FIELDS.Decode.errors g.FIELDS.AsnType.TAG g.FIELDS.AsnType.CONSTRAINTS) (goal.F-post g f) tag g.SET.Constructed.parts is g.SET.AsnType.tree makes always all
