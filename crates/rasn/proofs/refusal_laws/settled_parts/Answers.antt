use Rattle.std.proofs.Common.{Some, refl}
use Rattle.rasn.proofs.OneRefusal.Settled.{no_parts_settle, required_settles, optional_settles, addition_settles}
use Rattle.rasn.proofs.refusal_laws.settled_parts.Goals as goal

pub returns-clause-none : goal.returns-clause-none
returns-clause-none g c = no_parts_settle (record {}) _ refl

pub returns-clause-required : goal.returns-clause-required
returns-clause-required g c = λ all rest.
    required_settles g.A.AsnType.shape g.R.DecodeParts.parts (g.A.Decode.errors g.A.AsnType.TAG g.A.AsnType.CONSTRAINTS) g.R.DecodeParts.errors g.A.AsnType.tree g.R.DecodeParts.tree rest _ (λ x r. (x, r)) (λ x r. refl) all

pub returns-clause-optional : goal.returns-clause-optional
returns-clause-optional g c = λ is all rest.
    optional_settles g.A.AsnType.shape g.R.DecodeParts.parts (g.A.Decode.errors g.A.AsnType.TAG g.A.AsnType.CONSTRAINTS) g.R.DecodeParts.errors g.A.AsnType.tree g.R.DecodeParts.tree rest _ (λ x r. (x, r)) (λ x r. refl) g.A.AsnType.TAG is all

pub returns-clause-addition : goal.returns-clause-addition
returns-clause-addition g c = λ all rest.
    addition_settles g.A.AsnType.shape g.R.DecodeParts.parts (g.A.Decode.errors g.A.AsnType.TAG g.A.AsnType.CONSTRAINTS) g.R.DecodeParts.errors g.A.AsnType.tree g.R.DecodeParts.tree rest _ (λ x r. (Some x, r)) (λ x r. refl) all
