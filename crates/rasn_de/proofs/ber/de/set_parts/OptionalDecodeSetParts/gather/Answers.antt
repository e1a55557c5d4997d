use Rattle.std.proofs.Common.{inr}
use Rattle.rasn_types.specs.Shapes.{optional}
use Rattle.rasn_de.specs.SetPartTypes.{held_tree}
use Rattle.rasn_de.proofs.Leaves.Returns.{residual}
use Rattle.rasn_de.proofs.OwnTypes.SetPartTypes.{others_lack, gathered_optional}
use Rattle.rasn_de.proofs.ber.de.set_parts.OptionalDecodeSetParts.gather.Goals as goal

pub returns-in_err-rest-clause-makes : goal.returns-in_err-rest-clause-makes
returns-in_err-rest-clause-makes g c = rw (residual _ c.from_residual.ensures.1) (others_lack optional g.A.AsnType.shape g.R.DecodeSetParts.parts _ _ c.other_names.ensures _ (g.R.DecodeSetParts.held c.args.slots.1) (held_tree g.A.AsnType.tree c.args.slots.0) (λ e. cc) _ c.in_err-rest.ensures.makes)

pub returns-in_err-rest-clause-memory : goal.returns-in_err-rest-clause-memory
returns-in_err-rest-clause-memory g c = rw (residual _ c.from_residual.ensures.1) (λ o. inr (c.in_err-rest.ensures.memory o))

pub returns-clause-makes : goal.returns-clause-makes
returns-clause-makes g c = gathered_optional g.R.DecodeSetParts.extensible g.A.AsnType.shape g.R.DecodeSetParts.parts g.A.AsnType.tree c.args.slots.0 (g.R.DecodeSetParts.held c.args.slots.1) _ _ c.in_ok-rest.ensures.makes

pub returns-clause-beyond : goal.returns-clause-beyond
returns-clause-beyond g c = λ starts k. (k.0, c.in_ok-rest.ensures.beyond starts k.1)
