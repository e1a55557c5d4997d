use Rattle.std.proofs.Common.{inl, inr}
use Rattle.rasn_types.specs.Shapes.{default}
use Rattle.rasn_de.specs.SetPartTypes.{held_tree}
use Rattle.rasn_de.proofs.Leaves.Returns.{residual}
use Rattle.rasn_de.proofs.OwnTypes.SetPartTypes.{held_none, others_lack, gathered_default}
use Rattle.rasn_de.specs.Beyond.{got}
use Rattle.rasn_de.proofs.Constructed.Beyond.{slot_or_default}
use Rattle.rasn_de.proofs.ber.de.set_parts.DefaultedDecodeSetParts.gather.Goals as goal

pub returns-in_err-value-clause-makes : goal.returns-in_err-value-clause-makes
returns-in_err-value-clause-makes g c = rw (residual _ c.from_residual.ensures.1) (inl c.in_err-value.ensures.made.0)

pub returns-in_err-rest-clause-makes : goal.returns-in_err-rest-clause-makes
returns-in_err-rest-clause-makes g c = rw (residual _ c.from_residual-in_err-rest.ensures.1) (others_lack (default g.V.DefaultValue.default_tree) g.V.Value.AsnType.shape g.R.DecodeSetParts.parts _ _ c.other_names.ensures _ (g.R.DecodeSetParts.held c.args.slots.1) (held_tree g.V.Value.AsnType.tree c.args.slots.0) (λ e. cc) _ c.in_err-rest.ensures.makes)

pub returns-in_err-value-clause-memory : goal.returns-in_err-value-clause-memory
returns-in_err-value-clause-memory g c =
    let h = held_none g.V.Value.AsnType.tree c.args.slots.0 c.in_err-value.ensures.made.1 in
    rw (residual _ c.from_residual.ensures.1) (λ o. inl (tt, h))

pub returns-in_err-rest-clause-memory : goal.returns-in_err-rest-clause-memory
returns-in_err-rest-clause-memory g c = rw (residual _ c.from_residual-in_err-rest.ensures.1) (λ o. inr (c.in_err-rest.ensures.memory o))

pub returns-clause-makes : goal.returns-clause-makes
returns-clause-makes g c = gathered_default g.R.DecodeSetParts.extensible g.V.Value.AsnType.shape g.R.DecodeSetParts.parts g.V.Value.AsnType.tree g.V.DefaultValue.default_tree c.args.slots.0 _ (g.R.DecodeSetParts.held c.args.slots.1) _ _ c.in_ok-value.ensures.made c.in_ok-rest.ensures.makes

pub returns-clause-beyond : goal.returns-clause-beyond
returns-clause-beyond g c = λ starts k. (slot_or_default (got (g.V.Value.Decode.beyond g.V.Value.AsnType.TAG)) g.V.Value.AsnType.tree g.V.DefaultValue.default_tree starts c.args.slots.0 _ c.in_ok-value.ensures.made k.0, c.in_ok-rest.ensures.beyond starts k.1)
