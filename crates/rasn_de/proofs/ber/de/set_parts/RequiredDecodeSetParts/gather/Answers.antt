use Rattle.std.proofs.Common.{inl, inr, ◌≡◌, Some, subst, rules, ◌∙◌}
use Rattle.rasn_de.specs.Beyond.{got, BeyondSlot}
use Rattle.rasn_types.specs.Shapes.{required}
use Rattle.rasn_de.specs.SetPartTypes.{held_tree}
use Rattle.rasn_de.proofs.Leaves.Returns.{residual}
use Rattle.rasn_de.proofs.OwnTypes.SetPartTypes.{held_none, held_some, lacks_here, others_lack, gathered_some}
use Rattle.rasn_de.proofs.ber.de.set_parts.RequiredDecodeSetParts.gather.Goals as goal

pub returns-in_default-clause-makes : goal.returns-in_default-clause-makes
returns-in_default-clause-makes g c = lacks_here g.A.AsnType.shape g.R.DecodeSetParts.parts _ _ (g.R.DecodeSetParts.held c.args.slots.1) (held_tree g.A.AsnType.tree c.args.slots.0) (held_none g.A.AsnType.tree c.args.slots.0 (search rules)) _ c.first_name.ensures _ (search rules)

pub returns-in_err-rest-clause-makes : goal.returns-in_err-rest-clause-makes
returns-in_err-rest-clause-makes g c = rw (residual _ c.from_residual.ensures.1) (others_lack required g.A.AsnType.shape g.R.DecodeSetParts.parts _ _ c.other_names.ensures _ (g.R.DecodeSetParts.held c.args.slots.1) (held_tree g.A.AsnType.tree c.args.slots.0) (λ e. held_some g.A.AsnType.tree c.args.slots.0 (search rules)) _ c.in_err-rest.ensures.makes)

pub returns-in_default-clause-memory : goal.returns-in_default-clause-memory
returns-in_default-clause-memory g c = λ o. inl (tt, held_none g.A.AsnType.tree c.args.slots.0 (search rules))

pub returns-in_err-rest-clause-memory : goal.returns-in_err-rest-clause-memory
returns-in_err-rest-clause-memory g c = rw (residual _ c.from_residual.ensures.1) (λ o. inr (c.in_err-rest.ensures.memory o))

pub returns-clause-makes : goal.returns-clause-makes
returns-clause-makes g c = gathered_some g.R.DecodeSetParts.extensible required g.A.AsnType.shape g.R.DecodeSetParts.parts g.A.AsnType.tree c.args.slots.0 _ (g.R.DecodeSetParts.held c.args.slots.1) _ _ (search rules) c.in_ok-rest.ensures.makes

pub returns-in_default-clause-rules : goal.returns-in_default-clause-rules
returns-in_default-clause-rules g c = c.missing_field.ensures.0 ∙ c.codec.ensures

pub returns-clause-beyond : goal.returns-clause-beyond
returns-clause-beyond g c =
    let e : c.args.slots.0 ≡ Some c.in-Some.value = search rules in
    λ starts k. (subst (λ s. BeyondSlot (got (g.A.Decode.beyond g.A.AsnType.TAG)) starts s) e k.0, c.in_ok-rest.ensures.beyond starts k.1)
