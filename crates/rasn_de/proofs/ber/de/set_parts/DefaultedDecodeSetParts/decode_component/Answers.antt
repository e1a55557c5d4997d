use Rattle.std.proofs.Common.{◌≡◌, ◌&&◌, rules, ◌∙◌, inl}
use Rattle.std.specs.Prelude.{IfOk}
use Rattle.rasn_types.specs.Shapes.{default}
use Rattle.rasn_de.specs.ValueErrors.{errors_of, DecodesOr}
use Rattle.rasn_de.specs.Optional.{DecodesOrDefault}
use Rattle.rasn_de.specs.PartTypes.{is_looked_for}
use Rattle.rasn_de.proofs.Leaves.Returns.{residual}
use Rattle.rasn_de.proofs.OwnTypes.Parts.{default_part, default_fails, own_default_fails}
use Rattle.rasn_de.proofs.OwnTypes.PartTypes.{first_agrees, others_agree}
use Rattle.rasn_de.proofs.OwnTypes.AlternativeTypes.{first_has, others_have_not, others_differ, own_tag, other_tag}
use Rattle.rasn_de.proofs.OwnTypes.Tags.{tag_is}
use Rattle.rasn_de.proofs.OwnTypes.SetPartTypes.{placed_here, placed_refused, placed_other, first_fails, others_fail}
use Rattle.rasn_de.specs.Beyond.{got, BeyondSlot}
use Rattle.rasn_de.proofs.Constructed.Beyond.{slot_placed, default_read, ok_also}
use Rattle.rasn_de.proofs.Constructed.ValueErrors.{other_errors, default_failed}
use Rattle.rasn_de.proofs.ber.de.set_parts.DefaultedDecodeSetParts.decode_component.Goals as goal

pub decode_component-requires-clause-differ : goal.decode_component-requires-clause-differ
decode_component-requires-clause-differ g c = others_agree g.V.Value.AsnType.shape g.V.Value.AsnType.TAG g.R.DecodeSetParts.tags_differ (others_differ g.V.Value.AsnType.shape g.V.Value.AsnType.TAG g.R.DecodeSetParts.parts (is_looked_for g.V.Value.AsnType.shape g.V.Value.AsnType.TAG && g.R.DecodeSetParts.tags_differ) c.requires.differ)

pub returns-in_err-value-clause-reads : goal.returns-in_err-value-clause-reads
returns-in_err-value-clause-reads g c =
    let own = first_has g.V.Value.AsnType.shape g.V.Value.AsnType.TAG g.R.DecodeSetParts.parts (is_looked_for g.V.Value.AsnType.shape g.V.Value.AsnType.TAG && g.R.DecodeSetParts.tags_differ) c.requires.differ in
    let others = others_have_not g.V.Value.AsnType.shape g.V.Value.AsnType.TAG g.R.DecodeSetParts.parts (is_looked_for g.V.Value.AsnType.shape g.V.Value.AsnType.TAG && g.R.DecodeSetParts.tags_differ) c.requires.differ in
    let h : c.args.tag ≡ g.V.Value.AsnType.TAG = tag_is c.args.tag c.TAG.result c.if-eq.ensures ∙ c.TAG.ensures in
    rw (residual _ c.from_residual.ensures.1) (placed_refused g.R.DecodeSetParts.extensible (default g.V.DefaultValue.default_tree) g.V.Value.AsnType.shape g.R.DecodeSetParts.parts c.args.tag g.V.Value.AsnType.TAG h own others _ _ c.requires.next _ (default_part g.V.Value.AsnType.TAG _ _ (first_agrees g.V.Value.AsnType.shape g.V.Value.AsnType.TAG g.R.DecodeSetParts.tags_differ (others_differ g.V.Value.AsnType.shape g.V.Value.AsnType.TAG g.R.DecodeSetParts.parts (is_looked_for g.V.Value.AsnType.shape g.V.Value.AsnType.TAG && g.R.DecodeSetParts.tags_differ) c.requires.differ)) (c.in_err-value.ensures.reads g.V.DefaultValue.default_tree (λ v h. h))))

pub returns-then-eq-clause-reads : goal.returns-then-eq-clause-reads
returns-then-eq-clause-reads g c =
    let own = first_has g.V.Value.AsnType.shape g.V.Value.AsnType.TAG g.R.DecodeSetParts.parts (is_looked_for g.V.Value.AsnType.shape g.V.Value.AsnType.TAG && g.R.DecodeSetParts.tags_differ) c.requires.differ in
    let others = others_have_not g.V.Value.AsnType.shape g.V.Value.AsnType.TAG g.R.DecodeSetParts.parts (is_looked_for g.V.Value.AsnType.shape g.V.Value.AsnType.TAG && g.R.DecodeSetParts.tags_differ) c.requires.differ in
    let h : c.args.tag ≡ g.V.Value.AsnType.TAG = search rules in
    placed_here g.R.DecodeSetParts.extensible (default g.V.DefaultValue.default_tree) g.V.Value.AsnType.shape g.R.DecodeSetParts.parts c.args.tag g.V.Value.AsnType.TAG h own others _ _ c.requires.next _ g.V.Value.AsnType.tree _ _ _ _ _ _ (default_part g.V.Value.AsnType.TAG _ _ (first_agrees g.V.Value.AsnType.shape g.V.Value.AsnType.TAG g.R.DecodeSetParts.tags_differ (others_differ g.V.Value.AsnType.shape g.V.Value.AsnType.TAG g.R.DecodeSetParts.parts (is_looked_for g.V.Value.AsnType.shape g.V.Value.AsnType.TAG && g.R.DecodeSetParts.tags_differ) c.requires.differ)) (c.in_ok-value.ensures.reads g.V.DefaultValue.default_tree (λ v h. h))) c.place.ensures

pub returns-clause-reads : goal.returns-clause-reads
returns-clause-reads g c =
    let own = first_has g.V.Value.AsnType.shape g.V.Value.AsnType.TAG g.R.DecodeSetParts.parts (is_looked_for g.V.Value.AsnType.shape g.V.Value.AsnType.TAG && g.R.DecodeSetParts.tags_differ) c.requires.differ in
    let h : c.args.tag ≡ g.V.Value.AsnType.TAG → ⊥ = search rules in
    placed_other g.R.DecodeSetParts.extensible (default g.V.DefaultValue.default_tree) g.V.Value.AsnType.shape g.R.DecodeSetParts.parts _ _ c.other_names.ensures c.args.tag g.V.Value.AsnType.TAG h own _ _ c.requires.next _ _ _ _ _ _ c.decode_component.ensures.reads

pub returns-in_err-value-clause-fails : goal.returns-in_err-value-clause-fails
returns-in_err-value-clause-fails g c =
    let h : c.args.tag ≡ g.V.Value.AsnType.TAG = tag_is c.args.tag c.TAG.result c.if-eq.ensures ∙ c.TAG.ensures in
    rw (residual _ c.from_residual.ensures.1) (first_fails g.R.DecodeSetParts.extensible (default g.V.DefaultValue.default_tree) g.V.Value.AsnType.shape g.R.DecodeSetParts.parts _ _ _ _ _
    (own_tag g.V.Value.AsnType.shape c.args.tag g.V.Value.AsnType.TAG h (first_has g.V.Value.AsnType.shape g.V.Value.AsnType.TAG g.R.DecodeSetParts.parts (is_looked_for g.V.Value.AsnType.shape g.V.Value.AsnType.TAG && g.R.DecodeSetParts.tags_differ) c.requires.differ))
    (own_default_fails g.V.Value.AsnType.shape g.V.DefaultValue.default_tree
    (first_agrees g.V.Value.AsnType.shape g.V.Value.AsnType.TAG g.R.DecodeSetParts.tags_differ (others_differ g.V.Value.AsnType.shape g.V.Value.AsnType.TAG g.R.DecodeSetParts.parts (is_looked_for g.V.Value.AsnType.shape g.V.Value.AsnType.TAG && g.R.DecodeSetParts.tags_differ) c.requires.differ))
    (default_fails _ g.V.Value.AsnType.tree _ g.V.DefaultValue.default_tree _ _ _ _ (λ v h. h) (default_failed g.V.Value.AsnType.shape g.V.Value.AsnType.tree (g.V.Value.Decode.errors g.V.Value.AsnType.TAG g.V.Value.AsnType.CONSTRAINTS) _ _ _ _ _ c.in_err-value.ensures.exact))))

pub returns-clause-fails : goal.returns-clause-fails
returns-clause-fails g c =
    let own = first_has g.V.Value.AsnType.shape g.V.Value.AsnType.TAG g.R.DecodeSetParts.parts (is_looked_for g.V.Value.AsnType.shape g.V.Value.AsnType.TAG && g.R.DecodeSetParts.tags_differ) c.requires.differ in
    let h : c.args.tag ≡ g.V.Value.AsnType.TAG → ⊥ = search rules in
    others_fail g.R.DecodeSetParts.extensible (default g.V.DefaultValue.default_tree) g.V.Value.AsnType.shape g.R.DecodeSetParts.parts _ _ _ _ _ (other_tag g.V.Value.AsnType.shape c.args.tag g.V.Value.AsnType.TAG h own) c.decode_component.ensures.fails

pub returns-then-eq-clause-kept : goal.returns-then-eq-clause-kept
returns-then-eq-clause-kept g c = λ starts m k n.
    (slot_placed (got (g.V.Value.Decode.beyond g.V.Value.AsnType.TAG)) starts _ _ _ _ _ _ _ c.place.ensures m (default_read (got (g.V.Value.Decode.beyond g.V.Value.AsnType.TAG)) _ _ _ c.in_ok-value.ensures.beyond n) k.0, k.1)

pub returns-clause-kept : goal.returns-clause-kept
returns-clause-kept g c = λ starts m k n.
    ok_also (BeyondSlot (got (g.V.Value.Decode.beyond g.V.Value.AsnType.TAG)) starts c.args.slots.now.0) (g.R.DecodeSetParts.kept starts c.decode_component.new.slots) c.decode_component.result k.0 (c.decode_component.ensures.kept starts m k.1 n)

pub returns-in_err-value-clause-errors : goal.returns-in_err-value-clause-errors
returns-in_err-value-clause-errors g c =
    let h : c.args.tag ≡ g.V.Value.AsnType.TAG = tag_is c.args.tag c.TAG.result c.if-eq.ensures ∙ c.TAG.ensures in
    rw (residual _ c.from_residual.ensures.1) (inl (h, c.in_err-value.ensures.exact))

pub returns-clause-errors : goal.returns-clause-errors
returns-clause-errors g c =
    let h : c.args.tag ≡ g.V.Value.AsnType.TAG → ⊥ = search rules in
    other_errors g.V.Value.AsnType.TAG (errors_of (DecodesOrDefault (DecodesOr g.V.Value.AsnType.shape g.V.Value.AsnType.tree (g.V.Value.Decode.errors g.V.Value.AsnType.TAG g.V.Value.AsnType.CONSTRAINTS)) g.V.Value.AsnType.tree (λ made. IfOk made (λ v. g.V.Value.AsnType.tree v ≡ g.V.DefaultValue.default_tree)) g.V.Value.AsnType.TAG)) g.R.DecodeSetParts.errors c.args.tag _ _ c.decode_component.result h c.decode_component.ensures.errors
