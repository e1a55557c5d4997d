use Rattle.std.proofs.Common.{◌≡◌, rules, arith, inl}
use Rattle.rasn_types.specs.Shapes.{optional}
use Rattle.rasn_de.proofs.Leaves.Returns.{residual}
use Rattle.rasn_de.proofs.OwnTypes.AlternativeTypes.{first_has, others_have_not, others_differ, own_tag, other_tag}
use Rattle.rasn_de.proofs.OwnTypes.SetPartTypes.{placed_here, placed_refused, placed_other, first_fails, others_fail}
use Rattle.rasn_de.specs.Beyond.{got, BeyondSlot}
use Rattle.rasn_de.proofs.Constructed.Beyond.{slot_placed, ok_also}
use Rattle.rasn_de.proofs.Constructed.ValueErrors.{other_errors}
use Rattle.rasn_de.proofs.ber.de.set_parts.OptionalDecodeSetParts.decode_component.Goals as goal

pub decode_component-requires-clause-differ : goal.decode_component-requires-clause-differ
decode_component-requires-clause-differ g c = others_differ g.A.AsnType.shape g.A.AsnType.TAG g.R.DecodeSetParts.parts g.R.DecodeSetParts.tags_differ c.requires.differ

pub returns-in_err-value-clause-reads : goal.returns-in_err-value-clause-reads
returns-in_err-value-clause-reads g c =
    let own = first_has g.A.AsnType.shape g.A.AsnType.TAG g.R.DecodeSetParts.parts g.R.DecodeSetParts.tags_differ c.requires.differ in
    let others = others_have_not g.A.AsnType.shape g.A.AsnType.TAG g.R.DecodeSetParts.parts g.R.DecodeSetParts.tags_differ c.requires.differ in
    let i = c.if-eq.ensures in let j = c.eq.ensures in let t = c.TAG.ensures in let q = c.if-eq.true in
    let h : c.args.tag ≡ g.A.AsnType.TAG = first_of (search rules, search (rules, i, t), grind (arith, i, j, t, q)) in
    rw (residual _ c.from_residual.ensures.1) (placed_refused g.R.DecodeSetParts.extensible optional g.A.AsnType.shape g.R.DecodeSetParts.parts c.args.tag g.A.AsnType.TAG h own others _ _ c.requires.next _ c.in_err-value.ensures.reads)

pub returns-then-eq-clause-reads : goal.returns-then-eq-clause-reads
returns-then-eq-clause-reads g c =
    let own = first_has g.A.AsnType.shape g.A.AsnType.TAG g.R.DecodeSetParts.parts g.R.DecodeSetParts.tags_differ c.requires.differ in
    let others = others_have_not g.A.AsnType.shape g.A.AsnType.TAG g.R.DecodeSetParts.parts g.R.DecodeSetParts.tags_differ c.requires.differ in
    let h : c.args.tag ≡ g.A.AsnType.TAG = search rules in
    placed_here g.R.DecodeSetParts.extensible optional g.A.AsnType.shape g.R.DecodeSetParts.parts c.args.tag g.A.AsnType.TAG h own others _ _ c.requires.next _ g.A.AsnType.tree _ _ _ _ _ _ c.in_ok-value.ensures.reads c.place.ensures

pub returns-clause-reads : goal.returns-clause-reads
returns-clause-reads g c =
    let own = first_has g.A.AsnType.shape g.A.AsnType.TAG g.R.DecodeSetParts.parts g.R.DecodeSetParts.tags_differ c.requires.differ in
    let h : c.args.tag ≡ g.A.AsnType.TAG → ⊥ = search rules in
    placed_other g.R.DecodeSetParts.extensible optional g.A.AsnType.shape g.R.DecodeSetParts.parts _ _ c.other_names.ensures c.args.tag g.A.AsnType.TAG h own _ _ c.requires.next _ _ _ _ _ _ c.decode_component.ensures.reads

pub returns-in_err-value-clause-fails : goal.returns-in_err-value-clause-fails
returns-in_err-value-clause-fails g c =
    let i = c.if-eq.ensures in let j = c.eq.ensures in let t = c.TAG.ensures in let q = c.if-eq.true in
    let h : c.args.tag ≡ g.A.AsnType.TAG = first_of (search rules, search (rules, i, t), grind (arith, i, j, t, q)) in
    rw (residual _ c.from_residual.ensures.1) (first_fails g.R.DecodeSetParts.extensible optional g.A.AsnType.shape g.R.DecodeSetParts.parts _ _ _ _ _ (own_tag g.A.AsnType.shape c.args.tag g.A.AsnType.TAG h (first_has g.A.AsnType.shape g.A.AsnType.TAG g.R.DecodeSetParts.parts g.R.DecodeSetParts.tags_differ c.requires.differ)) c.in_err-value.ensures.reads)

pub returns-clause-fails : goal.returns-clause-fails
returns-clause-fails g c =
    let own = first_has g.A.AsnType.shape g.A.AsnType.TAG g.R.DecodeSetParts.parts g.R.DecodeSetParts.tags_differ c.requires.differ in
    let h : c.args.tag ≡ g.A.AsnType.TAG → ⊥ = search rules in
    others_fail g.R.DecodeSetParts.extensible optional g.A.AsnType.shape g.R.DecodeSetParts.parts _ _ _ _ _ (other_tag g.A.AsnType.shape c.args.tag g.A.AsnType.TAG h own) c.decode_component.ensures.fails

pub returns-then-eq-clause-kept : goal.returns-then-eq-clause-kept
returns-then-eq-clause-kept g c = λ starts m k n.
    (slot_placed (got (g.A.Decode.beyond g.A.AsnType.TAG)) starts _ _ _ _ _ _ _ c.place.ensures m c.in_ok-value.ensures.beyond k.0, k.1)

pub returns-clause-kept : goal.returns-clause-kept
returns-clause-kept g c = λ starts m k n.
    ok_also (BeyondSlot (got (g.A.Decode.beyond g.A.AsnType.TAG)) starts c.args.slots.now.0) (g.R.DecodeSetParts.kept starts c.decode_component.new.slots) c.decode_component.result k.0 (c.decode_component.ensures.kept starts m k.1 n)

pub returns-in_err-value-clause-errors : goal.returns-in_err-value-clause-errors
returns-in_err-value-clause-errors g c =
    let i = c.if-eq.ensures in let j = c.eq.ensures in let t = c.TAG.ensures in let q = c.if-eq.true in
    let h : c.args.tag ≡ g.A.AsnType.TAG = first_of (search rules, search (rules, i, t), grind (arith, i, j, t, q)) in
    rw (residual _ c.from_residual.ensures.1) (inl (h, c.in_err-value.ensures.errors))

pub returns-clause-errors : goal.returns-clause-errors
returns-clause-errors g c =
    let h : c.args.tag ≡ g.A.AsnType.TAG → ⊥ = search rules in
    other_errors g.A.AsnType.TAG (g.A.Decode.errors g.A.AsnType.TAG g.A.AsnType.CONSTRAINTS) g.R.DecodeSetParts.errors c.args.tag _ _ c.decode_component.result h c.decode_component.ensures.errors
