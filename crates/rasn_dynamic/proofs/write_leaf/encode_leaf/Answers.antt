use Rattle.std.proofs.Common.{◌≡◌, ◌∙◌, true≢false, refl, sym, inl, inr, subst}
use Rattle.rasn_schema.specs.declared.types.LeafKind.TheVariants.{Boolean, Null, Bmp, ObjectIdentifier, RelativeOid, Date, UtcTime, GeneralizedTime}
use Rattle.rasn_schema.specs.declared.value.Value.{Instant}
use Rattle.rasn_schema.specs.Fitting.{FitsLeaf}
use Rattle.rasn_dynamic.proofs.OnlyFitting.{form_refused, fitted}
use Rattle.rasn_dynamic.proofs.LeafWritten.{leaf_as, number_encoded, number_refused}
use Rattle.rasn_dynamic.proofs.write_leaf.encode_leaf.Goals as goal
use Rattle.rasn_dynamic.proofs.write_leaf.encode_leaf.Goals.{in-UtcTime, in_default}

pub encode_bits-requires : goal.encode_bits-requires
encode_bits-requires c = rw c.as_bitstr.ensures (subst (FitsLeaf c.args.kind) c.in-Bits.is c.if-not-leaf_fits.ensures)

pub returns-then-not-leaf_fits : goal.returns-then-not-leaf_fits
returns-then-not-leaf_fits c = rw c.refuse_form.ensures.1 (form_refused _ c.if-not-leaf_fits.ensures refl c.refuse_form.ensures.2)

pub returns-then-matches : goal.returns-then-matches
returns-then-matches c = elim c.match-matches.branch [
  | in-UtcTime w ↦
      let call = c.encode_held-then-matches in
      fitted _ c.if-not-leaf_fits.ensures (leaf_as c.args.kind UtcTime _ (Instant c.in-Instant.held) c.args.tag c.args.constraints.now _ _ _ w.in-UtcTime.is c.in-Instant.is
      (rw (← c.utc.ensures) call.ensures.ok) (rw (← c.utc.ensures) call.ensures.refused)) call.ensures.err call.ensures.rules
  | in_default w ↦ absurd (true≢false (sym c.if-matches.true ∙ w.matches-is))
]

pub returns-else-matches : goal.returns-else-matches
returns-else-matches c = elim c.match-matches.branch [
  | in-UtcTime w ↦ absurd (true≢false (sym w.matches-is ∙ c.if-matches.false))
  | in_default w ↦ elim (subst (FitsLeaf c.args.kind) c.in-Instant.is c.if-not-leaf_fits.ensures) [
    | inl e ↦ absurd (w.in_default.not-UtcTime e)
    | inr e ↦
        let call = c.encode_held-else-matches in
        fitted _ c.if-not-leaf_fits.ensures (leaf_as c.args.kind GeneralizedTime _ (Instant c.in-Instant.held) c.args.tag c.args.constraints.now _ _ _ e c.in-Instant.is call.ensures.ok call.ensures.refused) call.ensures.err call.ensures.rules
  ]
]

pub returns-in-Boolean : goal.returns-in-Boolean
returns-in-Boolean c =
    let call = c.encode_held in
    fitted _ c.if-not-leaf_fits.ensures (leaf_as c.args.kind Boolean _ _ c.args.tag c.args.constraints.now _ _ _ (subst (FitsLeaf c.args.kind) c.in-Boolean.is c.if-not-leaf_fits.ensures) c.in-Boolean.is call.ensures.ok call.ensures.refused) call.ensures.err call.ensures.rules

pub returns-in-Null : goal.returns-in-Null
returns-in-Null c =
    let call = c.encode_held-in-Null in
    fitted _ c.if-not-leaf_fits.ensures (leaf_as c.args.kind Null _ _ c.args.tag c.args.constraints.now _ _ _ (subst (FitsLeaf c.args.kind) c.in-Null.is c.if-not-leaf_fits.ensures) c.in-Null.is call.ensures.ok call.ensures.refused) call.ensures.err call.ensures.rules

pub returns-in-Bits : goal.returns-in-Bits
returns-in-Bits c =
    rw c.kept-in-Bits.ensures (fitted _ c.if-not-leaf_fits.ensures (rw (c.in-Bits.is, ← c.as_bitstr.ensures) c.encode_bits.ensures.does) c.encode_bits.ensures.err c.encode_bits.ensures.rules)

pub returns-in-Units : goal.returns-in-Units
returns-in-Units c =
    let call = c.encode_held-in-Units in
    fitted _ c.if-not-leaf_fits.ensures (leaf_as c.args.kind Bmp _ _ c.args.tag c.args.constraints.now _ _ _ (subst (FitsLeaf c.args.kind) c.in-Units.is c.if-not-leaf_fits.ensures) c.in-Units.is call.ensures.ok call.ensures.refused) call.ensures.err call.ensures.rules

pub returns-in-Arcs : goal.returns-in-Arcs
returns-in-Arcs c =
    let call = c.encode_held-in-Arcs in
    elim (subst (FitsLeaf c.args.kind) c.in-Arcs.is c.if-not-leaf_fits.ensures) [
      | inl e ↦ fitted _ c.if-not-leaf_fits.ensures (leaf_as c.args.kind ObjectIdentifier _ _ c.args.tag c.args.constraints.now _ _ _ e c.in-Arcs.is call.ensures.ok call.ensures.refused) call.ensures.err call.ensures.rules
      | inr e ↦ fitted _ c.if-not-leaf_fits.ensures (leaf_as c.args.kind RelativeOid _ _ c.args.tag c.args.constraints.now _ _ _ e c.in-Arcs.is call.ensures.ok call.ensures.refused) call.ensures.err call.ensures.rules
    ]

pub returns-in-Day : goal.returns-in-Day
returns-in-Day c =
    let call = c.encode_held-in-Day in
    fitted _ c.if-not-leaf_fits.ensures (leaf_as c.args.kind Date _ _ c.args.tag c.args.constraints.now _ _ _ (subst (FitsLeaf c.args.kind) c.in-Day.is c.if-not-leaf_fits.ensures) c.in-Day.is call.ensures.ok call.ensures.refused) call.ensures.err call.ensures.rules

pub returns-in-Integer : goal.returns-in-Integer
returns-in-Integer c =
    let fits = subst (FitsLeaf c.args.kind) c.in-Integer.is c.if-not-leaf_fits.ensures in
    rw c.kept.ensures (fitted _ c.if-not-leaf_fits.ensures (rw c.in-Integer.is (record {
      ok = number_encoded _ c.args.tag c.args.constraints.now _ _ _ c.args.kind fits c.encode_integer.ensures.ok;
      refused = number_refused _ c.args.tag c.args.constraints.now _ _ c.args.kind fits c.encode_integer.ensures.fails;
    })) c.encode_integer.ensures.err c.encode_integer.ensures.rules)

pub encode_octets-requires : goal.encode_octets-requires
encode_octets-requires c = rw c.as_slice.ensures.value (subst (FitsLeaf c.args.kind) c.in-Octets.is c.if-not-leaf_fits.ensures)

pub returns-in-Octets : goal.returns-in-Octets
returns-in-Octets c =
    rw c.kept-in-Octets.ensures (fitted _ c.if-not-leaf_fits.ensures (rw (c.in-Octets.is, ← c.as_slice.ensures.value) c.encode_octets.ensures.does) c.encode_octets.ensures.err c.encode_octets.ensures.rules)

pub encode_text-requires : goal.encode_text-requires
encode_text-requires c = subst (FitsLeaf c.args.kind) c.in-Text.is c.if-not-leaf_fits.ensures

pub returns-in-Text : goal.returns-in-Text
returns-in-Text c =
    rw c.kept-in-Text.ensures (fitted _ c.if-not-leaf_fits.ensures (rw (c.in-Text.is, ← c.as_str.ensures.value) c.encode_text.ensures.does) c.encode_text.ensures.err c.encode_text.ensures.rules)
