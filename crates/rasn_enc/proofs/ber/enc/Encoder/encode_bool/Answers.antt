use Rattle.std.proofs.Common.{◌≡◌, ◌∙◌, cond, ap, ◌∷◌, []}
use Rattle.rasn_enc.proofs.Leaves.Primitive.{bool_encoded, exactly}
use Rattle.rasn_enc.proofs.ber.enc.Encoder.encode_bool.Goals as goal
use Rattle.rasn_enc.proofs.ber.enc.Encoder.encode_bool.Goals.{then-value, else-value}

pub returns-clause-ok : goal.returns-clause-ok
returns-clause-ok c =
    let e : c.if-value.octet ≡ cond c.args.value 255 0 = elim c.if-value.branch [ then-value w ↦ rw w.if-value.true w.octet-is | else-value w ↦ rw w.if-value.false w.octet-is ] in
    bool_encoded _ c.args.tag c.args.value _ _ _ (c.as_slice.ensures ∙ ap (λ z. z ∷ []) e) (exactly _ _ c.args.tag _ _ c.leaf.ensures.ok)
