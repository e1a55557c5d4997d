use Rattle.std.proofs.Common.{sym, ◌∙◌, w64}
use Rattle.std.proofs.lemmas.Int.{to_z-of_z}
use Rattle.rasn_types.specs.Trees.{signed_range}
use Rattle.rasn_enc.proofs.Leaves.ObjectIdentifier.{named_encoded}
use Rattle.rasn_enc.proofs.ber.enc.Encoder.encode_enumerated.Goals as goal

pub returns-clause-ok : goal.returns-clause-ok
returns-clause-ok g c = λ bounds. named_encoded _ (signed_range 64) g.E.Enumerated.known c.args.tag (g.E.Enumerated.number c.args.value.now) _ _ _ (sym c.discriminant.ensures ∙ sym (to_z-of_z w64 c.discriminant.result (record { sfits = c.discriminant.type_inv }))) (g.met.E.Enumerated.listed c.args.value.now) c.encode_integer.ensures.ok bounds
