use Rattle.std.proofs.Common.{◌∙◌, IfErr, subst, w64}
use Rattle.std.proofs.lemmas.Int.{to_z-of_z}
use Rattle.rasn_types.specs.Shapes.{leaf, integer, number}
use Rattle.rasn_types.specs.Trees.{signed_range}
use Rattle.rasn_enc.specs.Encoding.{EncodeFails}
use Rattle.rasn_enc.proofs.Leaves.Primitive.{integer_refused}
use Rattle.rasn_enc.proofs.ber.enc.extensible.ExtensibleEncode.encode_with_tag_and_constraints.Goals as goal

pub returns-clause-refused : goal.returns-clause-refused
returns-clause-refused g c =
    subst (λ z. IfErr c.encode_integer.result (EncodeFails (leaf (integer (signed_range 64)) c.args.tag c.args.constraints.now) (number z) c.args.encoder.now))
    (to_z-of_z w64 c.number.result (record { sfits = c.number.type_inv }) ∙ c.number.ensures)
    (integer_refused _ (signed_range 64) c.args.tag c.args.constraints.now _ c.args.encoder.now c.encode_integer.ensures.fails)
