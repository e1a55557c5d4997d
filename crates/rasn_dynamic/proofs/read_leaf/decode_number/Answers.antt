use Rattle.std.proofs.Common.{refl, sym, ◌∙◌, subst, inl, inr}
use Rattle.std.specs.Prelude.{Contains}
use Rattle.rasn_types.specs.declared.error.decode.DecodeErrorKind.TheVariants.{DiscriminantValueNotFound}
use Rattle.rasn_schema.specs.Trees.{tree_of}
use Rattle.rasn_schema.specs.Shapes.{numbers_of}
use Rattle.rasn_de.proofs.Leaves.Enumerated.{handed_on, enumerated_refused, enumerated_unnamed, decodes_unnamed, decodes_refused}
use Rattle.rasn_dynamic.proofs.Numbers.{decodes_listed}
use Rattle.rasn_dynamic.proofs.read_leaf.decode_number.Goals as goal

pub returns-in-Err-clause-reads : goal.returns-in-Err-clause-reads
returns-in-Err-clause-reads c = decodes_refused (numbers_of c.args.numbers.now) c.see_numbers.ensures c.args.tag tree_of c.args.decoder.now _ c.in-Err.error c.in-Err.ensures.reads

pub returns-then-not-is_listed-clause-reads : goal.returns-then-not-is_listed-clause-reads
returns-then-not-is_listed-clause-reads c =
    let t = c.in-Ok.ensures.exact in
    decodes_unnamed (numbers_of c.args.numbers.now) c.see_numbers-then-not-is_listed.ensures c.args.tag tree_of c.args.decoder.now _ c.in-Ok.discriminant (record { kind = DiscriminantValueNotFound c.in-Ok.discriminant; codec = c.codec.result }) c.in-Ok.ensures.reads
    (subst (λ y. Contains (numbers_of c.args.numbers.now) y → ⊥) (handed_on _ _ _ _ _ t.0) c.if-not-is_listed.ensures)

pub returns-in-Ok-integer_of-clause-reads : goal.returns-in-Ok-integer_of-clause-reads
returns-in-Ok-integer_of-clause-reads c =
    let t = c.in-Ok.ensures.exact in
    decodes_listed (numbers_of c.args.numbers.now) c.args.tag c.args.decoder.now _ c.in-Ok.discriminant c.in-Ok-integer_of.number c.in-Ok.ensures.reads
    (c.in-Ok-integer_of.ensures ∙ handed_on _ _ _ _ _ t.0) (subst (Contains (numbers_of c.args.numbers.now)) (sym c.in-Ok-integer_of.ensures) c.if-not-is_listed.ensures)

pub returns-in-Ok-integer_of-clause-fits : goal.returns-in-Ok-integer_of-clause-fits
returns-in-Ok-integer_of-clause-fits c = subst (Contains (numbers_of c.args.numbers.now)) (sym c.in-Ok-integer_of.ensures) c.if-not-is_listed.ensures

pub returns-in-Err-clause-fails : goal.returns-in-Err-clause-fails
returns-in-Err-clause-fails c = inl (enumerated_refused (numbers_of c.args.numbers.now) (λ z. z) c.args.tag c.args.decoder.now _ c.in-Err.error c.in-Err.ensures.exact)

pub returns-then-not-is_listed-clause-fails : goal.returns-then-not-is_listed-clause-fails
returns-then-not-is_listed-clause-fails c =
    let t = c.in-Ok.ensures.exact in
    inl (enumerated_unnamed (numbers_of c.args.numbers.now) c.args.tag c.args.decoder.now _ _ c.in-Ok.discriminant _
    (handed_on _ _ _ _ _ t.0) t.0 t.1 c.if-not-is_listed.ensures (rw c.codec.ensures refl))

pub returns-in-Err-integer_of-clause-fails : goal.returns-in-Err-integer_of-clause-fails
returns-in-Err-integer_of-clause-fails c = inr c.out_of_memory.ensures.kind
