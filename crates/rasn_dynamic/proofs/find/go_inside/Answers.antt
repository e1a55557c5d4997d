use Rattle.std.proofs.Common.{◌∙◌, refl, ap, subst}
use Rattle.std.specs.Prelude.{IfOk, MatchOption}
use Rattle.rasn_schema.specs.declared.type_id.TypeId.{TypeId}
use Rattle.rasn_schema.specs.Shapes.{shape_of_type, type_by, IsReadable}
use Rattle.rasn_dynamic.specs.Sets.{is_extensible, named_components}
use Rattle.rasn_dynamic.specs.Faults.{IsMemberAt}
use Rattle.rasn_dynamic.specs.Parts.{LacksMember}
use Rattle.rasn_dynamic.proofs.Named.{named_lawful}
use Rattle.rasn_dynamic.proofs.Typed.{named_so}
use Rattle.rasn_dynamic.proofs.Contents.{list_lawful, set_of_lawful, seq_lawful, none_holds}
use Rattle.rasn_dynamic.proofs.InOrder.{lawful_parts}
use Rattle.rasn_dynamic.proofs.Parts.{option_weaker, no_parts}
use Rattle.rasn_dynamic.proofs.find.go_inside.Goals as goal

pub go_to_component-requires : goal.go_to_component-requires
go_to_component-requires c = record {
  lawful = rw c.deref-in-Sequence.ensures.value (lawful_parts (shape_of_type c.args.types.now c.args.below) _ (seq_lawful _ _ (subst (λ n. IsReadable (type_by (shape_of_type c.args.types.now c.args.below) n)) c.in-Sequence.is c.requires.lawful)));
}

pub go_to_member-requires : goal.go_to_member-requires
go_to_member-requires c = record {
  lawful =
      let f = shape_of_type c.args.types.now c.args.below in
      let same = c.named_components-extensible.ensures.named ∙ ap (named_components f) c.deref-in-Set.ensures.value in
      named_lawful f _ c.in-Set.components.items _ same (subst (λ n. IsReadable (type_by f n)) c.in-Set.is c.requires.lawful);
}

pub go_to_element-requires : goal.go_to_element-requires
go_to_element-requires c = record {
  lawful = list_lawful _ _ c.in-SequenceOf.constraints.size (subst (λ n. IsReadable (type_by (shape_of_type c.args.types.now c.args.below) n)) c.in-SequenceOf.is c.requires.lawful);
}

pub go_to_element-requires-in-SetOf : goal.go_to_element-requires-in-SetOf
go_to_element-requires-in-SetOf c = record {
  lawful = set_of_lawful _ _ c.in-SetOf.constraints.size (subst (λ n. IsReadable (type_by (shape_of_type c.args.types.now c.args.below) n)) c.in-SetOf.is c.requires.lawful);
}

pub returns-in-Tagged : goal.returns-in-Tagged
returns-in-Tagged c = rw c.in-Tagged.is (record { found = option_weaker c.only_part.result _ _ _ _ (λ n. n) (λ id w. (w.0, ap (λ (z : TypeId). z.0) w.1, refl)) c.only_part.ensures })

pub returns-in-Choice : goal.returns-in-Choice
returns-in-Choice c = rw (c.in-Choice.is, ← c.deref.ensures.value) (record { found = c.alternative_here.ensures })

pub returns-in-Sequence : goal.returns-in-Sequence
returns-in-Sequence c = rw (c.in-Sequence.is, ← c.deref-in-Sequence.ensures.value) (record { found = c.go_to_component.ensures.found })

pub returns-in-Set : goal.returns-in-Set
returns-in-Set c =
    let f = shape_of_type c.args.types.now c.args.below in
    let same = c.named_components-extensible.ensures.named ∙ ap (named_components f) c.deref-in-Set.ensures.value in
    let marked = c.named_components-extensible.ensures.extensible ∙ ap (is_extensible f) c.deref-in-Set.ensures.value in
    rw c.in-Set.is (record {
      found = named_so f c.named_components-extensible.result.1 c.named_components-extensible.result.0.now c.in-Set.components.items marked same
          (λ b l. IfOk c.go_to_member.result (λ found. MatchOption found (LacksMember f b l c.args.decoder.now c.args.index) (λ id. IsMemberAt f b l c.args.decoder.now c.args.index id.0 c.go_to_member.new.decoder))) c.go_to_member.ensures.found;
    })

pub returns-in-SequenceOf : goal.returns-in-SequenceOf
returns-in-SequenceOf c = rw c.in-SequenceOf.is (record { found = c.go_to_element.ensures.found })

pub returns-in-SetOf : goal.returns-in-SetOf
returns-in-SetOf c = rw c.in-SetOf.is (record { found = c.go_to_element-in-SetOf.ensures.found })

pub returns-in_default : goal.returns-in_default
returns-in_default c =
    record { found = no_parts (shape_of_type c.args.types.now c.args.below) c.args.ty.now (none_holds c.args.ty.now c.in_default.not-Tagged c.in_default.not-Sequence c.in_default.not-Set c.in_default.not-SequenceOf c.in_default.not-SetOf) c.in_default.not-Choice c.args.decoder.now c.args.index }
