use Rattle.std.proofs.Common.{◌≡◌, [], Some, refl, subst}
use Rattle.std.specs.Prelude.{slice_get}
use Rattle.rasn_schema.specs.Shapes.{shape_of_type}
use Rattle.rasn_dynamic.proofs.Pieces.{part_lawful}
use Rattle.rasn_dynamic.proofs.Parts.{member_passed, unknown_passed}
use Rattle.rasn_dynamic.proofs.find.go_to_member.Goals as goal

pub loop-decoder-init : goal.loop-decoder-init
loop-decoder-init c = ([], [], (refl, refl), λ l. tt)

pub returns-then-number-index : goal.returns-then-number-index
returns-then-number-index c = record {
  found =
      let i = c.loop-decoder.invariant in
      (c.in-Some.component.now, subst (λ z. Some c.in-Some.component.now ≡ slice_get c.args.components.now z) c.if-number-index.true c.in-Some.ensures.0, refl, i.0, i.1, i.2);
}

pub pass_member-requires : goal.pass_member-requires
pass_member-requires c = record {
  lawful = part_lawful (shape_of_type c.args.types.now c.args.below) c.args.components.now c.in-Some.number c.in-Some.component.now c.requires.lawful c.in-Some.ensures.0;
}

pub loop-decoder-preserved-in-Continue-branch-2 : goal.loop-decoder-preserved-in-Continue-branch-2
loop-decoder-preserved-in-Continue-branch-2 c =
    member_passed (shape_of_type c.args.types.now c.args.below) c.args.extensible c.args.components.now c.args.index c.args.decoder.now c.loop-decoder.decoder _ c.in_ok-tag.tag c.in_ok-tag.ensures.next c.loop-decoder-test.ensures c.loop-decoder.invariant
    c.in-Some.number c.in-Some.component.now c.requires.lawful c.in-Some.ensures c.if-number-index.false c.in_ok-pass_member-in-Some.ensures

pub loop-decoder-preserved : goal.loop-decoder-preserved
loop-decoder-preserved c =
    unknown_passed (shape_of_type c.args.types.now c.args.below) c.args.extensible c.args.components.now c.args.index c.args.decoder.now c.loop-decoder.decoder _ c.in_ok-tag.tag c.in_ok-tag.ensures.next c.loop-decoder-test.ensures c.loop-decoder.invariant
    c.in-None.ensures c.in_ok-pass_unknown-in-None.ensures.0 c.in_ok-pass_unknown-in-None.ensures.1

pub returns : goal.returns
returns c = record {
  found =
      let i = c.loop-decoder.invariant in
      (i.0, i.1, c.loop-decoder.decoder, i.2, i.3, c.loop-decoder-test.ensures);
}
