use Rattle.std.proofs.Common.{◌≡◌, Some, subst, arith}
use Rattle.std.specs.Prelude.{slice_get}
use Rattle.std.proofs.lemmas.List.{length-map}
use Rattle.rasn_schema.proofs.Lists.{read_at, so_far_more, so_far_end}
use Rattle.rasn_json.specs.Reading.{names_of}
use Rattle.rasn_json.proofs.MemberNames.{named_at, none_among, told_same, told_other}
use Rattle.rasn_json.proofs.members.has_member.Goals as goal

pub returns-then-eq : goal.returns-then-eq
returns-then-eq c =
    let ms = c.args.members.now in
    let i = c.loop-member.member-index in
    (i, subst (λ s. Some s ≡ slice_get (names_of ms) i) (told_same c.member-item.result.0.now c.args.name.now c.if-eq.ensures) (named_at ms i c.member-item.result (read_at ms i c.member-item.result (omega arith) c.member-item.is)))

pub loop-member-preserved : goal.loop-member-preserved
loop-member-preserved c =
    let ms = c.args.members.now in
    let i = c.loop-member.member-index in
    so_far_more (λ j s. s ≡ c.args.name.now → ⊥) (names_of ms) i c.member-item.result.0.now (named_at ms i c.member-item.result (read_at ms i c.member-item.result (omega arith) c.member-item.is)) (told_other c.member-item.result.0.now c.args.name.now c.if-eq.ensures) c.loop-member.invariant

pub returns : goal.returns
returns c = λ h. none_among c.args.members.now c.args.name.now c.loop-member.member-index (omega arith) c.loop-member.invariant h
