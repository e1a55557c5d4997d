use Rattle.std.proofs.Common.{◌≡◌, ◌-◌, Some, length, refl, sym, ap, subst, arith}
use Rattle.std.specs.Prelude.{get_or, slice_get}
use Rattle.std.proofs.lemmas.Option.{slice_get_within}
use Rattle.rasn_schema.specs.declared.types.Alternative.{Alternative}
use Rattle.rasn_schema.specs.Shapes.{shape_of_type}
use Rattle.rasn_schema.proofs.Lists.{read_at}
use Rattle.rasn_dynamic.specs.declared.nested.NextPart.{NextPart}
use Rattle.rasn_dynamic.specs.declared.nested.OuterChoice.{OuterChoice}
use Rattle.rasn_dynamic.specs.Listed.{IsNoted}
use Rattle.rasn_dynamic.proofs.Chosen.{for_both}
use Rattle.rasn_dynamic.proofs.ChoicesInside.{none_here, alternative_here}
use Rattle.rasn_dynamic.proofs.nested.go_into.Goals as goal

pub returns-in_default-alternative_for-clause-goes : goal.returns-in_default-alternative_for-clause-goes
returns-in_default-alternative_for-clause-goes c =
    let part = c.args.nested.now.part in
    let here = c.in-Some.ensures in
    (refl, refl, none_here c.args.types.now c.args.decoder.now part (part.levels - 1) (let n = here.0 in omega arith) c.in-Some.name.now c.in-Some.alternatives.now here c.args.tag c.requires.next c.in_default-alternative_for.ensures _ c.refuse_choice.ensures.0 c.refuse_choice.ensures)

pub bounds-alternatives-index : goal.bounds-alternatives-index
bounds-alternatives-index c = slice_get_within c.in-Some.alternatives.now c.in-Some-alternative_for.index c.in-Some-alternative_for.ensures.0 (sym c.in-Some-alternative_for.ensures.1.0)

pub returns-in-Ok-clause-goes : goal.returns-in-Ok-clause-goes
returns-in-Ok-clause-goes c =
    let part = c.args.nested.now.part in
    let here = c.in-Some.ensures in
    let ks = c.in-Some.alternatives.now in
    let k = c.in-Some-alternative_for.index in
    let first = c.in-Some-alternative_for.ensures in
    let el = get_or ks k c.index-alternatives-index.result in
    let at : Some el ≡ slice_get ks k = subst (λ (a : Alternative). Some a ≡ slice_get ks k) c.index-alternatives-index.is
    (read_at ks k c.index-alternatives-index.result (slice_get_within ks k first.0 (sym first.1.0)) c.index-alternatives-index.is) in
    let value = c.remaining-octets.ensures.value in
    let choice : OuterChoice = record { id = part.id; index = part.index; place = c.note-place.result; left = length c.remaining-octets.result.now } in
    let inner : NextPart = record { levels = part.levels - 1; id = el.type_id; index = k } in
    let w = alternative_here c.args.types.now c.args.decoder.now part (part.levels - 1) (let n = here.0 in omega arith) c.in-Some.name.now ks here c.args.tag c.requires.next choice c.args.walk.now.spans c.note-place.new.spans inner el refl refl
    (for_both (shape_of_type c.args.types.now (part.levels - 1)) ks k first.0 el c.args.tag first.1 at) c.requires.lawful refl refl (ap length value)
    (subst (λ z. IsNoted part.id part.index part.levels z c.args.walk.now.spans c.note-place.result c.note-place.new.spans) value c.note-place.ensures) in
    (choice, c.in-Ok.ensures.items, w.0, w.1)
