use Rattle.std.proofs.Common.{◌≡◌, Some, get_or, refl, sym, subst}
use Rattle.std.specs.Prelude.{slice_get}
use Rattle.std.proofs.lemmas.Option.{slice_get_within}
use Rattle.rasn_schema.specs.declared.types.Alternative.{Alternative}
use Rattle.rasn_schema.specs.Shapes.{shape_of_type}
use Rattle.rasn_schema.proofs.Lists.{read_at}
use Rattle.rasn_dynamic.specs.Faults.{IsNextAlternative}
use Rattle.rasn_dynamic.proofs.Chosen.{for_both}
use Rattle.rasn_dynamic.proofs.find.alternative_here.Goals as goal

pub bounds-alternatives-number-then-number-index : goal.bounds-alternatives-number-then-number-index
bounds-alternatives-number-then-number-index c = slice_get_within c.args.alternatives.now c.in-Some.number c.in-Some.ensures.0 (sym c.in-Some.ensures.1.0)

pub returns-then-number-index : goal.returns-then-number-index
returns-then-number-index c =
    let el = get_or c.args.alternatives.now c.in-Some.number c.index-alternatives-number.result in
    let at : Some el ≡ slice_get c.args.alternatives.now c.in-Some.number = subst (λ (a : Alternative). Some a ≡ slice_get c.args.alternatives.now c.in-Some.number) c.index-alternatives-number.is
    (read_at c.args.alternatives.now c.in-Some.number c.index-alternatives-number.result (slice_get_within c.args.alternatives.now c.in-Some.number c.in-Some.ensures.0 (sym c.in-Some.ensures.1.0)) c.index-alternatives-number.is) in
    let f = shape_of_type c.args.types.now c.args.below in
    (el, subst (λ k. IsNextAlternative f c.args.alternatives.now c.args.decoder.now k el) c.if-number-index.true (c.in_ok-tag.tag, c.in_ok-tag.ensures.next, for_both f c.args.alternatives.now c.in-Some.number c.in-Some.ensures.0 el c.in_ok-tag.tag c.in-Some.ensures.1 at), refl, refl)

pub returns-else-number-index : goal.returns-else-number-index
returns-else-number-index c = (c.in-Some.number, c.in-Some.ensures.0, (c.in_ok-tag.tag, c.in_ok-tag.ensures.next, c.in-Some.ensures.1), c.if-number-index.false)
