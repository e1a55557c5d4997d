use Rattle.std.proofs.Common.{◌∷◌, [], ◌++◌, append_assoc, refl, sym, ap, ◌∙◌, subst}
use Rattle.std.proofs.lemmas.List.{append-nil}
use Rattle.rasn_schema.proofs.Lists.{nothing_left}
use Rattle.rasn_dynamic.specs.Faults.{Leads}
use Rattle.rasn_dynamic.proofs.Parts.{leads_on, leads_nowhere, seen_itself, seen_through, seen_short, if_true, if_false, first_and_rest}
use Rattle.rasn_dynamic.proofs.find.go_along.Goals as goal

pub loop-rest-init : goal.loop-rest-init
loop-rest-init c = (c.requires.lawful, seen_itself _ _, [], refl, leads_nowhere c.args.types.now c.args.place.now.levels c.args.place.now.id.0 c.args.place.now.decoder)

pub go_to_part-requires-clause-lawful : goal.go_to_part-requires-clause-lawful
go_to_part-requires-clause-lawful c = c.loop-rest.invariant.0

pub go_to_part-requires-clause-seen : goal.go_to_part-requires-clause-seen
go_to_part-requires-clause-seen c = seen_short _ _ _ _ c.loop-rest.invariant.1 c.requires.seen

pub loop-rest-preserved : goal.loop-rest-preserved
loop-rest-preserved c =
    let i = c.loop-rest.invariant in
    let w = c.in_ok-go_to_part.ensures in
    let at = first_and_rest c.loop-rest.rest.now c.in-len1-up.len_at_least in (
      w.lawful c.if-branch.true,
      seen_through _ _ _ _ _ _ i.1 (w.seen c.if-branch.true),
      i.2 ++ _ ∷ [],
      i.3 ∙ ap (λ l. i.2 ++ l) at ∙ sym (append_assoc i.2 (_ ∷ []) _),
      leads_on c.args.types.now i.2 (_ ∷ []) _ _ _ _ _ _ _ _ _ i.4 (if_true _ _ _ c.if-branch.true w.found),
    )

pub returns-else-branch-clause-found : goal.returns-else-branch-clause-found
returns-else-branch-clause-found c =
    let i = c.loop-rest.invariant in
    let at = first_and_rest c.loop-rest.rest.now c.in-len1-up.len_at_least in
    (i.2, _, _, i.3 ∙ ap (λ l. i.2 ++ l) at, _, _, _, i.4, if_false _ _ _ c.if-branch.false c.in_ok-go_to_part.ensures.found)

pub returns-clause-found : goal.returns-clause-found
returns-clause-found c =
    let i = c.loop-rest.invariant in
    let e = i.3 ∙ ap (λ l. i.2 ++ l) (nothing_left _ c.in_default.len_below) ∙ append-nil i.2 in
    subst (λ z. Leads c.args.types.now z c.args.place.now.levels c.args.place.now.id.0 c.args.place.now.decoder c.loop-rest.place.levels c.loop-rest.place.id.0 c.loop-rest.place.decoder) (sym e) i.4

pub returns-clause-seen : goal.returns-clause-seen
returns-clause-seen c = λ e. c.loop-rest.invariant.1

pub returns-clause-lawful : goal.returns-clause-lawful
returns-clause-lawful c = λ e. c.loop-rest.invariant.0
