use Rattle.std.proofs.Common.{◌⊎◌, inl, inr, ◌≡◌, ◌≢◌, [], rules, sym, subst, refl}
use Rattle.std.proofs.lemmas.Result.{err_from_is_err_and}
use Rattle.rasn_types.specs.Shapes.{part, joined, IsFirst}
use Rattle.rasn_types.specs.Bytes.{Bytes, WritesPart, IsPlacedBy}
use Rattle.rasn_enc.specs.Any.{IsUntaggedInSetError}
use Rattle.rasn_enc.specs.SortedSet.{HoldsParts, HasLeast}
use Rattle.rasn_enc.proofs.OwnTypes.SortedSet.{part_fails, others_fail, part_written, errors_of_others, holds_absent, holds_present, no_octets, some_octets, place_lacks}
use Rattle.rasn_enc.proofs.ber.enc.set_parts.with_choice.Goals as goal

pub returns-in_err-octets-clause-refused : goal.returns-in_err-octets-clause-refused
returns-in_err-octets-clause-refused g c =
    let q = err_from_is_err_and c.from_residual.result c.from_residual.ensures.1 in
    rw (q.1, q.2) (λ p s t i. part_fails p s t (HasLeast c.args.least) _ _ i c.args.rule g.R.EncodeSetParts.extensible g.R.EncodeSetParts.parts (g.R.EncodeSetParts.tree c.args.others) c.in_err-octets.field-0.0 c.in_err-octets.ensures.refused)

pub returns-in_err-components-clause-refused : goal.returns-in_err-components-clause-refused
returns-in_err-components-clause-refused g c =
    let q = err_from_is_err_and c.from_residual-in_err-components.result c.from_residual-in_err-components.ensures.1 in
    rw (q.1, q.2) (λ p s t i. others_fail p s t (HasLeast c.args.least) _ _ i c.args.rule g.R.EncodeSetParts.extensible g.R.EncodeSetParts.parts (g.R.EncodeSetParts.tree c.args.others) c.in_err-components.field-0.0 c.in_err-components.ensures.refused)

pub returns-in_err-components-clause-errors : goal.returns-in_err-components-clause-errors
returns-in_err-components-clause-errors g c =
    let q = err_from_is_err_and c.from_residual-in_err-components.result c.from_residual-in_err-components.ensures.1 in
    rw (q.1, q.2) (λ p s t i. errors_of_others c.args.rule p s t (λ x. g.P.EncodeParts.errors c.args.part c.args.rule x ⊎ IsUntaggedInSetError c.args.rule x) (g.R.EncodeSetParts.errors c.args.others c.args.rule) c.in_ok-octets.octets.items c.in_err-components.field-0.0 (part_written p s t (HasLeast c.args.least) _ _ i c.args.rule _ c.in_ok-octets.ensures.ok) c.in_err-components.ensures.errors)

pub returns-then-is_empty-clause-ok : goal.returns-then-is_empty-clause-ok
returns-then-is_empty-clause-ok g c =
    let e : c.in_ok-octets.octets.items ≡ [] = no_octets _ _ _ (search rules) c.is_empty.ensures c.if-is_empty.true in
    λ p s t i. holds_absent g.R.EncodeSetParts.extensible p s g.R.EncodeSetParts.parts t (g.R.EncodeSetParts.tree c.args.others) c.args.rule _ c.in_ok-components.ensures.ok
    (subst (WritesPart p (Bytes c.args.rule s) t) e (part_written p s t (HasLeast c.args.least) _ _ i c.args.rule _ c.in_ok-octets.ensures.ok))

pub returns-clause-ok : goal.returns-clause-ok
returns-clause-ok g c =
    let n : c.in_ok-octets.octets.items ≢ [] = some_octets _ _ _ (search rules) c.is_empty.ensures c.if-is_empty.false in
    λ p s t i. subst (HoldsParts g.R.EncodeSetParts.extensible (part p s g.R.EncodeSetParts.parts) (joined t (g.R.EncodeSetParts.tree c.args.others)) c.args.rule) (sym c.in_ok-insert_component.ensures.ok)
    (holds_present g.R.EncodeSetParts.extensible p s g.R.EncodeSetParts.parts t (g.R.EncodeSetParts.tree c.args.others) c.args.rule _ c.in_ok-components.ensures.ok _ c.in_ok-octets.octets.items _
    (subst (λ l. IsPlacedBy c.args.rule (IsFirst s) l c.in-Some.tag) c.deref.ensures.value (c.in-Some.ensures s i.known))
    (part_written p s t (HasLeast c.args.least) _ _ i c.args.rule _ c.in_ok-octets.ensures.ok) n refl refl)

pub returns-in_default-clause-refused : goal.returns-in_default-clause-refused
returns-in_default-clause-refused g c =
    let n : c.in_ok-octets.octets.items ≢ [] = some_octets _ _ _ (search rules) c.is_empty.ensures c.if-is_empty.false in
    λ p s t i. inr (place_lacks g.R.EncodeSetParts.extensible p s g.R.EncodeSetParts.parts t (g.R.EncodeSetParts.tree c.args.others) c.args.rule c.in_ok-octets.octets.items
    (part_written p s t (HasLeast c.args.least) _ _ i c.args.rule _ c.in_ok-octets.ensures.ok) n
    (λ tag k. c.in_default.ensures s tag i.known (subst (λ l. IsPlacedBy c.args.rule (IsFirst s) l tag) (sym c.deref.ensures.value) k)))

pub returns-in_default-clause-errors : goal.returns-in_default-clause-errors
returns-in_default-clause-errors g c = λ p s t i. inr (inl (inr c.any_in_set.ensures))
