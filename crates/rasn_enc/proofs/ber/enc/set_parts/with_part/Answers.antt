use Rattle.std.proofs.Common.{◌≡◌, ◌≢◌, [], rules, sym, subst, refl}
use Rattle.std.proofs.lemmas.Result.{err_from_is_err_and}
use Rattle.rasn_types.specs.Shapes.{part, joined}
use Rattle.rasn_types.specs.Bytes.{Bytes, WritesPart}
use Rattle.rasn_enc.specs.SortedSet.{HoldsParts, HasOwn}
use Rattle.rasn_enc.proofs.OwnTypes.SortedSet.{part_fails, others_fail, part_written, errors_of_others, holds_absent, holds_present, no_octets, some_octets, own_place}
use Rattle.rasn_enc.proofs.ber.enc.set_parts.with_part.Goals as goal

pub returns-in_err-octets-clause-refused : goal.returns-in_err-octets-clause-refused
returns-in_err-octets-clause-refused g c =
    let q = err_from_is_err_and c.from_residual.result c.from_residual.ensures.1 in
    rw (q.1, q.2) (λ p s t i. part_fails p s t (HasOwn c.args.tag) _ _ i c.args.rule g.R.EncodeSetParts.extensible g.R.EncodeSetParts.parts (g.R.EncodeSetParts.tree c.args.others) c.in_err-octets.field-0.0 c.in_err-octets.ensures.refused)

pub returns-in_err-components-clause-refused : goal.returns-in_err-components-clause-refused
returns-in_err-components-clause-refused g c =
    let q = err_from_is_err_and c.from_residual-in_err-components.result c.from_residual-in_err-components.ensures.1 in
    rw (q.1, q.2) (λ p s t i. others_fail p s t (HasOwn c.args.tag) _ _ i c.args.rule g.R.EncodeSetParts.extensible g.R.EncodeSetParts.parts (g.R.EncodeSetParts.tree c.args.others) c.in_err-components.field-0.0 c.in_err-components.ensures.refused)

pub returns-in_err-components-clause-errors : goal.returns-in_err-components-clause-errors
returns-in_err-components-clause-errors g c =
    let q = err_from_is_err_and c.from_residual-in_err-components.result c.from_residual-in_err-components.ensures.1 in
    rw (q.1, q.2) (λ p s t i. errors_of_others c.args.rule p s t (g.P.EncodeParts.errors c.args.part c.args.rule) (g.R.EncodeSetParts.errors c.args.others c.args.rule) c.in_ok-octets.octets.items c.in_err-components.field-0.0 (part_written p s t (HasOwn c.args.tag) _ _ i c.args.rule _ c.in_ok-octets.ensures.ok) c.in_err-components.ensures.errors)

pub returns-then-is_empty-clause-ok : goal.returns-then-is_empty-clause-ok
returns-then-is_empty-clause-ok g c =
    let e : c.in_ok-octets.octets.items ≡ [] = no_octets _ _ _ (search rules) c.is_empty.ensures c.if-is_empty.true in
    λ p s t i. holds_absent g.R.EncodeSetParts.extensible p s g.R.EncodeSetParts.parts t (g.R.EncodeSetParts.tree c.args.others) c.args.rule _ c.in_ok-components.ensures.ok
    (subst (WritesPart p (Bytes c.args.rule s) t) e (part_written p s t (HasOwn c.args.tag) _ _ i c.args.rule _ c.in_ok-octets.ensures.ok))

pub returns-clause-ok : goal.returns-clause-ok
returns-clause-ok g c =
    let n : c.in_ok-octets.octets.items ≢ [] = some_octets _ _ _ (search rules) c.is_empty.ensures c.if-is_empty.false in
    λ p s t i. subst (HoldsParts g.R.EncodeSetParts.extensible (part p s g.R.EncodeSetParts.parts) (joined t (g.R.EncodeSetParts.tree c.args.others)) c.args.rule) (sym c.in_ok-insert_component.ensures.ok)
    (holds_present g.R.EncodeSetParts.extensible p s g.R.EncodeSetParts.parts t (g.R.EncodeSetParts.tree c.args.others) c.args.rule _ c.in_ok-components.ensures.ok c.args.tag c.in_ok-octets.octets.items _
    (own_place c.args.rule p s c.args.tag t c.in_ok-octets.octets.items i.known (part_written p s t (HasOwn c.args.tag) _ _ i c.args.rule _ c.in_ok-octets.ensures.ok) n)
    (part_written p s t (HasOwn c.args.tag) _ _ i c.args.rule _ c.in_ok-octets.ensures.ok) n refl refl)
