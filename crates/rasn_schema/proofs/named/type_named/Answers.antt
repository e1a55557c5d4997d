use Rattle.std.proofs.Common.{◌<◌, length, sym, ap, ◌∙◌}
use Rattle.std.proofs.lemmas.Option.{slice_get_within}
use Rattle.rasn_schema.specs.declared.named.TypeName.{TypeName}
use Rattle.rasn_schema.proofs.Lists.{read_at, some_is}
use Rattle.rasn_schema.proofs.named.type_named.Goals as goal

pub returns : goal.returns
returns c =
    let p = c.in_ok-index.ensures.0 in
    let l = c.args.names.now in
    let i = c.in_ok-index.index in
    let r = c.index-names-index.result in
    let within : i < length l = slice_get_within l i p.0 (sym p.1) in
    let here = read_at l i r within c.index-names-index.is in
    (i, p.0, p.1, p.2, ap (λ (n : TypeName). n.type_id) (some_is p.0 r (p.1 ∙ sym here) ∙ c.index-names-index.is), c.in_ok-index.ensures.1)
