use Rattle.std.proofs.Common.{◌≡◌, ◌<◌, ℕ, List, Some, refl, sym, ap, ◌∙◌, subst, arith, string_bytes, get_or}
use Rattle.std.specs.Prelude.{slice_get}
use Rattle.std.proofs.lemmas.Option.{slice_get_within}
use Rattle.rasn_schema.specs.declared.types.NamedNumber.{NamedNumber}
use Rattle.rasn_schema.proofs.Lists.{read_at, some_is}
use Rattle.rasn_schema.proofs.Fitted.{named_listed}
use Rattle.rasn_json.proofs.Levels.{if_ok}
use Rattle.rasn_json.proofs.number.number_named.Goals as goal

same_named : (l : List NamedNumber) (i : ℕ) (m n : NamedNumber) → Some n ≡ slice_get l i → m ≡ get_or l i m → m ≡ n
same_named l i m n e f = some_is m n (read_at l i m (slice_get_within l i n (sym e)) f ∙ sym e)

pub returns-in-Some-clause-known : goal.returns-in-Some-clause-known
returns-in-Some-clause-known c =
    let n = c.in-Some.ensures.0 in
    let same = same_named c.args.numbers.now c.in-Some.index c.index-numbers-index.result n.0 n.1 c.index-numbers-index.is in
    if_ok _ _ c.number_of.result (λ x e. named_listed c.args.numbers.now c.in-Some.index n.0 x n.1 (sym (e ∙ ap (λ (m : NamedNumber). m.number) same))) c.number_of.ensures

pub returns-in-Some-clause-reads : goal.returns-in-Some-clause-reads
returns-in-Some-clause-reads c =
    let n = c.in-Some.ensures.0 in
    let same = same_named c.args.numbers.now c.in-Some.index c.index-numbers-index.result n.0 n.1 c.index-numbers-index.is in
    if_ok _ _ c.number_of.result (λ x e. (c.in_ok-name.name.now, c.in_ok-name.ensures, c.in-Some.index, n.0, n.1, n.2, sym (e ∙ ap (λ (m : NamedNumber). m.number) same))) c.number_of.ensures
