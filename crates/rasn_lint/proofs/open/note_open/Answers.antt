use Rattle.std.specs.Prelude.{OnOk}
use Rattle.std.proofs.Common.{◌≡◌, ◌++◌, List, Some, sym, subst}
use Rattle.rasn_lint.specs.declared.departure.Departure.{Departure}
use Rattle.rasn_lint.specs.declared.open.Wanted.TheVariants.{All}
use Rattle.rasn_lint.specs.Listed.{HasAllInside}
use Rattle.rasn_lint.proofs.open.note_open.Goals as goal

pub returns-in-Any-clause-complete : goal.returns-in-Any-clause-complete
returns-in-Any-clause-complete c =
    subst (λ z. OnOk c.note_any.result (c.args.wanted ≡ All → (ds : List Departure) → c.note_any.new.list.items ≡ c.args.list.now.items ++ ds → HasAllInside c.args.way.part.now (Some z) ds)) (sym c.in-Any.is) c.note_any.ensures.complete

pub returns-in-Unknown-clause-complete : goal.returns-in-Unknown-clause-complete
returns-in-Unknown-clause-complete c =
    subst (λ z. OnOk c.note_unknown.result (c.args.wanted ≡ All → (ds : List Departure) → c.note_unknown.new.list.items ≡ c.args.list.now.items ++ ds → HasAllInside c.args.way.part.now (Some z) ds)) (sym c.in-Unknown.is) c.note_unknown.ensures.complete
