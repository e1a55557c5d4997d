-- A SET without an extension marker that is put in the order of its tags is decoded as one whose parts are listed in this
-- order.
use Rattle.std.proofs.Common.{List, ℕ, false, Result}
use Rattle.rasn_types.specs.Shapes.{Tree, Parts, set, sorted_set}
use Rattle.rasn_types.specs.Readings.{Reading}
use Rattle.rasn_types.specs.Grammar.{Reads}
use Rattle.rasn_types.specs.declared.types.tag.Tag.{Tag}
use Rattle.rasn_types.specs.declared.error.decode.DecodeError.{DecodeError}
use Rattle.rasn_types.proofs.SortedSets.{set_sorted, sorted_listed}
use Rattle.rasn_de.specs.State.{State}
use Rattle.rasn_de.specs.Outcomes.{Outcome, Got, Refused, AllocFailed, outcome, Exact}
use Rattle.rasn_de.specs.Decodes.{Decodes}

-- Readings that relate an input to the same have the same outcome.
exact_alike : (R S : Reading Tree) (input : List ℕ) → ((t : Tree) (rest : List ℕ) → R input t rest → S input t rest) → ((t : Tree) (rest : List ℕ) → S input t rest → R input t rest)
    → (o : Outcome) → Exact R input o → Exact S input o
exact_alike R S input f g (Got t rest) h = (f t rest h.0, λ u s k. h.1 u s (g u s k))
exact_alike R S input f g Refused h = λ u s k. h u s (g u s k)
exact_alike R S input f g AllocFailed h = tt

pub listed_decodes : {D : Type 0} (ps : Parts) (tree : D → Tree) (tag : Tag) (old : State) (result : Result D DecodeError) (new : State)
    → Decodes (sorted_set false tag ps) tree old result new → Decodes (set tag ps) tree old result new
listed_decodes ps tree tag old result new k = record {
  stays = k.stays;
  end = k.end;
  exact = exact_alike (Reads old.rule (sorted_set false tag ps) old.depth old.closing) (Reads old.rule (set tag ps) old.depth old.closing) old.rest
      (λ t rest h. sorted_listed old.rule tag ps old.depth old.closing old.rest t rest h) (λ t rest h. set_sorted old.rule tag ps old.depth old.closing old.rest t rest h)
      (outcome tree result new.rest) k.exact;
}
