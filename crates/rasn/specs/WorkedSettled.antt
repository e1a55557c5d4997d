-- What isn't settled: a call that does nothing, alternatives and parts without errors, and a SET without a value. What
-- isn't determined: a call, and a function that is called on components, with more results than one.
use Rattle.std.specs.Prelude.{◌≡◌, ℕ, List, [], ◌∷◌, true, false, IfOk, None, Some, Ok}
use Rattle.rasn_types.specs.declared.types.tag.Tag.{Tag}
use Rattle.rasn_types.specs.Tags.{in_universal}
use Rattle.rasn_types.specs.declared.types.any.Any.{Any}
use Rattle.rasn_types.specs.Shapes.{Tree, numbers, done, choice}
use Rattle.rasn_types.specs.Shapes.Parts.{none}
use Rattle.rasn_de.specs.Constructed.{sequence_header, DecodesInside}
use Rattle.rasn_de.specs.Sequence.{is_read_by_initializer, MakesInitial, DecodesContents}
use Rattle.rasn_de.specs.Set.{DecodesSetBy}
use Rattle.rasn_de.specs.ValueErrors.{DecodesOr}
use Rattle.rasn.specs.OneRefusal.{Settles, IsName, AreSettled, AreSlotsSettled, IsDetermined, IsMadeOnce, IsAlwaysMade, CanMake}
use Rattle.rasn.specs.WorkedWholes.{two, choice_errors}

-- Where there are no alternatives and no components, each is refused, which
-- needs an error; and the parts of a SET, even if there are none, are made as a value.
pub record WorkedSettled : Type 0 where
  pub does_nothing : Settles {D = Tree} (λ _ _ _. ⊥) → ⊥
  pub a_name : IsName (83 ∷ [])
  pub no_alternatives : (name : List ℕ) → IsName name → AreSettled false none (λ (a : Any). 0) numbers name (λ _ _ _ _. Unit {0})
  pub without_errors : (name : List ℕ) → AreSettled false none (λ (a : Any). 0) numbers name (λ _ _ _ _. ⊥) → ⊥
  pub no_parts : (name : List ℕ) → IsName name → AreSlotsSettled {P = Unit {0}} {S = Unit {0}} false none (λ v. done) (λ c. []) (λ c. []) name (λ _ _ _ _. Unit {0})
  pub without_value : (name : List ℕ) → AreSlotsSettled {P = ⊥} {S = Unit {0}} false none (λ v. done) (λ c. []) (λ c. []) name (λ _ _ _ _. Unit {0}) → ⊥
  -- One value before one rest; any result; any error; one value before any rest.
  pub one_result : IsDetermined {D = Unit {0}} (λ old r new. (r ≡ Ok tt) × (new ≡ old))
  pub any_result : IsDetermined {D = Unit {0}} (λ old r new. new ≡ old) → ⊥
  pub any_error : IsDetermined {D = Unit {0}} (λ old r new. IfOk r (λ v. ⊥) × (new ≡ old)) → ⊥
  pub any_rest : IsDetermined {D = Unit {0}} (λ old r new. r ≡ Ok tt) → ⊥
  -- One value is made; any result; any error; a value where there are no components, whatever their readings are.
  pub one_made : IsMadeOnce {L = List Tree} {D = Unit {0}} (λ l. l) (λ l r. r ≡ Ok tt)
  pub any_made : IsMadeOnce {L = List Tree} {D = Unit {0}} (λ l. l) (λ l r. Unit {0}) → ⊥
  pub any_rejected : IsMadeOnce {L = List Tree} {D = Unit {0}} (λ l. l) (λ l r. IfOk r (λ v. ⊥)) → ⊥
  pub made_of_more : IsMadeOnce {L = List Tree} {D = Unit {0}} (λ l. []) (λ l r. IfOk r (λ v. l ≡ [])) → ⊥
  pub always_made : IsAlwaysMade {L = List Tree} {D = Unit {0}} (λ l r. r ≡ Ok tt)
  pub never_made : IsAlwaysMade {L = List Tree} {D = Unit {0}} (λ l r. ⊥) → ⊥
  pub no_initializer : CanMake {I = Unit {0}} {D = Unit {0}} (λ i r. ⊥) None
  pub makes_nothing : CanMake {I = Unit {0}} {D = Unit {0}} (λ i r. ⊥) (Some tt) → ⊥
  -- A SET of a BOOLEAN and a NULL, of which a function makes one value or any result; a SEQUENCE with a required part, of
  -- which it makes any.
  pub set_of_one_result : (tag : Tag) → IsDetermined (DecodesSetBy {F = Tree} {D = Unit {0}} (DecodesOr (choice two) (λ t. t) choice_errors) (λ v r. r ≡ Ok tt) tag)
  pub set_of_any_result : IsDetermined (DecodesSetBy {F = Tree} {D = Unit {0}} (DecodesOr (choice two) (λ t. t) choice_errors) (λ v r. Unit {0}) (in_universal 17)) → ⊥
  pub sequence_of_any_result : IsDetermined (DecodesInside (DecodesContents {D = Unit {0}} (is_read_by_initializer 1 false true) (MakesInitial {I = Unit {0}} (λ i r. ⊥) None) (λ old r new. new ≡ old)) (sequence_header (in_universal 16))) → ⊥
