-- Names that are looked up.
use Rattle.std.proofs.Common.{◌≡◌, ◌≢◌, List, ℕ, Option, Some, None, MatchOption, Vec, Global, sym, subst}
use Rattle.std.specs.Prelude.{slice_get}
use Rattle.std.specs.String.{string_bytes}
use Rattle.rasn_schema.specs.declared.type_id.TypeId.{TypeId}
use Rattle.rasn_schema.specs.declared.named.TypeName.{TypeName}
use Rattle.rasn_schema.specs.Named.{IsFirstNamed, IsUnnamed}

pub named_in : (r : Option TypeId) (names : Vec TypeName Global) (ms : List TypeName) (name : List ℕ) (found : Option (Vec TypeName Global)) → found ≡ Some names → ms ≡ names.items
    → MatchOption r ((j : ℕ) (n : TypeName) → Some n ≡ slice_get ms j → string_bytes n.name ≢ name) (λ id. IsFirstNamed ms name id)
    → MatchOption r (IsUnnamed found name) (λ id. (ns : Vec TypeName Global) × (found ≡ Some ns) × IsFirstNamed ns.items name id)
named_in None names ms name found e s h = subst (λ f. IsUnnamed f name) (sym e) (subst (λ l. (j : ℕ) (n : TypeName) → Some n ≡ slice_get l j → string_bytes n.name ≢ name) s h)
named_in (Some id) names ms name found e s h = (names, e, subst (λ l. IsFirstNamed l name id) s h)
