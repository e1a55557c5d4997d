-- Names of types, of which one is added at the end.
use Rattle.std.proofs.Common.{◌≡◌, ℕ, zero, suc, List, [], ◌∷◌, ◌++◌, Some, refl, sym, subst}
use Rattle.std.specs.Prelude.{slice_get}
use Rattle.std.specs.String.{string_bytes}
use Rattle.rasn_schema.specs.declared.type_id.TypeId.{TypeId}
use Rattle.rasn_schema.specs.declared.named.TypeName.{TypeName}
use Rattle.rasn_schema.specs.Named.{IsNamed}

get_last : {X : Type 0} (xs : List X) (y : X) → (k : ℕ) × (Some y ≡ slice_get (xs ++ y ∷ []) k)
get_last [] y = (zero, refl)
get_last (x ∷ xs) y = let (k, h) = get_last xs y in (suc k, h)

get_more : {X : Type 0} (xs : List X) (y : X) (k : ℕ) (x : X) → Some x ≡ slice_get xs k → Some x ≡ slice_get (xs ++ y ∷ []) k
get_more [] y k x h = cc
get_more (z ∷ zs) y zero x h = h
get_more (z ∷ zs) y (suc k) x h = get_more zs y k x h

pub named_last : (ns ms : List TypeName) (n : TypeName) (name : List ℕ) (id : TypeId) → ms ≡ ns ++ n ∷ [] → string_bytes n.name ≡ name → n.type_id ≡ id → IsNamed ms name id
named_last ns ms n name id e named same =
    let (k, h) = get_last ns n in subst (λ (l : List TypeName). IsNamed l name id) (sym e) (k, n, h, named, same)

pub named_more : (ns ms : List TypeName) (n : TypeName) (name : List ℕ) (id : TypeId) → ms ≡ ns ++ n ∷ [] → IsNamed ns name id → IsNamed ms name id
named_more ns ms n name id e (k, m, h, named, same) =
    subst (λ (l : List TypeName). IsNamed l name id) (sym e) (k, m, get_more ns n k m h, named, same)
