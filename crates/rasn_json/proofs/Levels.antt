-- The JSON of a value, one level deeper.
use Rattle.std.proofs.Common.{◌≡◌, ℕ, zero, suc, Some, refl, sym, ap, subst, List, Result, Ok, Err, ◌∙◌, arith}
use Rattle.std.specs.Prelude.{slice_get, IfErr, IfOk, OnErr, OnOk, MatchResult, true, false, is_err, is_ok}
use Rattle.json.specs.Json.{Json}
use Rattle.rasn_schema.specs.declared.types.«Type».{«Type»}
use Rattle.rasn_schema.specs.declared.value.Value.{Value}
use Rattle.rasn_json.specs.Json.{unknown_in, JsonAt, JsonBy, JsonFound}

pub json_below : (types : List «Type») (levels below k : ℕ) (ty : «Type») (v : Value) (j : Json) → levels ≡ suc below → Some ty ≡ slice_get types k → JsonBy (unknown_in types) (JsonAt types below) ty v j → JsonAt types levels k v j
unfolding JsonAt
json_below types zero below k ty v j n e h = absurd (omega (arith, n))
json_below types (suc m) below k ty v j n e h =
    let s : m ≡ below = omega (arith, n) in
    subst (λ o. JsonFound (unknown_in types) (λ i w x. JsonAt types m i w x) o v j) e (subst (λ b. JsonBy (unknown_in types) (λ i w x. JsonAt types b i w x) ty v j) (sym s) h)

-- What holds of a result holds of one that is weaker.
pub if_ok : {A E : Type 0} (P Q : A → Type 0) (r : Result A E) → ((v : A) → P v → Q v) → IfOk r P → IfOk r Q
if_ok P Q (Ok v) f h = f v h
if_ok P Q (Err e) f h = tt

-- ---- results that are handed on

no_error : {A E : Type 0} (r : Result A E) (v : A) → is_err r ≡ true → r ≡ Ok v → ⊥
no_error (Ok u) v h e = cc
no_error (Err x) v h e = cc

same_value : {A E : Type 0} (u v : A) (r : Result A E) → r ≡ Ok u → r ≡ Ok v → u ≡ v
same_value u v r e f = let g : Ok u ≡ Ok v = sym e ∙ f in cc

-- What holds of the value of a result that was handed on.
pub handed : {A E F : Type 0} (P : A → Type 0) (outcome : Result A E) (r : Result A F) (v : A) → MatchResult outcome (λ w. r ≡ Ok w) (λ _. is_err r ≡ true) → r ≡ Ok v → IfOk outcome P → P v
handed P (Ok w) r v m e h = subst P (same_value w v r m e) h
handed P (Err x) r v m e h = absurd (no_error r v m e)

pub was_ok : {A E F : Type 0} (outcome : Result A E) (r : Result A F) (v : A) → MatchResult outcome (λ w. r ≡ Ok w) (λ _. is_err r ≡ true) → r ≡ Ok v → is_ok outcome ≡ true
was_ok (Ok w) r v m e = refl
was_ok (Err x) r v m e = absurd (no_error r v m e)

not_true : false ≡ true → ⊥
not_true e = cc

pub or_ok : {A E F : Type 0} (P : A → Type 0) (outcome : Result A E) (r : Result A F) → MatchResult outcome (λ w. r ≡ Ok w) (λ _. is_err r ≡ true) → IfOk outcome P → IfOk r P
or_ok P (Ok w) r m h = subst (λ x. IfOk x P) (sym m) h
or_ok P (Err x) (Ok v) m h = absurd (not_true m)
or_ok P (Err x) (Err y) m h = tt

-- What holds where an outcome is a value holds where its value was handed on.
pub passed : {A E F : Type 0} (P : Type 0) (outcome : Result A E) (r : Result A F) (v : A) → MatchResult outcome (λ w. r ≡ Ok w) (λ _. is_err r ≡ true) → r ≡ Ok v → OnOk outcome P → P
passed P (Ok w) r v m e h = h
passed P (Err x) r v m e h = absurd (no_error r v m e)

-- The same where nothing is said of the value, and of an error that was kept.
pub kept_ok : {A E F : Type 0} (P : Type 0) (outcome : Result A E) (r : Result A F) → MatchResult outcome (λ w. r ≡ Ok w) (λ _. is_err r ≡ true) → OnOk outcome P → OnOk r P
kept_ok P (Ok w) r m h = subst (λ x. OnOk x P) (sym m) h
kept_ok P (Err x) (Ok v) m h = absurd (not_true m)
kept_ok P (Err x) (Err y) m h = tt

pub kept_err : {A E F : Type 0} (P : E → Type 0) (outcome : Result A E) (r : Result A F) (e : E) → MatchResult outcome (λ w. r ≡ Ok w) (λ _. is_err r ≡ true) → IfErr outcome (λ x. e ≡ x) → IfErr outcome P → OnErr r (P e)
kept_err P (Ok w) r e m k h = subst (λ x. OnErr x (P e)) (sym m) tt
kept_err P (Err x) (Ok v) e m k h = absurd (not_true m)
kept_err P (Err x) (Err y) e m k h = subst P (sym k) h
