-- The names of members, one after the other.
use Rattle.std.proofs.Common.{◌≡◌, ◌⊎◌, ℕ, zero, suc, ◌+◌, ◌≤◌, ◌<◌, List, [], ◌∷◌, Bool, true, false, length, take, map, get_or, Some, None, Option, inl, inr, refl, sym, ap, ◌∙◌, subst, arith}
use Rattle.std.specs.Prelude.{slice_get, is_some, MatchOption}
use Rattle.std.specs.String.{string_bytes}
use Rattle.std.specs.Borrow.{Bor}
use Rattle.std.specs.Str.{bytes_eq}
use Rattle.std.proofs.lemmas.List.{length-map}
use Rattle.std.proofs.lemmas.Slice.Eq.{bytes_eq-Decides}
use Rattle.std.proofs.lemmas.Option.{slice_get_within}
use Rattle.json.specs.Json.{Members, no_members, member}
use Rattle.json.specs.Value.{value_view, members_view}
use Rattle.json.specs.declared.value.Value.{Value as JsonValue}
use Rattle.rasn_schema.specs.declared.types.Component.{Component}
use Rattle.rasn_schema.proofs.Lists.{SoFar, so_far_more, so_far_end, read_at}
use Rattle.rasn_json.specs.Reading.{AreNames, IsAmong, IsComponentName, names_in, names_of}

pub names_seen : {A : Type 0} (ms : List (Bor (List ℕ) × JsonValue A)) → names_in (members_view ms) ≡ names_of ms
names_seen [] = refl
names_seen (m ∷ ms) = ap (λ l. m.0.now ∷ l) (names_seen ms)

pub named_at : {A : Type 0} (ms : List (Bor (List ℕ) × JsonValue A)) (i : ℕ) (m : Bor (List ℕ) × JsonValue A) → Some m ≡ slice_get ms i → Some m.0.now ≡ slice_get (names_of ms) i
named_at [] i m e = absurd cc
named_at (n ∷ ms) zero m e = let s : m ≡ n = cc in ap (λ (x : Bor (List ℕ) × JsonValue _). Some x.0.now) s
named_at (n ∷ ms) (suc i) m e = named_at ms i m e

-- ---- the names that were looked at

abbrev pub NewSoFar : (List ℕ → Type 0) → List (List ℕ) → ℕ → Type 0
NewSoFar P l = SoFar (λ k s. P s × ((i : ℕ) → i < k → Some s ≡ slice_get l i → ⊥)) l

in_front : (l : List (List ℕ)) (n i : ℕ) (s : List ℕ) → i < n → Some s ≡ slice_get l i → Some s ≡ slice_get (take n l) i
in_front [] n i s h e = absurd cc
in_front (x ∷ l) zero i s h e = absurd (omega arith)
in_front (x ∷ l) (suc n) zero s h e = e
in_front (x ∷ l) (suc n) (suc i) s h e = in_front l n i s (omega arith) e

names_take : {A : Type 0} (n : ℕ) (ms : List (Bor (List ℕ) × JsonValue A)) → names_of (take n ms) ≡ take n (names_of ms)
names_take zero ms = refl
names_take (suc n) [] = refl
names_take (suc n) (m ∷ ms) = ap (λ l. m.0.now ∷ l) (names_take n ms)

pub one_new : {A : Type 0} (P : List ℕ → Type 0) (ms before : List (Bor (List ℕ) × JsonValue A)) (n : ℕ) (m : Bor (List ℕ) × JsonValue A) → NewSoFar P (names_of ms) n → Some m ≡ slice_get ms n → P m.0.now
    → before ≡ take n ms → (IsAmong (names_of before) m.0.now → ⊥) → NewSoFar P (names_of ms) (n + 1)
one_new P ms before n m so_far at p b new =
    so_far_more (λ k s. P s × ((i : ℕ) → i < k → Some s ≡ slice_get (names_of ms) i → ⊥)) (names_of ms) n m.0.now (named_at ms n m at)
    (p, λ i h e. new (i, subst (λ l. Some m.0.now ≡ slice_get l i) (sym (ap names_of b ∙ names_take n ms)) (in_front (names_of ms) n i m.0.now h e))) so_far

pub all_new : {A : Type 0} (P : List ℕ → Type 0) (ms : List (Bor (List ℕ) × JsonValue A)) (n : ℕ) → length ms ≤ n → NewSoFar P (names_of ms) n → AreNames P (names_of ms)
all_new P ms n h so_far = λ k s e. so_far_end (λ k s. P s × ((i : ℕ) → i < k → Some s ≡ slice_get (names_of ms) i → ⊥)) (names_of ms) n (omega (arith, length-map ms (λ m. m.0.now))) so_far k s e

pub none_among : {A : Type 0} (ms : List (Bor (List ℕ) × JsonValue A)) (name : List ℕ) (n : ℕ) → length ms ≤ n → SoFar (λ j s. s ≡ name → ⊥) (names_of ms) n → IsAmong (names_of ms) name → ⊥
none_among ms name n h so_far (i, e) = so_far_end (λ j s. s ≡ name → ⊥) (names_of ms) n (omega (arith, length-map ms (λ m. m.0.now))) so_far i name e refl

pub component_named : (ps : List Component) (s : List ℕ) (r : Option ℕ) (P : Type 0) (Q : ℕ → Type 0) → is_some r ≡ true → MatchOption r P (λ k. ((p : Component) × (Some p ≡ slice_get ps k) × (string_bytes p.name ≡ s)) × Q k) → IsComponentName ps s
component_named ps s None P Q t h = cc
component_named ps s (Some k) P Q t (n, q) = (k, n.0, n.1, n.2)

pub told_same : (a b : List ℕ) → true ≡ bytes_eq a b → a ≡ b
told_same a b h = (bytes_eq-Decides a b).0 (sym h)

pub told_other : (a b : List ℕ) → false ≡ bytes_eq a b → a ≡ b → ⊥
told_other a b h e = let x : false ≡ true = h ∙ (bytes_eq-Decides a b).1 e in cc
