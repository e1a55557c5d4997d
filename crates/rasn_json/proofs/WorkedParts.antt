-- Names and refusals that were worked out by hand.
use Rattle.std.proofs.Common.{◌≡◌, ◌<◌, ◌++◌, ◌∙◌, ℕ, zero, suc, Vec, List, [], ◌∷◌, true, Some, length, length-append, inl, inr, refl, sym, ap, subst, arith}
use Rattle.std.specs.Prelude.{codes, slice_get}
use Rattle.std.specs.Global.{Global}
use Rattle.std.specs.String.{string_bytes}
use Rattle.rasn_types.specs.Tags.{eoc}
use Rattle.rasn_types.specs.declared.types.constraints.Constraints.{Constraints}
use Rattle.rasn_schema.specs.declared.type_id.TypeId.{TypeId}
use Rattle.rasn_schema.specs.declared.types.LeafKind.TheVariants.{BitString, NamedBits}
use Rattle.rasn_schema.specs.declared.types.Alternative.{Alternative}
use Rattle.rasn_schema.specs.declared.types.NamedNumber.{NamedNumber}
use Rattle.rasn_schema.specs.declared.types.«Type».{«Type»}
use Rattle.rasn_schema.specs.declared.types.«Type».TheVariants.{Any, Enumerated}
use Rattle.rasn_schema.specs.declared.value.Value.{Value, Null, Octets}
use Rattle.rasn_schema.proofs.Lists.{some_is}
use Rattle.rasn_json.specs.declared.error.JsonError.{JsonError}
use Rattle.rasn_json.specs.declared.error.JsonErrorKind.{JsonErrorKind}
use Rattle.rasn_json.specs.declared.error.JsonErrorKind.TheVariants.{NoType, OutOfMemory, Unfit}
use Rattle.rasn_json.specs.declared.error.JsonStep.{JsonStep}
use Rattle.rasn_json.specs.declared.error.JsonStep.TheVariants.{Element}
use Rattle.rasn_json.specs.Json.{IsSize}
use Rattle.rasn_json.specs.Names.{HaveDistinctNames, HaveOwnNames, HasDistinctNames, name_of_alternative, name_of_number}
use Rattle.rasn_json.specs.Reading.{AreNames, IsComponentName, IsNameOfBits}
use Rattle.rasn_json.specs.Refusals.{AreRefusedBits, AreRefusedElements, HasOpen, IsMemory, IsOfElement, IsOfItself, IsOfPart, IsRefusedAt, IsRefusedOpen}
use Rattle.rasn_json.specs.WorkedParts.{WorkedNames, WorkedRefusals}

-- ---- names

two_names : AreNames IsNameOfBits (codes "length" ∷ codes "value" ∷ [])
two_names zero s e = (inr (some_is s (codes "length") e), λ i lt at. absurd (omega (arith, lt)))
two_names (suc zero) s e = (inl (some_is s (codes "value") e), λ i lt at. before i lt at)
  where
    before : (i : ℕ) → i < 1 → Some s ≡ slice_get (codes "length" ∷ codes "value" ∷ []) i → ⊥
    before zero lt at =
        let d = ap length (sym (some_is s (codes "length") at) ∙ some_is s (codes "value") e) in omega (arith, d)
    before (suc i) lt at = omega (arith, lt)
two_names (suc (suc k)) s e = cc

no_name_twice : AreNames IsNameOfBits (codes "value" ∷ codes "value" ∷ []) → ⊥
no_name_twice h = (h 1 (codes "value") refl).1 0 (omega arith) refl

no_other_name : AreNames IsNameOfBits (codes "bits" ∷ []) → ⊥
no_other_name h = go (h 0 (codes "bits") refl).0
  where
    go : IsNameOfBits (codes "bits") → ⊥
    go (inl e) = omega (arith, ap length e)
    go (inr e) = omega (arith, ap length e)

one_alternative : (a : Alternative) → HaveOwnNames name_of_alternative (a ∷ [])
one_alternative a zero zero x y d e f = refl
one_alternative a (suc i) k x y d e f = cc
one_alternative a zero (suc k) x y d e f = cc

not_two : (m n : NamedNumber) (ns : Vec NamedNumber Global) → ns.items ≡ m ∷ n ∷ []
    → string_bytes m.name ≡ string_bytes n.name → HaveDistinctNames (Enumerated eoc ns ∷ []) → ⊥
not_two m n ns e same h =
    let own : HaveOwnNames name_of_number (m ∷ n ∷ []) =
    subst (HaveOwnNames name_of_number) e (h 0 (Enumerated eoc ns) refl) in
    let d : 0 ≡ 1 = own 0 1 m n refl refl same in omega (arith, d)

one_type : HaveDistinctNames (Any eoc ∷ [])
one_type zero ty e = subst HasDistinctNames (sym (some_is ty (Any eoc) e)) tt
one_type (suc k) ty e = cc

no_types : HaveDistinctNames []
no_types k ty e = cc

pub worked_names : WorkedNames
worked_names = record {
  two_names = two_names;
  no_name_twice = no_name_twice;
  no_other_name = no_other_name;
  name_of_the_second = λ p q. (1, q, refl, refl);
  no_name_of_none = λ s h. none s h;
  one_alternative = one_alternative;
  no_types = no_types;
  type_without_names = one_type;
  not_two_of_a_name = not_two;
}
  where
    none : (s : List ℕ) → IsComponentName [] s → ⊥
    none s (i, p, at, is) = cc

-- ---- refusals

-- The way to a part isn't empty, and the last step tells which part it is.
no_steps : (l : List JsonStep) (x : JsonStep) → [] ≡ l ++ x ∷ [] → ⊥
no_steps l x e = omega (arith, ap length e, length-append l (x ∷ []))

no_part : (kind : JsonErrorKind) (S : JsonStep → Type 0) (P : JsonError → Type 0) (e : JsonError) → IsOfItself kind e
    → IsOfPart S P e → ⊥
no_part kind S P e (k, none) (d, step, s, p, same, steps) = no_steps d.steps.items step (sym none ∙ steps)

too_few : (c : Constraints) (e : JsonError) → AreRefusedBits 0 NamedBits c (Some 8) (true ∷ []) e → ⊥
too_few c e (wrong, i) = wrong (inr (refl, omega arith))

not_one : IsSize BitString 8 1 → ⊥
not_one (inl e) = omega (arith, e)
not_one (inr (e, lt)) = cc

last_is : (l m : List JsonStep) (x y : JsonStep) → l ++ x ∷ [] ≡ m ++ y ∷ [] → x ≡ y
last_is [] [] x y e = cc
last_is [] (b ∷ m) x y e = absurd (omega (arith, ap length e, length-append m (y ∷ [])))
last_is (a ∷ l) [] x y e = absurd (omega (arith, ap length e, length-append l (x ∷ [])))
last_is (a ∷ l) (b ∷ m) x y e = let f : l ++ x ∷ [] ≡ m ++ y ∷ [] = cc in last_is l m x y f

other_element : (P Q : JsonError → Type 0) (e : JsonError) → IsOfElement 1 P e → IsOfElement 0 Q e → ⊥
other_element P Q e (d, step, s, p, same, steps) (b, other, t, q, alike, ways) =
    let f : Element 1 ≡ Element 0 = sym s ∙ (last_is d.steps.items b.steps.items step other (sym steps ∙ ways) ∙ t) in
    let g : ◌≡◌ {A = ℕ} 1 0 = cc in omega (arith, g)

open_is_not_refused : (o : _) (e : JsonError) → HasOpen (Octets o) → IsRefusedOpen (Octets o) e → ⊥
open_is_not_refused o e (j, h) x = x.0 j h

null_is_refused : (e : JsonError) → IsOfItself Unfit e → IsRefusedOpen Null e
null_is_refused e x = (λ j h. h, x)

second : (o : _) (e : JsonError) → HasOpen (Octets o) → IsOfElement 1 (IsOfItself Unfit) e
    → AreRefusedElements HasOpen IsRefusedOpen 0 (Octets o ∷ Null ∷ []) e
second o e h (d, step, s, p, same, steps) = inr (h, inl (d, step, s, null_is_refused d p, same, steps))

first : (o : _) (e : JsonError) → HasOpen (Octets o) → AreRefusedElements HasOpen IsRefusedOpen 0 (Octets o ∷ []) e → ⊥
first o e h (inl (d, step, s, p, same, steps)) = open_is_not_refused o d h p
first o e h (inr (w, x)) = x

past : (e : JsonError) → IsOfElement 1 (IsOfItself Unfit) e
    → AreRefusedElements HasOpen IsRefusedOpen 0 (Null ∷ Null ∷ []) e → ⊥
past e h (inl x) = other_element (IsOfItself Unfit) (IsRefusedOpen Null) e h x
past e h (inr ((j, w), x)) = w

at_open : (v : Value) (e : JsonError) → IsRefusedOpen v e → IsRefusedAt (Any eoc ∷ []) 1 0 0 v e
unfolding IsRefusedAt
at_open v e x = x

from_open : (v : Value) (e : JsonError) → IsRefusedAt (Any eoc ∷ []) 1 0 0 v e → IsRefusedOpen v e
unfolding IsRefusedAt
from_open v e x = x

missing : (v : Value) (id : TypeId) (e : JsonError) → id.0 ≡ 7 → IsOfItself (NoType id) e → IsRefusedAt [] 1 0 7 v e
unfolding IsRefusedAt
missing v id e is x = (id, is, x)

no_memory : (types : List «Type») (k : ℕ) (v : Value) (e : JsonError) → IsMemory e → IsRefusedAt types 0 0 k v e → ⊥
unfolding IsRefusedAt
no_memory types k v e m x = let f : OutOfMemory ≡ Unfit = sym m ∙ x.0 in cc

pub worked_refusals : WorkedRefusals
worked_refusals = record {
  too_few_bits = λ c e x. (not_one, x);
  filled_bits = too_few;
  no_object_inside = λ c e x. (refl, x);
  an_object_inside = λ c e x. let z = x.0 in omega (arith, z);
  null_is_not_open = λ e x. at_open Null e (null_is_refused e x);
  open_value = λ o e h x. open_is_not_refused o e h (from_open (Octets o) e x);
  missing_type = missing;
  no_memory = no_memory;
  second_element = second;
  not_the_first = first;
  not_past_the_first = past;
  no_part_of_itself = λ kind name e x y. no_part kind _ _ e x y;
}
