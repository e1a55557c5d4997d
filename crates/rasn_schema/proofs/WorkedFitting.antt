-- Values and types that were worked out by hand.
use Rattle.std.proofs.Common.{◌≡◌, ◌⊎◌, Vec, String, Global, ℕ, zero, suc, pos, List, [], ◌∷◌, Contains, inl, inr, refl, sym, ap, subst, arith}
use Rattle.std.proofs.lemmas.Int.{ints}
use Rattle.rasn_types.specs.Tags.{eoc}
use Rattle.rasn_types.specs.Shapes.{number}
use Rattle.rasn_types.specs.CharacterString.{IsDigitOrSpace}
use Rattle.rasn_schema.specs.declared.types.LeafKind.TheVariants.{Numeric}
use Rattle.rasn_schema.specs.declared.types.«Type».{«Type»}
use Rattle.rasn_schema.specs.declared.types.«Type».TheVariants.{Any}
use Rattle.rasn_schema.specs.declared.value.Value.{Value, Null, Octets}
use Rattle.rasn_schema.specs.declared.types.Presence.TheVariants.{Required}
use Rattle.rasn_schema.specs.declared.types.Component.{Component}
use Rattle.rasn_schema.specs.Shapes.{presence_of}
use Rattle.rasn_schema.specs.Trees.{tree_of}
use Rattle.rasn_schema.specs.Reach.{Reaches}
use Rattle.rasn_schema.specs.Fitting.{OctetsFit, AreOctets, IsListOf, IsLeftOutAs, ComponentsFit, EachFits, Fits}
use Rattle.rasn_schema.specs.WorkedFitting.{unknown_and_set, WorkedFitting}
use Rattle.rasn_schema.proofs.ListsOf.{list_to, list_from}

digits : OctetsFit Numeric (49 ∷ (32 ∷ []))
digits zero d l = inl (omega arith, omega arith)
digits (suc zero) d l = inr refl
digits (suc (suc k)) d l = absurd (omega (arith, l))

letter : IsDigitOrSpace 65 → ⊥
letter (inl h) = omega (arith, h.1)
letter (inr e) = omega (arith, e)

itself : (v : Value) → Reaches (Any eoc ∷ []) 1 0 v 0 (Any eoc) v
unfolding Reaches
itself v = inl (refl, refl, refl)

no_other : (v w : Value) → (w ≡ v → ⊥) → Reaches (Any eoc ∷ []) 1 0 v 0 (Any eoc) w → ⊥
unfolding Reaches
no_other v w n (inl (t, l, e)) = n e
no_other v w n (inr (name, ks, e, h)) = cc

open_value : (o : _) → Fits (Any eoc ∷ []) 1 0 (Octets o)
unfolding Fits
open_value o = tt

no_open_null : (levels : ℕ) → Fits (Any eoc ∷ []) levels 0 Null → ⊥
unfolding Fits
no_open_null zero h = h
no_open_null (suc n) h = h

missing : (levels : ℕ) (v : Value) → Fits [] levels 0 v → ⊥
unfolding Fits
missing zero v h = h
missing (suc n) v h = h

not_listed : Contains (pos 1 ∷ (pos 3 ∷ [])) (pos 2) → ⊥
not_listed (zero, l, e) = cc
not_listed (suc zero, l, e) = cc
not_listed (suc (suc k), l, e) = omega (arith, l)

nothing : (types : List «Type») (v : Value) → Fits types 0 0 v → ⊥
unfolding Fits
nothing types v h = h

module _ (name : String Global) (ps : Vec Component Global) (c : Component) (v w : Value) (s : ps.items ≡ c ∷ []) (r : c.presence ≡ Required) (k : c.type_id.0 ≡ 0) (l : IsListOf (w ∷ []) v) where
  abbrev Inner : ℕ → Value → Type 0
  Inner j x = Fits (unknown_and_set name ps) 1 j x

  unknown_in_a_set : (o : _) → IsListOf (Octets o ∷ []) w → Fits (unknown_and_set name ps) 2 1 v
  unfolding Fits
  unknown_in_a_set o m =
      let inner : Inner 0 w = list_to (EachFits AreOctets) (Octets o ∷ []) w m (tt, tt) in
      list_to (ComponentsFit Inner ps.items) (w ∷ []) v l (subst (λ qs. ComponentsFit Inner qs (w ∷ [])) (sym s) (inr (subst (λ j. Inner j w) (sym k) inner), tt))

  only_octets_are_unknown : IsListOf (Null ∷ []) w → Fits (unknown_and_set name ps) 2 1 v → ⊥
  unfolding Fits
  only_octets_are_unknown m h = go (subst (λ qs. ComponentsFit Inner qs (w ∷ [])) s (list_from (ComponentsFit Inner ps.items) (w ∷ []) v l h)).0
    where
      go : IsLeftOutAs (presence_of c.presence) (tree_of w) ⊎ Inner c.type_id.0 w → ⊥
      go (inl a) = subst (λ p. IsLeftOutAs p (tree_of w)) (ap presence_of r) a
      go (inr a) = (list_from (EachFits AreOctets) (Null ∷ []) w m (subst (λ j. Inner j w) k a)).0

six_is_not_five : number (pos 5) ≡ number (pos 6) → ⊥
six_is_not_five e = cc

pub worked_fitting : WorkedFitting
worked_fitting = record {
  most_of_32_bits = (omega (arith, ints), omega (arith, ints));
  past_32_bits = λ h. omega (arith, ints, h.1);
  nothing_below_zero = λ h. omega (arith, ints, h.0);
  digits = digits;
  no_letter = λ h. letter (h 0 0 (omega arith));
  two_octets = refl;
  not_one_octet = λ e. omega (arith, e);
  a_bit = refl;
  no_trailing_0_bit = λ e. cc;
  trailing_0_bit_without_names = tt;
  truth = refl;
  no_number_is_a_truth = λ h. h;
  octets_are_no_text = λ o h. h;
  listed = (1, omega arith, refl);
  not_listed = not_listed;
  null_is_no_list = λ h. h;
  null_is_no_list_of = λ vs h. h;
  nothing_is_chosen = λ h. h;
  left_out = refl;
  never_left_out = λ h. h;
  default_left_out = refl;
  not_left_out = six_is_not_five;
  no_components = tt;
  not_one_value_more = λ v h. h;
  not_one_value_less = λ p h. h;
  each_truth = (refl, tt);
  not_each = λ h. let e = h.1.0 in cc;
  open_value = open_value;
  no_open_null = no_open_null;
  unknown_in_a_set = λ name ps c v w o s r k l m. unknown_in_a_set name ps c v w s r k l o m;
  only_octets_are_unknown = λ name ps c v w s r k l m h. only_octets_are_unknown name ps c v w s r k l m h;
  nothing_of_a_missing_type = missing;
  nothing_at_no_level = nothing;
  reaches_itself = itself;
  reaches_no_other = no_other;
  chosen_by_nothing = λ v. refl;
  chosen_by_its_index = λ b. (refl, refl);
  not_by_another = λ b h. omega (arith, h.0);
  null_is_not_chosen = λ w h. h;
}
