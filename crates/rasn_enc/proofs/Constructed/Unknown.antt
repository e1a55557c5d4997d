-- Unknown values are written as their octets, one value after the other.
use Rattle.std.proofs.Common.{◌≡◌, ◌≢◌, ◌≤◌, ◌-◌, ◌||◌, ℕ, List, [], ◌∷◌, ◌++◌, length, map, take, drop, get_or, arith, rules, refl, sym, ap, ap₂, ◌∙◌, subst, None, nat_eq, not, T, Bool, true, false, Result, IfErr, inl, inr}
use Rattle.std.proofs.lemmas.Bool.Decides.{nat_tests}
use Rattle.std.proofs.lemmas.List.{append_assoc, append-nil, take_rest}
use Rattle.std.proofs.lemmas.Result.{IfErr-weaker}
use Rattle.rasn_types.specs.Shapes.{Tree, numbers, unknown}
use Rattle.rasn_types.specs.Trees.{list_tree}
use Rattle.rasn_types.specs.Contents.{joined_lists}
use Rattle.rasn_types.specs.Bytes.{Bytes, IsUntaggedOpen, Each, TagsOf}
use Rattle.rasn_types.specs.declared.error.encode.EncodeError.{EncodeError}
use Rattle.rasn_types.proofs.SetOf.Same.{items_one}
use Rattle.rasn_enc.specs.View.{View, appended}
use Rattle.rasn_enc.specs.Encoding.{AppendsEncoding, EncodeFails}
use Rattle.rasn_enc.specs.Unknown.{have_octets, FailsAtUnknown}
use Rattle.rasn_enc.proofs.Leaves.Segments.{joined_one}
use Rattle.rasn_enc.proofs.OwnTypes.Sequence.{appended-nil, appended-more}

-- Octets of the first values follow the last list, and the rest of the values remains.
pub record ValuesSoFar (values rest : List (List ℕ)) (v w : View) : Type 0 where
  pub front : List (List ℕ)
  pub is : values ≡ front ++ rest
  pub appended : w ≡ appended v (joined_lists front) []

abbrev pub values_start : (values : List (List ℕ)) (v : View) → ValuesSoFar values values v v
values_start values v = record { front = []; is = refl; appended = appended-nil v }

-- A list that isn't empty is its first element and those after it.
pub first_of : (l : List (List ℕ)) (x : List ℕ) → 1 ≤ length l → x ≡ get_or l 0 x → l ≡ x ∷ take (length l - 1) (drop 1 l)
first_of [] x h e = absurd (omega arith)
first_of (y ∷ l) x h e = rw e (ap (λ m. y ∷ m) (sym (take_rest (y ∷ l) 1)))

pub values_more : (values rest after : List (List ℕ)) (x : List ℕ) (v u w : View) → ValuesSoFar values rest v u → rest ≡ x ∷ after → w ≡ appended u x [] → ValuesSoFar values after v w
values_more values rest after x v u w k e a = record {
  front = k.front ++ x ∷ [];
  is = k.is ∙ (ap (λ l. k.front ++ l) e ∙ sym (append_assoc k.front (x ∷ []) after));
  appended = a ∙ (ap (λ (z : View). appended z x []) k.appended ∙ (appended-more v (joined_lists k.front) x [] [] ∙ ap (λ l. appended v l []) (sym (joined_one k.front x))));
}

pub values_end : (values : List (List ℕ)) (v w : View) → ValuesSoFar values [] v w → w ≡ appended v (joined_lists values) []
values_end values v w k = k.appended ∙ ap (λ l. appended v (joined_lists l) []) (sym (k.is ∙ append-nil k.front))

is_longer : (x : ℕ) (l : List ℕ) (b : Bool) → b ≡ nat_eq (length (x ∷ l)) 0 → b ≡ false
is_longer x l true e = let n : length (x ∷ l) ≡ 0 = search (rules, nat_tests) in absurd (omega (arith, n))
is_longer x l false e = refl

has_octets : (x : ℕ) (l : List ℕ) (values : List (List ℕ)) → T (have_octets ((x ∷ l) ∷ values))
has_octets x l values = subst (λ b. T (not b || have_octets values)) (sym (is_longer x l _ refl)) tt

-- Where no value has octets, there are none.
no_octets : (values : List (List ℕ)) → (T (have_octets values) → ⊥) → joined_lists values ≡ []
no_octets [] n = refl
no_octets ([] ∷ values) n = no_octets values n
no_octets ((x ∷ l) ∷ values) n = absurd (n (has_octets x l values))

-- A test for octets says that there are none.
pub none_kept : (b : Bool) (l values : List (List ℕ)) → b ≡ have_octets l → l ≡ values → b ≡ false → T (have_octets values) → ⊥
none_kept true l values e f n h = cc
none_kept false l values e f n h = subst T (ap have_octets (sym f) ∙ sym e) h

some_octets : (values : List (List ℕ)) → T (have_octets values) → joined_lists values ≢ []
some_octets [] h e = h
some_octets ([] ∷ values) h e = some_octets values h e
some_octets ((x ∷ l) ∷ values) h e = cc

kept : (values : List (List ℕ)) → Each (λ (u : Tree) c. u ≡ numbers c) (map numbers values) values
kept [] = refl
kept (x ∷ values) = (x, values, refl, refl, kept values)

-- Trees that keep these octets are those of the values.
kept_one : (values : List (List ℕ)) (us : List Tree) (bs : List (List ℕ)) → us ≡ map numbers values → Each (λ (u : Tree) c. u ≡ numbers c) us bs → bs ≡ values
kept_one [] [] bs e h = h
kept_one [] (u ∷ us) bs e h = cc
kept_one (x ∷ values) [] bs e h = cc
kept_one (x ∷ values) (u ∷ us) bs e (b, more, f, g, h) =
    let i : u ≡ numbers x = cc in
    let j : us ≡ map numbers values = cc in
    let k : numbers b ≡ numbers x = sym g ∙ i in
    let l : b ≡ x = cc in
    f ∙ ap₂ ◌∷◌ l (kept_one values us more j h)

no_tags : (octets : List ℕ) → octets ≡ [] → TagsOf (octets ∷ []) []
no_tags [] e = refl
no_tags (x ∷ l) e = cc

-- For the clause on success.
pub unknown_encoded : (values : List (List ℕ)) (v w : View) → (T (have_octets values) → v.last.tags ≡ None) → w ≡ appended v (joined_lists values) [] → AppendsEncoding unknown (list_tree numbers values) v w
unfolding Bytes IsUntaggedOpen
unknown_encoded values v w n a = record {
  octets = joined_lists values;
  defined = (map numbers values, values, refl, kept values, refl);
  tags = [];
  heads = λ k. no_tags (joined_lists values) (no_octets values (λ h. k (n h)));
  tagged = λ k b. no_octets values (λ h. k (n h));
  appended = a;
}

-- The same, where no value has octets.
pub unknown_none : (values : List (List ℕ)) (v : View) → (T (have_octets values) → ⊥) → AppendsEncoding unknown (list_tree numbers values) v v
unknown_none values v n = unknown_encoded values v v (λ h. absurd (n h)) (appended-nil v ∙ ap (λ l. appended v l []) (sym (no_octets values n)))

-- For the clause on refusals.
unknown_refused : (values : List (List ℕ)) (v : View) (e : EncodeError) → FailsAtUnknown values v e → EncodeFails unknown (list_tree numbers values) v e
unfolding Bytes IsUntaggedOpen
unknown_refused values v e (s, inl (k, told)) = record {
  why = inr (inr (record {
    bare = tt;
    some = λ octets (us, bs, f, h, g) n.
        let i : us ≡ map numbers values = sym (items_one (map numbers values) us f) in
        some_octets values s (ap joined_lists (sym (kept_one values us bs i h)) ∙ (sym g ∙ n));
    keeps = k;
  }));
}
unknown_refused values v e (s, inr (k, m)) = record { why = inl (ap (λ (x : EncodeError). x.kind) m) }

pub unknown_fails : {R : Type 0} (r : Result R EncodeError) (values : List (List ℕ)) (v : View) → IfErr r (FailsAtUnknown values v) → IfErr r (EncodeFails unknown (list_tree numbers values) v)
unknown_fails r values v h = IfErr-weaker r _ _ (λ e k. unknown_refused values v e k) h
