-- When a message has no departures, and what follows it.
use Rattle.std.proofs.Common.{◌≡◌, ◌≢◌, ◌<◌, ◌≤◌, ◌+◌, inl, inr, ℕ, suc, List, [], ◌∷◌, ◌++◌, length, drop, get_or, drop-cons, add-one, Result, Ok, Err, Bool, true, false, Option, Some, None, Vec, Global, vec_len, ◌==◌, refl, sym, ap, ◌∙◌, subst, arith}
use Rattle.std.specs.Prelude.{◌↔◌, ◌⊎◌, if◌then◌else◌, IfOk, is_some, not, slice_get}
use Rattle.std.specs.List.{AllByRecursion}
use Rattle.std.proofs.lemmas.Bool.Decides.{nat_tests}
use Rattle.std.proofs.lemmas.List.{drop_all}
use Rattle.std.proofs.Math.Seq.{drop-append_seam}
use Rattle.std.specs.List.Sorted.{IsNonDecreasingBy, IsPermutation}
use Rattle.std.proofs.lemmas.List.Sorted.{length_permutation}
use Rattle.rasn_types.specs.declared.types.codec.Codec.TheVariants.{Ber, Der}
use Rattle.rasn_types.specs.Errors.{IsOutOfMemory}
use Rattle.rasn_types.specs.Grammar.{Reads, top}
use Rattle.rasn_de.specs.Outcomes.{Exact, Got}
use Rattle.rasn_schema.specs.declared.types.«Type».{«Type»}
use Rattle.rasn_schema.specs.declared.types.«Type».TheVariants.{Leaf, Enumerated, Any, Tagged, Choice, Sequence, Set, SequenceOf, SetOf, Unknown}
use Rattle.rasn_dynamic.specs.declared.span.Span.{Span}
use Rattle.rasn_dynamic.specs.declared.message.MessageParts.{MessageParts}
use Rattle.rasn_dynamic.specs.declared.refusal.Refusal.{Refusal}
use Rattle.rasn_dynamic.specs.Entry.{IsCheckedUpTo, shape_of}
use Rattle.rasn_dynamic.specs.Faults.{IsLocated, start}
use Rattle.rasn_dynamic.specs.Walk.{AreOpenPartsOf, AreParts, ArePartsOf, is_open, open_of, path_after}
use Rattle.rasn_dynamic.specs.declared.message.ListedParts.{ListedParts}
use Rattle.rasn_dynamic.proofs.Checked.{read_first}
use Rattle.rasn_dynamic.proofs.SameParts.{as_parts}
use Rattle.rasn_lint.specs.declared.by_schema.LintError.TheVariants.{Refused, Remainder}
use Rattle.rasn_lint.specs.declared.by_schema.OpenTypes.{OpenTypes}
use Rattle.rasn_lint.specs.declared.by_schema.OpenTypes.TheVariants.{Unexamined, Examined}
use Rattle.rasn_lint.specs.declared.departure.Departure.{Departure}
use Rattle.rasn_lint.specs.Lint.{IsDer, HasFormed, IsRemainderOf, IsAtFault, IsClean, AreAll, offset_of, IsLint, IsNoLint, IsIllFormedAt, IsFirstOr, IsFirstDeparture, rest_after}
use Rattle.rasn_lint.specs.Judged.{AreJudged, AreOpenDepartures}
use Rattle.rasn_lint.specs.Refusals.{aspect_of}
use Rattle.rasn_lint.proofs.Unread.{not_read as unread}
use Rattle.rasn_lint.proofs.Judged.{none_typed, none_if_formed, formed_if_none, formed_if}

last_empty : {A : Type 0} (b c : List A) → b ++ c ≡ [] → c ≡ []
last_empty [] c p = p
last_empty (x ∷ b) c p = cc

none_of : {A : Type 0} (l : List A) → length l ≡ 0 → l ≡ []
none_of [] e = refl
none_of (x ∷ l) e = absurd (omega (arith, e))

module _ (types : List «Type») (id : ℕ) (input : List ℕ) (parts : List Span) where
  pub clean : (opens : OpenTypes) (ds : List Departure) → AreAll opens types id input parts ds → (ds ≡ []) ↔ IsClean opens types id input parts
  clean Unexamined ds (inl (d, j)) = (λ q. (d, tt), λ k. none_typed types (length input) [] [] parts ds j)
  clean Examined ds (inl (d, j)) = (λ q. (d, formed_if_none types (length input) [] [] parts ds j q), λ k. none_if_formed types (length input) [] [] parts ds j k.1)
  clean opens ds (inr (n, inl (j, some))) = (λ q. absurd (some q), λ k. absurd (n k.0))
  clean opens ds (inr (n, inr (j, d, p, i))) = (λ q. let x : d ∷ [] ≡ [] = sym p ∙ q in cc, λ k. absurd (n k.0))

-- What was found, in the order of its places.
pub listed : (types : List «Type») (id : ℕ) (input : List ℕ) (opens : OpenTypes) (ps : MessageParts) (found ds : List Departure)
    → (are : ArePartsOf types Ber id input ps) → are.last.rest ≡ [] → AreAll opens types id input ps.list.items found
    → IsPermutation found ds → IsNonDecreasingBy offset_of ds → IsLint opens types id input ds
listed types id input opens ps found ds a whole all same order =
    let c = clean types id input ps.list.items opens found all in
    let k = length_permutation found ds same in
    record {
      parts = ps;
      are_parts = a;
      whole = whole;
      found = found;
      all = all;
      same = same;
      in_order = order;
      clean = (
        λ q. c.0 (none_of found (sym k ∙ ap length q)),
        λ h. none_of ds (k ∙ ap length (c.1 h)),
      );
    }

same_aspect : (d : Departure) (r : Refusal) → d.refusal ≡ r → d.aspect ≡ aspect_of r.error.kind → d.aspect ≡ aspect_of d.refusal.error.kind
same_aspect d r s a = a ∙ ap (λ (z : Refusal). aspect_of z.error.kind) (sym s)

-- What is found of the parts of a message.
module _ (opens : OpenTypes) (types : List «Type») (id : ℕ) (input : List ℕ) (parts : List Span) where
  pub some_departures : (o : Option Departure) (b : Bool) (ds : List Departure) → is_some o ≡ not b → IsFirstDeparture Unexamined types id input o → AreJudged b opens types (length input) [] [] parts ds → ds ≢ [] → AreAll opens types id input parts ds
  some_departures None true ds e h j n = inl (h.0, j)
  some_departures None false ds e h j n = cc
  some_departures (Some d) true ds e h j n = cc
  some_departures (Some d) false ds e h j n = inr (h.0, inl (j, n))

  pub refusal_alone : (o : Option Departure) (d : Departure) (b : Bool) (none ds : List Departure) → o ≡ Some d → is_some o ≡ not b → IsFirstDeparture Unexamined types id input o → AreJudged b opens types (length input) [] [] parts none → none ≡ []
      → ds ≡ none ++ d ∷ [] → AreAll opens types id input parts ds
  refusal_alone o d b none ds q e h j n p = go b (subst (λ z. is_some z ≡ not b) q e) j
    where
      go : (b : Bool) → is_some (Some d) ≡ not b → AreJudged b opens types (length input) [] [] parts none → AreAll opens types id input parts ds
      go true e j = cc
      go false e j =
          let k = subst (IsFirstDeparture Unexamined types id input) q h in
          let g = subst (λ z. AreJudged false opens types (length input) [] [] parts z) n j in
          inr (k.0, inr (g, d, p ∙ ap (λ z. z ++ d ∷ []) n, k.1))

-- What is looked into, part by part.
module _ (types : List «Type») (len : ℕ) (parts : List Span) where
  -- What is first in the parts from this one on is first in all.
  abbrev pub GoesOn : List ℕ → ℕ → Type 0
  GoesOn path i = (found : Option Departure) → IsFirstOr types len path (drop i parts) found → IsFirstOr types len [] parts found

  formed_first : (path : List ℕ) (e : Span) (es : List Span) (found : Option Departure) → HasFormed types e → IsFirstOr types len (path_after path e) es found → IsFirstOr types len path (e ∷ es) found
  formed_first path e es None f h = (f, h)
  formed_first path e es (Some d) f h = inr (f, h)

  ill_formed : (path : List ℕ) (e : Span) (o : Option «Type») (d : Departure) (ds : List Departure) → o ≡ slice_get types e.id.0 → AreOpenDepartures len path e o (d ∷ ds) → IsIllFormedAt types len path e d
  ill_formed path e (Some (Any tag)) d ds q (inl (inside, has, iff, all)) = inr (tag, inside, sym q, has, (λ w. let x : d ∷ ds ≡ [] = iff.1 w in cc), all.0)
  ill_formed path e (Some (Any tag)) d ds q (inr (n, x)) = cc
  ill_formed path e None d ds q h = cc
  ill_formed path e (Some (Leaf kind tag c names)) d ds q h = cc
  ill_formed path e (Some (Enumerated tag ns)) d ds q h = cc
  ill_formed path e (Some (Tagged tag id)) d ds q h = cc
  ill_formed path e (Some (Choice name ks)) d ds q h = cc
  ill_formed path e (Some (Sequence tag ps)) d ds q h = cc
  ill_formed path e (Some (Set name tag ps)) d ds q h = cc
  ill_formed path e (Some (SequenceOf tag id c)) d ds q h = cc
  ill_formed path e (Some (SetOf tag id c)) d ds q h = cc
  ill_formed path e (Some Unknown) d ds q (iff, all) = inl (sym q, (λ a. let x : d ∷ ds ≡ [] = iff.1 a in cc), all.0)

  here : (i : ℕ) (e : Span) → i < length parts → e ≡ get_or parts i e → drop i parts ≡ e ∷ drop (i + 1) parts
  here i e within is = drop-cons parts i e within ∙ ap (λ x. x ∷ drop (suc i) parts) (sym is) ∙ ap (λ n. e ∷ drop n parts) (sym (add-one i))

  -- Nothing is found in this part.
  pub goes_on : (path seen new : List ℕ) (i : ℕ) (e : Span) (old list : List Departure) → GoesOn path i → i < length parts → e ≡ get_or parts i e → seen ≡ new → new ≡ path_after path e
      → ((ds : List Departure) × (list ≡ old ++ ds) × AreOpenDepartures len seen e (slice_get types e.id.0) ds) → list ≡ [] → GoesOn new (i + 1)
  goes_on path seen new i e old list f within is p q (ds, z, h) none found k =
      let empty : ds ≡ [] = last_empty old ds (sym z ∙ none) in
      let formed : HasFormed types e = (formed_if (slice_get types e.id.0) len seen e ds h).0 empty in
      f found (subst (λ x. IsFirstOr types len path x found) (sym (here i e within is)) (formed_first path e (drop (i + 1) parts) found formed (subst (λ x. IsFirstOr types len x (drop (i + 1) parts) found) q k)))

  -- This is the first one.
  pub is_first : (path seen new : List ℕ) (i : ℕ) (e : Span) (old list : List Departure) (r : Option Departure) → GoesOn path i → i < length parts → e ≡ get_or parts i e → seen ≡ new → new ≡ path_after path e → old ≡ []
      → ((ds : List Departure) × (list ≡ old ++ ds) × AreOpenDepartures len seen e (slice_get types e.id.0) ds) → list ≢ [] → r ≡ slice_get list 0 → IsFirstOr types len [] parts r
  is_first path seen new i e old list r f within is p q none (ds, z, h) some s = go ds (z ∙ ap (λ x. x ++ ds) none) h
    where
      go : (xs : List Departure) → list ≡ xs → AreOpenDepartures len seen e (slice_get types e.id.0) xs → IsFirstOr types len [] parts r
      go [] y k = absurd (some y)
      go (d ∷ xs) y k =
          let found : r ≡ Some d = s ∙ ap (λ l. slice_get l 0) y in
          let ill = ill_formed (path_after path e) e (slice_get types e.id.0) d xs refl (subst (λ l. AreOpenDepartures len l e (slice_get types e.id.0) (d ∷ xs)) (p ∙ q) k) in
          subst (IsFirstOr types len [] parts) (sym found)
          (f (Some d) (subst (λ x. IsFirstOr types len path x (Some d)) (sym (here i e within is)) (inl ill)))

  pub all_formed : (path : List ℕ) (i : ℕ) → GoesOn path i → length parts ≤ i → IsFirstOr types len [] parts None
  all_formed path i f past = f None (subst (λ x. IsFirstOr types len path x None) (sym (drop_all i parts past)) tt)

-- The first departure of a message.
module _ (types : List «Type») (id : ℕ) (input : List ℕ) where
  pub no_typed : IsDer types id input → IsFirstDeparture Unexamined types id input None
  no_typed d = (d, tt)

  -- Of octets that DER doesn't read it is the same, whether open types are looked into or not.
  pub not_read : (d : Departure) → IsFirstDeparture Unexamined types id input (Some d) → IsFirstDeparture Examined types id input (Some d)
  not_read d h = inl h

  -- A refusal of the reader, if memory didn't run out.
  pub refused_first : (r : Refusal) (d : Departure) → IsOutOfMemory r.error.kind ⊎ (IsLocated types Der id input r × IsCheckedUpTo Der (shape_of types id) input (Err r.error)) → (IsOutOfMemory r.error.kind → ⊥)
      → d.refusal ≡ r → d.inner ≡ None → d.aspect ≡ aspect_of r.error.kind → IsFirstDeparture Examined types id input (Some d)
  refused_first r d (inl m) n e i a = absurd (n m)
  refused_first r d (inr (at, x)) n e i a = inl (
    (λ k. unread r.error.kind (Reads Der (shape_of types id) 128 (top Der)) input x n k.0 [] k.1),
    (subst (IsAtFault types id input) (sym e) (inl at), i, same_aspect d r e a),
  )

  -- The parts of a message, and what follows them.
  module _ (all : List Span) (rest : List ℕ) (are : AreParts types Der id input rest all) where
    read : Exact (Reads Der (shape_of types id) 128 (top Der)) input (Got are.listed.tree rest)
    read = read_first Der (shape_of types id) input (start Der input) refl are.listed.tree are.last rest are.ends are.listed.reads

    whole_is_read : rest ≡ [] → IsDer types id input
    whole_is_read e = (are.listed.tree, subst (λ z. Reads Der (shape_of types id) 128 (top Der) input are.listed.tree z) e read.0)

    pub remainder_first : (r : Refusal) (d : Departure) → IsRemainderOf input rest r → d.refusal ≡ r → d.inner ≡ None → d.aspect ≡ aspect_of r.error.kind → IsFirstDeparture Examined types id input (Some d)
    remainder_first r d h e i a = inl (
      (λ k. h.extra.some (sym (read.1 k.0 [] k.1).1)),
      (subst (IsAtFault types id input) (sym e) (inr (are.listed.tree, rest, read.0, h)), i, same_aspect d r e a),
    )

    pub parts_first : rest ≡ [] → (r : Option Departure) → IsFirstOr types (length input) [] all r
        → IsFirstDeparture Examined types id input r
    parts_first e None h = (whole_is_read e, (all, subst (λ z. AreParts types Der id input z all) e are, h))
    parts_first e (Some d) h = inr (whole_is_read e, (all, subst (λ z. AreParts types Der id input z all) e are, h))

  -- Those of a list that is gone over.
  pub listed_parts : (ps : MessageParts) (rest : List ℕ) → ArePartsOf types Der id input ps → rest ≡ rest_after ps.list.items input → AreParts types Der id input rest ps.list.items
  listed_parts ps rest are at =
      let l = are.listed in
      let last_is : rest ≡ are.last.rest = at ∙ (ap (λ z. rest_after z input) l.is ∙ (ap (λ z. drop (length l.part.octets.now) z) l.octets ∙ drop-append_seam l.part.octets.now are.last.rest)) in
      subst (λ z. AreParts types Der id input z ps.list.items) (sym last_is) (as_parts types Der id input ps are)

  -- What isn't open is well formed.
  formed_of : (e : Span) (b : Bool) → is_open (slice_get types e.id.0) ≡ b → b ≡ false → HasFormed types e
  formed_of e b q n = (
    (λ tag inside is has. let o : true ≡ false = sym (ap is_open is) ∙ (q ∙ n) in cc),
    λ is. let o : true ≡ false = sym (ap is_open is) ∙ (q ∙ n) in cc,
  )

  all_if_open : (es : List Span) → AllByRecursion (HasFormed types) (open_of types es) → AllByRecursion (HasFormed types) es
  all_if_open [] h = tt
  all_if_open (e ∷ es) h = go (is_open (slice_get types e.id.0)) refl (λ k. all_if_open es k) h
    where
      go : (b : Bool) → is_open (slice_get types e.id.0) ≡ b → (AllByRecursion (HasFormed types) (open_of types es) → AllByRecursion (HasFormed types) es)
          → AllByRecursion (HasFormed types) (if b then e ∷ open_of types es else open_of types es) → AllByRecursion (HasFormed types) (e ∷ es)
      go true q others k = (k.0, others k.1)
      go false q others k = (formed_of e false q refl, others k)

  -- The open types of a message are well formed.
  pub open_first : (o : ListedParts) → AreOpenPartsOf types Der id input o → o.rest.now ≡ [] → (list : List Span) → list ≡ o.list.items → IsFirstOr types (length input) [] list None
      → IsFirstDeparture Examined types id input None
  open_first o (all, are, is) e list same h = parts_first all o.rest.now are e None (all_if_open all (subst (AllByRecursion (HasFormed types)) (same ∙ is) h))

pub some_departed : (v : Vec Departure Global) → false ≡ (vec_len v == 0) → v.items ≢ []
some_departed v e q = let n : length v.items ≡ 0 = ap length q in grind (arith, nat_tests)

-- What follows of the value that a call returns.
pub if_then : {T E : Type 0} {P Q : T → Type 0} (r : Result T E) → ((v : T) → P v → Q v) → IfOk r P → IfOk r Q
if_then (Ok v) f h = f v h
if_then (Err e) f h = tt

pub no_departures : (v : Vec Departure Global) → true ≡ (vec_len v == 0) → v.items ≡ []
no_departures v e = none_of v.items (grind (arith, nat_tests))

-- The octets after the first part follow the value.
pub last_rest : (types : List «Type») (id : ℕ) (input : List ℕ) (ps : MessageParts) (a : ArePartsOf types Ber id input ps) → rest_after ps.list.items input ≡ a.last.rest
last_rest types id input ps a =
    let l = a.listed in
    ap (λ z. rest_after z input) l.is ∙ (ap (λ z. drop (length l.part.octets.now) z) l.octets ∙ drop-append_seam l.part.octets.now a.last.rest)

pub nothing_left : (types : List «Type») (id : ℕ) (input : List ℕ) (ps : MessageParts) (a : ArePartsOf types Ber id input ps) (empty : Bool) (rest : List ℕ) → rest ≡ rest_after ps.list.items input
    → empty ≡ (length rest == 0) → empty ≡ true → a.last.rest ≡ []
nothing_left types id input ps a empty rest e is some = sym (last_rest types id input ps a) ∙ (sym e ∙ none_of rest (grind (arith, nat_tests)))

pub not_read_by_ber : (types : List «Type») (id : ℕ) (input : List ℕ) (r : Refusal) → IsOutOfMemory r.error.kind ⊎ IsLocated types Ber id input r
    → IsOutOfMemory r.error.kind ⊎ IsCheckedUpTo Ber (shape_of types id) input (Err r.error) → IsNoLint types id input (Refused r)
not_read_by_ber types id input r (inl m) x = inl m
not_read_by_ber types id input r (inr at) (inl m) = inl m
not_read_by_ber types id input r (inr at) (inr x) = inr (at, x)

pub followed : (types : List «Type») (id : ℕ) (input rest : List ℕ) (ps : MessageParts) → ArePartsOf types Ber id input ps → rest ≡ rest_after ps.list.items input → rest ≢ [] → IsNoLint types id input (Remainder (length rest))
followed types id input rest ps a e some =
    let l = a.listed in
    let is : rest ≡ a.last.rest = e ∙ last_rest types id input ps a in
    let read = read_first Ber (shape_of types id) input (start Ber input) refl l.tree a.last rest (sym is) l.reads in
    (l.tree, rest, read.0, refl, some)
