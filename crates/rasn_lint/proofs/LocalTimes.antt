-- The first local time among the parts of a message.
use Rattle.std.proofs.Common.{◌≡◌, ◌<◌, ◌≤◌, ◌+◌, ℕ, suc, List, [], ◌∷◌, ◌++◌, length, take, drop, get_or, drop-cons, add-one, refl, sym, ap, ◌∙◌, subst}
use Rattle.std.specs.List.{AllByRecursion}
use Rattle.std.proofs.lemmas.List.{take_more, take-append-drop}
use Rattle.std.proofs.lemmas.List.{take_all}
use Rattle.rasn_schema.specs.declared.types.«Type».{«Type»}
use Rattle.rasn_dynamic.specs.declared.span.Span.{Span}
use Rattle.rasn_dynamic.specs.declared.refusal.Refusal.{Refusal}
use Rattle.rasn_dynamic.specs.Walk.{path_after}
use Rattle.rasn_lint.specs.LocalTimes.{IsNotLocal, IsLocalTime, IsRefusalOf, IsFirstLocal, path_along}

all_more : {X : Type 0} (P : X → Type 0) (xs : List X) (x : X) → AllByRecursion P xs → P x → AllByRecursion P (xs ++ x ∷ [])
all_more P [] x a h = (h, tt)
all_more P (y ∷ xs) x a h = (a.0, all_more P xs x a.1 h)

path_more : (path : List ℕ) (es : List Span) (e : Span) → path_along path (es ++ e ∷ []) ≡ path_after (path_along path es) e
path_more path [] e = refl
path_more path (x ∷ es) e = path_more (path_after path x) es e

module _ (types : List «Type») (len : ℕ) (parts : List Span) where
  -- None of the parts before this one is a local time, and this is the path to the last of them.
  pub record AreNone (path : List ℕ) (i : ℕ) : Type 0 where
    pub none : AllByRecursion (IsNotLocal types) (take i parts)
    pub path_is : path ≡ path_along [] (take i parts)

  more : (i : ℕ) (e : Span) → i < length parts → e ≡ get_or parts i e → take (i + 1) parts ≡ take i parts ++ e ∷ []
  more i e within is = take_more parts i e within ∙ ap (λ x. take i parts ++ x ∷ []) (sym is)

  next_path : (path new : List ℕ) (i : ℕ) (e : Span) → AreNone path i → new ≡ path_after path e → new ≡ path_along [] (take i parts ++ e ∷ [])
  next_path path new i e a p = p ∙ ap (λ x. path_after x e) a.path_is ∙ sym (path_more [] (take i parts) e)

  pub goes_on : (path new : List ℕ) (i : ℕ) (e : Span) → AreNone path i → i < length parts → e ≡ get_or parts i e → new ≡ path_after path e → IsNotLocal types e → AreNone new (i + 1)
  goes_on path new i e a within is p h =
      let q = sym (more i e within is) in
      record {
        none = subst (AllByRecursion (IsNotLocal types)) q (all_more (IsNotLocal types) (take i parts) e a.none h);
        path_is = next_path path new i e a p ∙ ap (path_along []) q;
      }

  pub is_first : (path new text : List ℕ) (i : ℕ) (e : Span) (r : Refusal) → AreNone path i → i < length parts → e ≡ get_or parts i e → new ≡ path_after path e → IsLocalTime types e text → IsRefusalOf len new e text r → IsFirstLocal types len parts r
  is_first path new text i e r a within is p h at = record {
    before = take i parts;
    part = e;
    after = drop (suc i) parts;
    are = sym (take-append-drop i parts) ∙ ap (λ l. take i parts ++ l) (drop-cons parts i e within ∙ ap (λ x. x ∷ drop (suc i) parts) (sym is));
    none = a.none;
    text = text;
    is_local = h;
    refusal = subst (λ l. IsRefusalOf len l e text r) (next_path path new i e a p) at;
  }

  pub all_none : (path : List ℕ) (i : ℕ) → AreNone path i → length parts ≤ i → AllByRecursion (IsNotLocal types) parts
  all_none path i a past = subst (AllByRecursion (IsNotLocal types)) (take_all i parts past) a.none
