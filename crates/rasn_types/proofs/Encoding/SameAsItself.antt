-- A tree that has octets is the same as itself (set elements that are no list aren't), so it has no other octets.
use Rattle.std.proofs.Common.{◌≡◌, ℕ, suc, inl, inr, List, [], ◌∷◌, ◌++◌, Bool, true, false, refl, sym, subst, Some, None}
use Rattle.std.proofs.lemmas.List.Sorted.{IsPermutation-refl}
use Rattle.rasn_types.specs.Tags.{Codec}
use Rattle.rasn_types.specs.Shapes.{Tree, numbers, items, IsSetTree, absent, Shape, leaf, any, prefix, choice, open_choice, option, seq, set, sorted_set, list, set_of, unknown, Parts, part, Presence, required, addition, optional_by, default_by}
use Rattle.rasn_types.specs.Grammar.{family}
use Rattle.rasn_types.specs.Bytes.{Writing, Same, Each, WritesPart, PartsWritten, WritesChoice, Component, UnknownComponents, Bytes, fields_of}
use Rattle.rasn_types.proofs.SetOf.Same.{same_sym, same_trans}
use Rattle.rasn_types.proofs.Encoding.SameOctets.{in_flat, flat_same, once, each_is_once, parts_once}

abbrev AreSame : List Tree → Type 0
AreSame [] = Unit {0}
AreSame (t ∷ ts) = Same t t × AreSame ts

items_same : (ts : List Tree) → AreSame ts → Same (items ts) (items ts)
items_same [] h = refl
items_same (t ∷ ts) h = (t, items ts, refl, h.0, items_same ts h.1)

ends_same : (ts : List Tree) (u : Tree) → AreSame ts → Same u u → AreSame (ts ++ (u ∷ []))
ends_same [] u h s = (s, tt)
ends_same (t ∷ ts) u h s = (h.0, ends_same ts u h.1 s)

unknown_same : (k : ℕ) (us : List Tree) (cs : List Component) → UnknownComponents k us cs → AreSame us
unknown_same k [] cs h = tt
unknown_same k (u ∷ us) cs (tag, b, more, e, begins, f, h) = (subst (λ z. Same z z) (sym e) refl, unknown_same (suc k) us more h)

set_same : (extensible : Bool) (ts us : List Tree) (t : Tree) → IsSetTree extensible ts us t → AreSame ts → AreSame us → Same t t
set_same true ts us t e h k = subst (λ z. Same z z) (sym e) (items_same (ts ++ (items us ∷ [])) (ends_same ts (items us) h (items_same us k)))
set_same false ts us t e h k = subst (λ z. Same z z) (sym e.1) (items_same ts h)

elements_same : (writes : Writing Tree) → ((t : Tree) (b : List ℕ) → writes t b → Same t t) → (ts : List Tree) (bs : List (List ℕ)) → Each writes ts bs → AreSame ts
elements_same writes one [] bs h = tt
elements_same writes one (t ∷ ts) bs (b, more, e, w, h) = (one t b w, elements_same writes one ts more h)

absent_same : (t : Tree) → t ≡ absent → Same t t
absent_same t e = subst (λ z. Same z z) (sym e) refl

part_same : (writes : Writing Tree) → ((t : Tree) (b : List ℕ) → writes t b → Same t t) → (p : Presence) (t : Tree) (b : List ℕ) → WritesPart p writes t b → Same t t
part_same writes one required t b w = one t b w
part_same writes one (optional_by key) t b (inl w) = absent_same t w.0
part_same writes one (optional_by key) t b (inr w) = one t b w.1
part_same writes one addition t b (inl w) = absent_same t w.0
part_same writes one addition t b (inr w) = one t b w.1
part_same writes one (default_by key d) t b (inl w) = same_trans t d t w.0 (same_sym t d w.0)
part_same writes one (default_by key d) t b (inr w) = one t b w.1

mutual
  unfolding Bytes fields_of

  pub written_same : (s : Shape) (rule : Codec) (t : Tree) (b : List ℕ) → Bytes rule s t b → Same t t
  written_same (leaf kind tag bounds) rule t b h = flat_same t (in_flat (family kind) rule kind tag t b h.1)
  written_same (any None) rule t b h = subst (λ z. Same z z) (sym h) refl
  written_same (any (Some tag)) rule t b h = subst (λ z. Same z z) (sym h.1) refl
  written_same (prefix tag s) rule t b h = written_same s rule t h.0 h.1
  written_same (choice ps) rule t b h = choice_same ps rule 0 t b h
  written_same (open_choice ps) rule t b (inl h) = choice_same ps rule 0 t b h
  written_same (open_choice ps) rule t b (inr h) = subst (λ z. Same z z) (sym h) (numbers b, refl, refl)
  written_same (option tag s) rule t b (inl h) = absent_same t h.0
  written_same (option tag s) rule t b (inr h) = written_same s rule t b h.1
  written_same (seq tag ps) rule t b (ts, bs, e, w, c) = subst (λ z. Same z z) (sym e) (items_same ts (parts_same ps rule ts bs w))
  written_same (set tag ps) rule t b (ts, bs, tags, e, w, n, m, d, c) = subst (λ z. Same z z) (sym e) (items_same ts (parts_same ps rule ts bs w))
  written_same (sorted_set extensible tag ps) rule t b (ts, us, bs, cs, es, ds, e, w, m, n, p, o, c) = set_same extensible ts us t e (parts_same ps rule ts bs w) (unknown_same _ us es n)
  written_same (list tag s size) rule t b (ts, bs, e, m, w, c) = subst (λ z. Same z z) (sym e) (items_same ts (elements_same (Bytes rule s) (written_same s rule) ts bs w))
  written_same (set_of tag s size) rule t b (ts, bs, e, m, w, o, c) =
      subst (λ z. Same z z) (sym e) (ts, ts, refl, IsPermutation-refl ts, items_same ts (elements_same (Bytes rule s) (written_same s rule) ts bs w))
  written_same unknown rule t b (us, bs, e, w, f) =
      subst (λ z. Same z z) (sym e) (items_same us (elements_same (λ u c. u ≡ numbers c) (λ u c g. subst (λ z. Same z z) (sym g) refl) us bs w))

  parts_same : (ps : Parts) (rule : Codec) (ts : List Tree) (bs : List (List ℕ)) → PartsWritten (fields_of rule ps) ts bs → AreSame ts
  parts_same Parts.none rule ts bs h = subst AreSame (sym h.0) tt
  parts_same (part p s ps) rule ts bs (t, us, b, cs, e, f, w, ws) = subst AreSame (sym e) (part_same (Bytes rule s) (written_same s rule) p t b w, parts_same ps rule us cs ws)

  choice_same : (ps : Parts) (rule : Codec) (k : ℕ) (t : Tree) (b : List ℕ) → WritesChoice k (fields_of rule ps) t b → Same t t
  choice_same Parts.none rule k t b h = absurd h
  choice_same (part p s ps) rule k t b (inl (u, e, w)) = subst (λ z. Same z z) (sym e) (u, refl, written_same s rule u b w)
  choice_same (part p s ps) rule k t b (inr h) = choice_same ps rule (suc k) t b h

pub one_writing : (s : Shape) (rule : Codec) (t : Tree) (a b : List ℕ) → Bytes rule s t a → Bytes rule s t b → a ≡ b
one_writing s rule t a b h k = once s rule t t a b (written_same s rule t a h) h k

each_itself : (ts : List Tree) → AreSame ts → Each Same ts ts
each_itself [] h = refl
each_itself (t ∷ ts) h = (t, ts, refl, h.0, each_itself ts h.1)

pub parts_one_writing : (ps : Parts) (rule : Codec) (ts : List Tree) (ls bs : List (List ℕ)) → PartsWritten (fields_of rule ps) ts ls → PartsWritten (fields_of rule ps) ts bs → ls ≡ bs
parts_one_writing ps rule ts ls bs h k = parts_once rule ps (each_is_once ps rule) ts ts ls bs (each_itself ts (parts_same ps rule ts ls h)) h k
