-- Trees that are the same have the same octets.
use Rattle.std.proofs.Common.{◌≡◌, ℕ, suc, ◌<◌, ◌⊎◌, ◌≢◌, inl, inr, List, [], ◌∷◌, ◌++◌, ◌+◌, refl, sym, ap, ap₂, ◌∙◌, subst, arith, IsPermutation, Some, None}
use Rattle.std.proofs.lemmas.List.Sorted.{IsPermutation-sym}
use Rattle.rasn_types.specs.Tags.{Codec, Ber, Cer, Der, Tag}
use Rattle.rasn_types.specs.Shapes.{Tree, number, bits, numbers, instant, on_day, items, set_elements, chosen, absent, Kind, boolean, null, object_identifier, integer, enumerated, octet_string, fixed, numeric, printable, visible, ia5, any_octets, bmp, universal, utf8, real, time_text, time_digits, utc_time, generalized_time, date, Shape, leaf, any, prefix, choice, open_choice, option, seq, set, sorted_set, list, set_of, unknown, Parts, part, count, IsFirst, Presence, required, optional, addition, optional_by, default_by}
use Rattle.rasn_types.specs.Framing.{Begins}
use Rattle.rasn_types.specs.Contents.{Contents, joined_lists}
use Rattle.rasn_types.specs.Grammar.{Family, plain_family, bit_family, named_family, text_family, family}
use Rattle.rasn_types.specs.Bytes.{Same, Each, ConstructedEncoding, WritesIn, WritesText, WritesPart, PartsWritten, WritesChoice, AreAscending, IsLess, Component, IsPlacedBy, ComponentsOf, UnknownComponents, contents_of, IsReordered, Bytes, fields_of}
use Rattle.rasn_types.proofs.SetOf.Same.{items_one, same_sym, same_trans, same_each, each_moved}
use Rattle.rasn_types.proofs.SetTrees.{same_set_tree}
use Rattle.rasn_types.proofs.Encoding.Determined.{numbers_one, cons_one, in_once}
use Rattle.rasn_types.proofs.SetOf.OneOrder.{ordered_one}
use Rattle.rasn_types.proofs.Headers.Frames.{begins_one}
use Rattle.rasn_types.proofs.InOrder.{neither_below, one_order_of_components}

-- The tree of a leaf: it is the same as no other tree.
abbrev pub IsFlat : Tree → Type 0
IsFlat (number z) = Unit {0}
IsFlat (bits bs) = Unit {0}
IsFlat (numbers ns) = Unit {0}
IsFlat (instant m) = Unit {0}
IsFlat (on_day d) = Unit {0}
IsFlat t = ⊥

flat_if : (t u : Tree) → t ≡ u → IsFlat u → IsFlat t
flat_if t u e h = subst IsFlat (sym e) h

contents_flat : (rule : Codec) (kind : Kind) (l : List ℕ) (t : Tree) → Contents rule kind l t → IsFlat t
contents_flat rule boolean l t h = flat_if t (number h.0) h.1 tt
contents_flat rule (integer range) l t h = flat_if t _ h.0 tt
contents_flat rule (enumerated known) l t h = flat_if t _ h.0 tt
contents_flat rule null l t h = flat_if t _ h.0 tt
contents_flat rule object_identifier l t h = flat_if t (numbers h.0) h.1 tt
contents_flat rule real l t h = flat_if t (numbers h.0) h.1 tt
contents_flat rule time_text l t h = flat_if t (numbers l) h.0 tt
contents_flat rule (time_digits n) l t h = flat_if t (numbers l) h.0 tt
contents_flat rule kind l t h = absurd h

text_flat : (kind : Kind) (l : List ℕ) (t : Tree) → WritesText kind l t → IsFlat t
text_flat octet_string l t h = flat_if t (numbers l) h tt
text_flat (fixed n) l t h = flat_if t (numbers l) h.0 tt
text_flat numeric l t h = flat_if t (numbers l) h.0 tt
text_flat printable l t h = flat_if t (numbers l) h.0 tt
text_flat visible l t h = flat_if t (numbers l) h.0 tt
text_flat ia5 l t h = flat_if t (numbers l) h.0 tt
text_flat any_octets l t h = flat_if t (numbers l) h tt
text_flat bmp l t h = flat_if t (numbers h.0) h.1 tt
text_flat universal l t h = flat_if t (numbers h.0) h.1 tt
text_flat utf8 l t h = flat_if t _ h.0 tt
text_flat utc_time l t h = flat_if t (instant h.0) h.1 tt
text_flat generalized_time l t h = flat_if t (instant h.0) h.1 tt
text_flat date l t h = flat_if t (on_day h.0) h.1 tt
text_flat kind l t h = absurd h

pub in_flat : (which : Family) (rule : Codec) (kind : Kind) (tag : Tag) (t : Tree) (b : List ℕ) → WritesIn which rule kind tag t b → IsFlat t
in_flat plain_family rule kind tag t b h = contents_flat Der kind h.0 t h.1.is
in_flat bit_family rule kind tag t b h = flat_if t (bits h.0) h.1 tt
in_flat named_family rule kind tag t b h = flat_if t (bits h.0) h.1 tt
in_flat text_family rule kind tag t b h = text_flat kind h.0 t h.1

pub flat_same : (t : Tree) → IsFlat t → Same t t
flat_same (number z) h = refl
flat_same (bits bs) h = refl
flat_same (numbers ns) h = refl
flat_same (instant m) h = refl
flat_same (on_day d) h = refl
flat_same t h = absurd h

pub flat_one : (t u : Tree) → IsFlat t → Same t u → u ≡ t
flat_one (number z) u h s = s
flat_one (bits bs) u h s = s
flat_one (numbers ns) u h s = s
flat_one (instant m) u h s = s
flat_one (on_day d) u h s = s
flat_one t u h s = absurd h

-- Trees that are the same have the same octets.
abbrev pub IsOnce : Codec → Shape → Type 0
IsOnce rule s = (t u : Tree) (a b : List ℕ) → Same t u → Bytes rule s t a → Bytes rule s u b → a ≡ b

abbrev pub EachOnce : Codec → Parts → Type 0
EachOnce rule Parts.none = Unit {0}
EachOnce rule (part presence s ps) = IsOnce rule s × EachOnce rule ps

absent_once : (t u : Tree) → Same t u → u ≡ absent → t ≡ absent
absent_once t u s e = same_sym t absent (subst (Same t) e s)

part_once : (rule : Codec) (s : Shape) → IsOnce rule s → (presence : Presence) (t u : Tree) (a b : List ℕ) → Same t u
    → WritesPart presence (Bytes rule s) t a → WritesPart presence (Bytes rule s) u b → a ≡ b
part_once rule s once required t u a b same h k = once t u a b same h k
part_once rule s once (optional_by key) t u a b same (inl (e, f)) (inl (g, h)) = f ∙ sym h
part_once rule s once (optional_by key) t u a b same (inl (e, f)) (inr (g, h)) = absurd (g (subst (λ z. Same z u) e same))
part_once rule s once (optional_by key) t u a b same (inr (e, f)) (inl (g, h)) = absurd (e (absent_once t u same g))
part_once rule s once (optional_by key) t u a b same (inr (e, f)) (inr (g, h)) = once t u a b same f h
part_once rule s once addition t u a b same (inl (e, f)) (inl (g, h)) = f ∙ sym h
part_once rule s once addition t u a b same (inl (e, f)) (inr (g, h)) = absurd (g (subst (λ z. Same z u) e same))
part_once rule s once addition t u a b same (inr (e, f)) (inl (g, h)) = absurd (e (absent_once t u same g))
part_once rule s once addition t u a b same (inr (e, f)) (inr (g, h)) = once t u a b same f h
part_once rule s once (default_by key d) t u a b same (inl (e, f)) (inl (g, h)) = f ∙ sym h
part_once rule s once (default_by key d) t u a b same (inl (e, f)) (inr (g, h)) = absurd (g (same_trans u t d (same_sym t u same) e))
part_once rule s once (default_by key d) t u a b same (inr (e, f)) (inl (g, h)) = absurd (e (same_trans t u d same g))
part_once rule s once (default_by key d) t u a b same (inr (e, f)) (inr (g, h)) = once t u a b same f h

pub parts_once : (rule : Codec) (ps : Parts) → EachOnce rule ps → (ts us : List Tree) (ls bs : List (List ℕ)) → Each Same ts us
    → PartsWritten (fields_of rule ps) ts ls → PartsWritten (fields_of rule ps) us bs → ls ≡ bs
unfolding Bytes fields_of
parts_once rule Parts.none once ts us ls bs same h k = h.1 ∙ sym k.1
parts_once rule (part presence s ps) once ts us ls bs same (t, ts', a, cs, e, f, w, ws) (u, us', b, ds, g, h, x, xs) =
    go (λ z. parts_once rule ps once.1 ts' us' cs ds z ws xs) (subst (λ z. Each Same z us) e same)
  where
    go : (Each Same ts' us' → cs ≡ ds) → Each Same (t ∷ ts') us → ls ≡ bs
    go rest (v, vs, i, sm, sms) =
        let j : v ∷ vs ≡ u ∷ us' = sym i ∙ g in
        let j0 : v ≡ u = cc in
        let j1 : vs ≡ us' = cc in
        f ∙ (ap₂ ◌∷◌ (part_once rule s once.0 presence t u a b (subst (Same t) j0 sm) w x)
        (rest (subst (Each Same ts') j1 sms)) ∙ sym h)

elements_once : (rule : Codec) (s : Shape) → IsOnce rule s → (ts us : List Tree) (ls bs : List (List ℕ)) → Each Same ts us
    → Each (Bytes rule s) ts ls → Each (Bytes rule s) us bs → ls ≡ bs
elements_once rule s once [] us ls bs e h k = h ∙ sym (nothing us bs e k)
  where
    nothing : (us : List Tree) (bs : List (List ℕ)) → us ≡ [] → Each (Bytes rule s) us bs → bs ≡ []
    nothing [] bs e k = k
    nothing (u ∷ us) bs e k = cc
elements_once rule s once (t ∷ ts) us ls bs (v, vs, e, sm, sms) (a, cs, f, w, ws) k =
    go (λ ds z. elements_once rule s once ts vs cs ds sms ws z) (subst (λ z. Each (Bytes rule s) z bs) e k)
  where
    go : ((ds : List (List ℕ)) → Each (Bytes rule s) vs ds → cs ≡ ds) → Each (Bytes rule s) (v ∷ vs) bs → ls ≡ bs
    go rest (b, ds, g, x, xs) = f ∙ (ap₂ ◌∷◌ (once t v a b sm w x) (rest ds xs) ∙ sym g)

pub other_written : (rule : Codec) (ps : Parts) (k j : ℕ) (t u : Tree) (b : List ℕ) → j < k → t ≡ chosen j u → WritesChoice k (fields_of rule ps) t b → ⊥
unfolding Bytes fields_of
other_written rule Parts.none k j t u b h e m = m
other_written rule (part presence s ps) k j t u b h e (inl m) =
    let f = m.1 in let g : j ≡ k = cc in omega arith
other_written rule (part presence s ps) k j t u b h e (inr m) = other_written rule ps (suc k) j t u b (omega arith) e m

choice_once : (rule : Codec) (ps : Parts) → EachOnce rule ps → (k : ℕ) (t u : Tree) (a b : List ℕ) → Same t u
    → WritesChoice k (fields_of rule ps) t a → WritesChoice k (fields_of rule ps) u b → a ≡ b
unfolding Bytes fields_of
choice_once rule Parts.none once k t u a b same h i = absurd h
choice_once rule (part presence s ps) once k t u a b same (inl (v, e, h)) (inl (w, f, i)) = go (subst (λ z. Same z u) e same)
  where
    go : Same (chosen k v) u → a ≡ b
    go (x, g, sm) = let j : x ≡ w = cc in once.0 v w a b (subst (Same v) j sm) h i
choice_once rule (part presence s ps) once k t u a b same (inl (v, e, h)) (inr i) =
    let r : Same (chosen k v) u = subst (λ z. Same z u) e same in
    absurd (other_written rule ps (suc k) k u r.0 b (omega arith) r.1 i)
choice_once rule (part presence s ps) once k t u a b same (inr h) (inl (w, f, i)) =
    let r : Same (chosen k w) t = subst (λ z. Same z t) f (same_sym t u same) in
    absurd (other_written rule ps (suc k) k t r.0 a (omega arith) r.1 h)
choice_once rule (part presence s ps) once k t u a b same (inr h) (inr i) = choice_once rule ps once.1 (suc k) t u a b same h i

same_lists : (t u : Tree) (ts us : List Tree) → t ≡ items ts → u ≡ items us → Same t u → Each Same ts us
same_lists t u ts us e f h = same_each ts us (subst (λ z. Same z (items us)) e (subst (Same t) f h))

set_of_once : (rule : Codec) (s : Shape) → IsOnce rule s → (ts us : List Tree) (ls bs : List (List ℕ)) → Same (set_elements (items ts)) (set_elements (items us))
    → Each (Bytes rule s) ts ls → Each (Bytes rule s) us bs → AreAscending IsLess ls → AreAscending IsLess bs → ls ≡ bs
set_of_once rule s once ts us ls bs (vs, ws, e, p, h) w x o q =
    let f : items us ≡ items ws = cc in
    let p' : IsPermutation us vs = subst (λ z. IsPermutation z vs) (sym (items_one us ws f)) (IsPermutation-sym vs ws p) in
    let m = each_moved (Bytes rule s) us bs vs x p' in
    let g : ls ≡ m.0 = elements_once rule s once ts vs ls m.0 (same_each ts vs h) w m.1 in
    ordered_one ls bs o q (subst (λ z. IsPermutation z bs) (sym g) (IsPermutation-sym bs m.0 m.2))

open_once : (rule : Codec) (tag : Tag) → IsOnce rule (any (Some tag))
unfolding Bytes fields_of
open_once rule tag t u a b same (k, e, h) (l, f, i) =
    let g : u ≡ numbers k = subst (λ z. Same z u) e same in go h i (numbers_one k l (sym g ∙ f))
  where
    go : ((k ≡ []) × (a ≡ [])) ⊎ ((k ≢ []) × ConstructedEncoding rule tag k a) → ((l ≡ []) × (b ≡ [])) ⊎ ((l ≢ []) × ConstructedEncoding rule tag l b) → k ≡ l → a ≡ b
    go (inl x) (inl y) z = x.1 ∙ sym y.1
    go (inl x) (inr y) z = absurd (y.0 (sym z ∙ x.0))
    go (inr x) (inl y) z = absurd (x.0 (z ∙ y.0))
    go (inr x) (inr y) z = cons_one rule tag k l a b x.1 y.1 z

kept_once : (ts us : List Tree) (ls bs : List (List ℕ)) → Each Same ts us → Each (λ u c. u ≡ numbers c) ts ls → Each (λ u c. u ≡ numbers c) us bs → ls ≡ bs
unfolding Bytes
kept_once ts us ls bs same w x = elements_once Der (any None) (λ t u a b same h k. let g : u ≡ numbers a = subst (λ z. Same z u) h same in numbers_one a b (sym g ∙ k)) ts us ls bs same w x

-- The components of these octets are determined, and so is their order.
place_once : (rule : Codec) (P : Tag → Type 0) (b : List ℕ) (s t : Tag) → IsPlacedBy rule P b s → IsPlacedBy rule P b t → s ≡ t
place_once Ber P b s t h k = begins_one b s t h k
place_once Cer P b s t h k = neither_below s t (k.1 s h.0) (h.1 t k.0)
place_once Der P b s t h k = begins_one b s t h k

pub components_once : (rule : Codec) (k : ℕ) (ps : Parts) (bs : List (List ℕ)) (cs ds : List Component) → ComponentsOf rule k ps bs cs → ComponentsOf rule k ps bs ds → cs ≡ ds
components_once rule k Parts.none bs cs ds h i = h ∙ sym i
components_once rule k (part presence s ps) [] cs ds h i = h ∙ sym i
components_once rule k (part presence s ps) ([] ∷ bs) cs ds h i = components_once rule (suc k) ps bs cs ds h i
components_once rule k (part presence s ps) ((o ∷ b) ∷ bs) cs ds (tag, more, e, p, h) (other, others, f, q, i) =
    e ∙ (ap₂ (λ n l. record { tag = n; number = k; octets = o ∷ b } ∷ l) (place_once rule (IsFirst s) (o ∷ b) tag other p q) (components_once rule (suc k) ps bs more others h i) ∙ sym f)

unknown_once : (k : ℕ) (us vs : List Tree) (cs ds : List Component) → Each Same us vs → UnknownComponents k us cs → UnknownComponents k vs ds → cs ≡ ds
unknown_once k [] [] cs ds same h i = h ∙ sym i
unknown_once k [] (v ∷ vs) cs ds same h i = cc
unknown_once k (u ∷ us) [] cs ds (w, ws, e, s, same) h i = cc
unknown_once k (u ∷ us) (v ∷ vs) cs ds (w, ws, e, s, same) (tag, a, more, f, begins, g, h) (other, b, others, l, begins', m, i) =
    let p : w ≡ v = cc in
    let q : ws ≡ vs = cc in
    let r : w ≡ numbers a = subst (λ z. Same z w) f s in
    let o : a ≡ b = numbers_one a b (sym r ∙ (p ∙ l)) in
    let n : tag ≡ other = begins_one b tag other (subst (λ x. Begins x tag) o begins) begins' in
    g ∙ (ap₂ ◌∷◌ (ap₂ (λ x y. record { tag = x; number = k; octets = y }) n o) (unknown_once (suc k) us vs more others (subst (Each Same us) q same) h i) ∙ sym m)

-- The alternative that is written is one of the parts.
pub written_below : (rule : Codec) (ps : Parts) (k : ℕ) (t : Tree) (b : List ℕ) → WritesChoice k (fields_of rule ps) t b → (j : ℕ) × (u : Tree) × (t ≡ chosen j u) × (j < k + count ps)
unfolding Bytes fields_of
written_below rule Parts.none k t b h = absurd h
written_below rule (part presence s ps) k t b (inl (u, e, w)) = (k, u, e, omega arith)
written_below rule (part presence s ps) k t b (inr h) = let r = written_below rule ps (suc k) t b h in (r.0, r.1, r.2, omega (arith, r.3))

not_both : (rule : Codec) (ps : Parts) (t u : Tree) (a b : List ℕ) → Same t u → WritesChoice 0 (fields_of rule ps) t a → u ≡ chosen (count ps) (numbers b) → ⊥
not_both rule ps t u a b same h i =
    let r = written_below rule ps 0 t a h in
    let s : Same (chosen r.0 r.1) u = subst (λ z. Same z u) r.2 same in
    let f = s.1 in
    let e : r.0 ≡ count ps = cc in
    omega (arith, r.3, e)

open_choice_once : (rule : Codec) (ps : Parts) → EachOnce rule ps → (t u : Tree) (a b : List ℕ) → Same t u
    → WritesChoice 0 (fields_of rule ps) t a ⊎ (t ≡ chosen (count ps) (numbers a)) → WritesChoice 0 (fields_of rule ps) u b ⊎ (u ≡ chosen (count ps) (numbers b)) → a ≡ b
open_choice_once rule ps once t u a b same (inl h) (inl i) = choice_once rule ps once 0 t u a b same h i
open_choice_once rule ps once t u a b same (inl h) (inr i) = absurd (not_both rule ps t u a b same h i)
open_choice_once rule ps once t u a b same (inr h) (inl i) = absurd (not_both rule ps u t b a (same_sym t u same) i h)
open_choice_once rule ps once t u a b same (inr h) (inr i) = go (subst (λ z. Same z u) h same)
  where
    go : Same (chosen (count ps) (numbers a)) u → a ≡ b
    go (v, e, s) = let f : v ≡ numbers b = cc in numbers_one a b (sym s ∙ f)

mutual
  unfolding Bytes fields_of

  pub once : (s : Shape) (rule : Codec) → IsOnce rule s
  once (leaf kind tag bounds) rule t u a b same h k =
      in_once (family kind) rule kind tag t a b h.1 (subst (λ z. WritesIn (family kind) rule kind tag z b) (flat_one t u (in_flat (family kind) rule kind tag t a h.1) same) k.1)
  once (any (Some tag)) rule t u a b same h k = open_once rule tag t u a b same h k
  once (any None) rule t u a b same h k = let g : u ≡ numbers a = subst (λ z. Same z u) h same in numbers_one a b (sym g ∙ k)
  once (prefix tag s) rule t u a b same (c, h, i) (d, k, l) = cons_one rule tag c d a b i l (once s rule t u c d same h k)
  once (choice ps) rule t u a b same h k = choice_once rule ps (each_is_once ps rule) 0 t u a b same h k
  once (open_choice ps) rule t u a b same h k = open_choice_once rule ps (each_is_once ps rule) t u a b same h k
  once (option tag s) rule t u a b same h k = part_once rule s (once s rule) optional t u a b same h k
  once (seq tag ps) rule t u a b same (ts, ls, e, w, c) (us, bs, f, x, d) =
      cons_one rule tag (joined_lists ls) (joined_lists bs) a b c d (ap joined_lists (parts_once rule ps (each_is_once ps rule) ts us ls bs (same_lists t u ts us e f same) w x))
  once (set tag ps) rule t u a b same (ts, ls, tags, e, w, q, n, o, c) (us, bs, tags', f, x, q', n', o', d) =
      cons_one rule tag (joined_lists ls) (joined_lists bs) a b c d (ap joined_lists (parts_once rule ps (each_is_once ps rule) ts us ls bs (same_lists t u ts us e f same) w x))
  once (sorted_set extensible tag ps) rule t u a b same (ts, us, ls, cs, es, ds, e, w, m, n, p, o, c) (ts', us', ls', cs', es', ds', e', w', m', n', p', o', d) =
      let k = same_set_tree extensible ts us ts' us' t u e e' same in
      let f : ls ≡ ls' = parts_once rule ps (each_is_once ps rule) ts ts' ls ls' k.0 w w' in
      let g : cs ≡ cs' = components_once rule 0 ps ls' cs cs' (subst (λ l. ComponentsOf rule 0 ps l cs) f m) m' in
      let h : es ≡ es' = unknown_once _ us us' es es' k.1 n n' in
      cons_one rule tag (contents_of ds) (contents_of ds') a b c d (ap contents_of (one_order_of_components (cs' ++ es') ds ds' (subst (λ l. IsReordered l ds) (ap₂ ◌++◌ g h) p) p' o o'))
  once (list tag s size) rule t u a b same (ts, ls, e, n, w, c) (us, bs, f, m, x, d) =
      cons_one rule tag (joined_lists ls) (joined_lists bs) a b c d (ap joined_lists (elements_once rule s (once s rule) ts us ls bs (same_lists t u ts us e f same) w x))
  once (set_of tag s size) rule t u a b same (ts, ls, e, n, w, o, c) (us, bs, f, m, x, q, d) =
      cons_one rule tag (joined_lists ls) (joined_lists bs) a b c d
      (ap joined_lists (set_of_once rule s (once s rule) ts us ls bs (subst (λ z. Same z (set_elements (items us))) e (subst (Same t) f same)) w x o q))
  once unknown rule t u a b same (ts, ls, e, w, f) (us, bs, g, x, h) =
      f ∙ (ap joined_lists (kept_once ts us ls bs (same_lists t u ts us e g same) w x) ∙ sym h)

  pub each_is_once : (ps : Parts) (rule : Codec) → EachOnce rule ps
  each_is_once Parts.none rule = tt
  each_is_once (part presence s ps) rule = (once s rule, each_is_once ps rule)
