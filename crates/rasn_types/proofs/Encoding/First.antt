-- What is written begins with one of the first tags of its shape; and of these tags one is the least.
use Rattle.std.proofs.Common.{◌≡◌, ◌≢◌, ℕ, suc, ◌⊎◌, inl, inr, List, [], ◌∷◌, ◌++◌, Bool, true, Some, None, refl, subst, arith}
use Rattle.rasn_types.specs.Tags.{Codec, Ber, Cer, Der, Tag, eoc, IsTagBelow}
use Rattle.rasn_types.specs.Framing.{Begins}
use Rattle.rasn_types.specs.Shapes.{Tree, numbers, Kind, Shape, leaf, any, prefix, choice, open_choice, option, seq, set, sorted_set, list, set_of, unknown, Parts, part, IsFirst, IsFirstOf}
use Rattle.rasn_types.specs.Shapes.Parts.{none}
use Rattle.rasn_types.specs.Grammar.{Family, plain_family, bit_family, named_family, text_family, family}
use Rattle.rasn_types.specs.Bytes.{Writing, DefiniteForm, ConstructedEncoding, WritesString, WritesIn, WritesChoice, IsUntaggedOpen, IsUntaggedOpenIn, Bytes, fields_of}
use Rattle.rasn_types.specs.LawfulTest.{Firsts, firsts}
use Rattle.rasn_types.proofs.Lawful.{IsAmong, IsIn, DescribesFirsts, firsts_tell}
use Rattle.rasn_types.proofs.InOrder.{not_below_itself, below_trans, below_or_same}

pub definite_begins : (tag : Tag) (bit : Bool) (contents b : List ℕ) → DefiniteForm tag bit contents b → Begins b tag
definite_begins tag bit contents b d = record { id = d.id; bit = bit; more = d.len ++ contents; spells = d.id_spells; is = d.is }

pub constructed_begins : (rule : Codec) (tag : Tag) (contents b : List ℕ) → ConstructedEncoding rule tag contents b → Begins b tag
constructed_begins Ber tag contents b d = definite_begins tag true contents b d
constructed_begins Cer tag contents b d = record { id = d.id; bit = true; more = 128 ∷ (contents ++ (0 ∷ 0 ∷ [])); spells = d.id_spells; is = d.is }
constructed_begins Der tag contents b d = definite_begins tag true contents b d

string_begins : {X : Type 0} (rule : Codec) (writes : Writing (List X)) (size : ℕ) (inner tag : Tag) (xs : List X) (b : List ℕ) → WritesString rule writes size inner tag xs b → Begins b tag
string_begins rule writes size inner tag xs b (inl (s, c, w, d)) = definite_begins tag _ c b d
string_begins rule writes size inner tag xs b (inr (c, n, ps, bs, e, cut, each, d)) = constructed_begins rule tag _ b d

in_begins : (which : Family) (rule : Codec) (kind : Kind) (tag : Tag) (t : Tree) (b : List ℕ) → WritesIn which rule kind tag t b → Begins b tag
in_begins plain_family rule kind tag t b (c, w, d) = definite_begins tag _ c b d
in_begins bit_family rule kind tag t b (bs, e, w) = string_begins rule _ 7992 _ tag bs b w
in_begins named_family rule kind tag t b (bs, e, m, w) = string_begins rule _ 7992 _ tag bs b w
in_begins text_family rule kind tag t b (octets, x, w) = string_begins rule _ 1000 _ tag octets b w

-- The octets begin with a tag for which P holds.
abbrev pub BeginsWithin : (Tag → Type 0) → List ℕ → Type 0
BeginsWithin P b = (n : Tag) × Begins b n × P n

mutual
  unfolding Bytes fields_of IsUntaggedOpen

  pub written_first : (s : Shape) (rule : Codec) (t : Tree) (b : List ℕ) → Bytes rule s t b → (IsUntaggedOpen s t → ⊥) → b ≢ [] → BeginsWithin (IsFirst s) b
  written_first (leaf kind tag bounds) rule t b w bare some = (tag, in_begins (family kind) rule kind tag t b w.1, refl)
  written_first (any None) rule t b w bare some = absurd (bare tt)
  written_first (any (Some tag)) rule t b (octets, e, inl h) bare some = absurd (some h.1)
  written_first (any (Some tag)) rule t b (octets, e, inr h) bare some = (tag, constructed_begins rule tag octets b h.1, refl)
  written_first (prefix tag s) rule t b (inner, w, d) bare some = (tag, constructed_begins rule tag inner b d, refl)
  written_first (choice ps) rule t b w bare some = chosen_first ps rule 0 t b w bare some
  written_first (open_choice ps) rule t b (inl h) bare some = let r = chosen_first ps rule 0 t b h (λ x. bare (inl x)) some in (r.0, r.1, tt)
  written_first (open_choice ps) rule t b (inr e) bare some = absurd (bare (inr (numbers b, e)))
  written_first (option tag s) rule t b (inl h) bare some = absurd (some h.1)
  written_first (option tag s) rule t b (inr h) bare some = written_first s rule t b h.1 bare some
  written_first (seq tag ps) rule t b (ts, bs, e, w, d) bare some = (tag, constructed_begins rule tag _ b d, refl)
  written_first (set tag ps) rule t b (ts, bs, tags, e, w, n, m, o, d) bare some = (tag, constructed_begins rule tag _ b d, refl)
  written_first (sorted_set extensible tag ps) rule t b (ts, us, bs, cs, es, ds, e, w, m, n, p, o, d) bare some = (tag, constructed_begins rule tag _ b d, refl)
  written_first (list tag s size) rule t b (ts, bs, e, m, w, d) bare some = (tag, constructed_begins rule tag _ b d, refl)
  written_first (set_of tag s size) rule t b (ts, bs, e, m, w, o, d) bare some = (tag, constructed_begins rule tag _ b d, refl)
  written_first unknown rule t b w bare some = absurd (bare tt)

  chosen_first : (ps : Parts) (rule : Codec) (k : ℕ) (t : Tree) (b : List ℕ) → WritesChoice k (fields_of rule ps) t b → (IsUntaggedOpenIn k ps t → ⊥) → b ≢ [] → BeginsWithin (IsFirstOf ps) b
  chosen_first none rule k t b w bare some = absurd w
  chosen_first (part presence s ps) rule k t b (inl (u, e, w)) bare some =
      let r = written_first s rule u b w (λ h. bare (inl (u, e, h))) some in (r.0, r.1, inl r.2)
  chosen_first (part presence s ps) rule k t b (inr w) bare some = let r = chosen_first ps rule (suc k) t b w (λ h. bare (inr h)) some in (r.0, r.1, inr r.2)

-- ---- the least of the first tags

abbrev pub IsLeast : (Tag → Type 0) → Tag → Type 0
IsLeast P m = P m × ((n : Tag) → P n → IsTagBelow n m → ⊥)

none_below_eoc : (n : Tag) → IsTagBelow n eoc → ⊥
none_below_eoc n (inl h) = omega (arith, h)
none_below_eoc n (inr h) = omega (arith, h.1)

least_among : (t : Tag) (ts : List Tag) → (m : Tag) × IsLeast (IsAmong (t ∷ ts)) m
least_among t [] = (t, (inl refl, λ n i l. elim i [ inl e ↦ not_below_itself t (subst (λ x. IsTagBelow x t) e l) | inr x ↦ absurd x ]))
least_among t (u ∷ ts) = go (least_among u ts)
  where
    go : (m : Tag) × IsLeast (IsAmong (u ∷ ts)) m → (m : Tag) × IsLeast (IsAmong (t ∷ u ∷ ts)) m
    go (m, (i, least)) = elim (below_or_same t m) [
      | inl l ↦ (
        t,
        (
          inl refl,
          λ n a b. elim a [
            | inl e ↦ not_below_itself t (subst (λ x. IsTagBelow x t) e b)
            | inr o ↦ least n o (below_trans n t m b l)
          ],
        ),
      )
      | inr h ↦ (
        m,
        (
          inr i,
          λ n a b. elim a [
            | inl e ↦ not_first h (subst (λ x. IsTagBelow x m) e b)
            | inr o ↦ least n o b
          ],
        ),
      )
    ]
      where
        not_first : IsTagBelow m t ⊎ (t ≡ m) → IsTagBelow t m → ⊥
        not_first (inl l) b = not_below_itself t (below_trans t m t b l)
        not_first (inr e) b = not_below_itself m (subst (λ x. IsTagBelow x m) e b)

least_in : (f : Firsts) (n : Tag) → IsIn f n → (m : Tag) × IsLeast (IsIn f) m
least_in None n h = (eoc, (tt, λ n i. none_below_eoc n))
least_in (Some []) n h = absurd h
least_in (Some (t ∷ ts)) n h = least_among t ts

least_of : (f : Firsts) (P : Tag → Type 0) → DescribesFirsts f P → (n : Tag) → P n → (m : Tag) × IsLeast P m
least_of f P d n h = let r = least_in f n ((d n).0 h) in (r.0, ((d r.0).1 r.1.0, λ n i l. r.1.1 n ((d n).0 i) l))

pub least_first : (s : Shape) (n : Tag) → IsFirst s n → (m : Tag) × IsLeast (IsFirst s) m
least_first s = least_of (firsts s) (IsFirst s) (firsts_tell s)
