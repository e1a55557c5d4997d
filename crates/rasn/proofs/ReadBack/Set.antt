-- The components of a SET are read as they were written.
use Rattle.std.proofs.Common.{◌≡◌, ℕ, suc, ◌<◌, ◌⊎◌, ◌≢◌, inl, inr, List, [], ◌∷◌, ◌++◌, Bool, false, refl, sym, ap, ◌∙◌, subst, arith, append_assoc}
use Rattle.rasn_types.specs.Tags.{IsTagBelow}
use Rattle.rasn_types.specs.Order.{AreAscending}
use Rattle.rasn_types.specs.declared.types.codec.Codec.{Codec}
use Rattle.rasn_types.specs.declared.types.tag.Tag.{Tag}
use Rattle.rasn_types.specs.Framing.{Begins, Ended}
use Rattle.rasn_types.specs.Shapes.{Tree, items, chosen, absent, Shape, Parts, part, presences, Presence, required, addition, optional_by, default_by, IsAlwaysPresent}
use Rattle.rasn_types.specs.Shapes.Parts.{none}
use Rattle.rasn_types.specs.Readings.{ReadsMany, ReadsFrom, IsNoDefault, IsMissing, ReadsChoice, NoneOf, ByPart, ReadsSet}
use Rattle.rasn_types.specs.Contents.{joined_lists}
use Rattle.rasn_types.specs.Grammar.{Reads, parts_of}
use Rattle.rasn_types.specs.Bytes.{TagsOf, Each, Same, WritesPart, PartsWritten, Bytes, fields_of}
use Rattle.rasn_types.specs.Carried.{PartIsWithinLimits, IsWithinLimits, AreWithinLimits}
use Rattle.rasn_types.proofs.Headers.Frames.{not_ended}
use Rattle.rasn.proofs.ReadBack.Begins.{begins, HasNextTag, has_next_tag}
use Rattle.rasn.proofs.ReadBack.Constructed.{tail_ended, IsReadAs}
use Rattle.rasn_types.specs.Lawful.{HasTag}
use Rattle.rasn_types.proofs.SetOf.Same.{each_same, same_trans}
use Rattle.rasn.proofs.ReadBack.Parts.{EachTagged, nothing_is_next, IsBack, EachBack}

-- Readings by index.
none_more : (j k : ℕ) (u : Tree) (rs : List Tree) → (j ≡ k → ⊥) → NoneOf j rs → NoneOf j (chosen k u ∷ rs)
none_more j k u rs h n = ((λ v e. h cc), n)

by_part_more : (ps : List Presence) (j k : ℕ) (u : Tree) (rs us : List Tree) → k < j → ByPart j ps rs us → ByPart j ps (chosen k u ∷ rs) us
by_part_more [] j k u rs us h b = b
by_part_more (presence ∷ ps) j k u rs us h (t, vs, e, inl o, b) = (
  t,
  vs,
  e,
  inl (record {
    before = chosen k u ∷ o.before;
    after = o.after;
    is = ap (λ l. chosen k u ∷ l) o.is;
    none_before = none_more j k u o.before (λ f. omega arith) o.none_before;
    none_after = o.none_after;
  }),
  by_part_more ps (suc j) k u rs vs (omega arith) b,
)
by_part_more (presence ∷ ps) j k u rs us h (t, vs, e, inr o, b) =
    (t, vs, e, inr (none_more j k u rs (λ f. omega arith) o.0, o.1), by_part_more ps (suc j) k u rs vs (omega arith) b)

-- The readings of these parts within those of all.
abbrev pub Component : Codec → ℕ → Parts → Bool → List ℕ → Tree → List ℕ → Type 0
Component rule depth all c = ReadsChoice rule 0 (parts_of rule all depth c)

-- They are read from the octets of those that are there.
abbrev pub FromBack : Codec → ℕ → Parts → List (List ℕ) → List Tree → Type 0
FromBack rule depth all bs rs = (os : List (List ℕ)) × ((tags : List Tag) → TagsOf bs tags → Each Begins os tags)
    × ((c : Bool) (tail : List ℕ) → ReadsFrom (Component rule depth all c) (joined_lists bs ++ tail) rs tail os)

abbrev pub SetBack : Codec → ℕ → Parts → ℕ → Parts → List Tree → List (List ℕ) → List Tree → List Tree → Type 0
SetBack rule depth all k ps ts bs rs us = Each Same ts us × ByPart k (presences ps) rs us
    × ((j : ℕ) → j < k → NoneOf j rs) × FromBack rule depth all bs rs
    × IsReadAs (λ c. ReadsMany (Component rule depth all c) c) (joined_lists bs) rs

tags_more : (b : List ℕ) (x y : List (List ℕ)) → b ≢ [] → ((tags : List Tag) → TagsOf x tags → Each Begins y tags) → (tags : List Tag) → TagsOf (b ∷ x) tags → Each Begins (b ∷ y) tags
tags_more [] x y some f tags h = absurd (some refl)
tags_more (o ∷ b) x y some f tags (t, more, e, n, h) = (t, more, e, n, f more h)

abbrev pub IsAmong : Codec → ℕ → Parts → ℕ → Parts → Type 0
IsAmong rule depth all k ps = (c : Bool) (input : List ℕ) (t : Tree) (rest : List ℕ)
    → ReadsChoice rule k (parts_of rule ps depth c) input t rest → ReadsChoice rule 0 (parts_of rule all depth c) input t rest

-- a component, read or left out for v
abbrev pub ComponentBack : Codec → ℕ → Presence → Shape → Tree → List ℕ → Type 0
ComponentBack rule depth presence s t b = (v : Tree) × Same t v
    × (((b ≡ []) × IsMissing presence v) ⊎ (IsNoDefault presence v × ((rest : List ℕ) (closing : Bool) → Reads rule s depth closing (b ++ rest) v rest)))

pub component_back : (rule : Codec) (depth : ℕ) (s : Shape) → IsBack rule s depth → (presence : Presence) (t : Tree) (b : List ℕ)
    → PartIsWithinLimits presence (IsWithinLimits rule s depth) t → WritesPart presence (Bytes rule s) t b → ComponentBack rule depth presence s t b
component_back rule depth s back required t b within_limits w = let r = back t b within_limits w in (r.0, r.1, inr (tt, r.2))
component_back rule depth s back addition t b within_limits (inl w) = absurd (within_limits.0 w.0)
component_back rule depth s back addition t b within_limits (inr w) = let r = back t b within_limits.1 w.1 in (r.0, r.1, inr (tt, r.2))
component_back rule depth s back (optional_by key) t b within_limits (inl (e, f)) = (absent, subst (λ x. Same x absent) (sym e) refl, inl (f, refl))
component_back rule depth s back (optional_by key) t b (inl e) (inr w) = absurd (w.0 e)
component_back rule depth s back (optional_by key) t b (inr within_limits) (inr w) = let r = back t b within_limits w.1 in (r.0, r.1, inr (tt, r.2))
component_back rule depth s back (default_by key d) t b within_limits (inl (e, f)) = (d, e, inl (f, refl))
component_back rule depth s back (default_by key d) t b (inl e) (inr w) = absurd (w.0 e)
component_back rule depth s back (default_by key d) t b (inr within_limits) (inr w) = let r = back t b within_limits w.1 in (r.0, r.1, inr ((λ e. w.0 (same_trans t r.0 d r.1 e)), r.2))

-- A component, among all.
pub record ReadMore (rule : Codec) (depth : ℕ) (all : Parts) (b : List ℕ) (t : Tree) : Type 0 where
  pub again : (rest : List ℕ) (closing : Bool) → Component rule depth all closing (b ++ rest) t rest
  pub begins : (rest : List ℕ) → HasNextTag (b ++ rest)

pub read_more : (rule : Codec) (depth : ℕ) (all : Parts) (k : ℕ) (presence : Presence) (s : Shape) (ps : Parts) → IsAlwaysPresent s → HasTag s
    → IsAmong rule depth all k (part presence s ps) → (v : Tree) (b : List ℕ) → IsNoDefault presence v
    → ((rest : List ℕ) (closing : Bool) → Reads rule s depth closing (b ++ rest) v rest) → ReadMore rule depth all b (chosen k v)
unfolding Reads parts_of
read_more rule depth all k presence s ps solid has among v b differs again = record {
  again = λ rest closing.
      let first = begins s solid has rule depth closing (b ++ rest) v rest (again rest closing) in
      among closing (b ++ rest) (chosen k v) rest (inl (v, refl, first.0, first.1, first.2, again rest closing, λ z. differs));
  begins = λ rest. has_next_tag s solid rule depth false (b ++ rest) v rest (again rest false);
}

from_more : (rule : Codec) (depth : ℕ) (all : Parts) (b : List ℕ) (t : Tree) → ReadMore rule depth all b t → (cs : List (List ℕ)) (rs : List Tree)
    → FromBack rule depth all cs rs → FromBack rule depth all (b ∷ cs) (t ∷ rs)
from_more rule depth all b t r cs rs (os, firsts, from) = (
  b ∷ os,
  tags_more b cs os (λ e. nothing_is_next (subst (λ i. HasNextTag (i ++ [])) e (r.begins []))) firsts,
  λ c tail. subst (λ i. ReadsFrom (Component rule depth all c) i (t ∷ rs) tail (b ∷ os)) (sym (append_assoc b (joined_lists cs) tail))
      (b, os, joined_lists cs ++ tail, refl, refl, r.again (joined_lists cs ++ tail) c, from c tail),
)

many_more : (rule : Codec) (depth : ℕ) (all : Parts) (b : List ℕ) (t : Tree) → ReadMore rule depth all b t → (cs : List (List ℕ)) (rs : List Tree)
    → IsReadAs (λ c. ReadsMany (Component rule depth all c) c) (joined_lists cs) rs
    → IsReadAs (λ c. ReadsMany (Component rule depth all c) c) (joined_lists (b ∷ cs)) (t ∷ rs)
many_more rule depth all b t r cs rs many closing tail e =
    let x = joined_lists cs ++ tail in
    let n = r.begins x in
    subst (λ i. ReadsMany (Component rule depth all closing) closing i (t ∷ rs) tail) (sym (append_assoc b (joined_lists cs) tail))
    (not_ended closing (b ++ x) n.1 n.2, x, r.again x closing, many closing tail e)

set_parts_back : (rule : Codec) (depth : ℕ) (all : Parts) (ps : Parts) → EachTagged ps → EachBack rule depth ps → (k : ℕ) → IsAmong rule depth all k ps
    → (ts : List Tree) (bs : List (List ℕ)) → AreWithinLimits rule ps depth ts → PartsWritten (fields_of rule ps) ts bs
    → (rs : List Tree) × (us : List Tree) × SetBack rule depth all k ps ts bs rs us
unfolding Reads parts_of Bytes fields_of IsWithinLimits
set_parts_back rule depth all none has back k among ts bs within_limits (e, f) = (
  [],
  [],
  (
    subst (λ l. Each Same l []) (sym e) refl,
    refl,
    (λ j h. tt),
    ([], (λ tags h. subst (λ l. TagsOf l tags) f h), λ c tail. (refl, sym (ap (λ l. joined_lists l ++ tail) f))),
    λ closing tail t.
        (subst (λ l. Ended closing (joined_lists l ++ tail)) (sym f) (tail_ended closing tail t), sym (ap (λ l. joined_lists l ++ tail) f)),
  ),
)
set_parts_back rule depth all (part presence s ps) has back k among ts bs (t, us, e, within_limits, others) (t', us', b, cs, e', f, w, ws) =
    let eq : t' ∷ us' ≡ t ∷ us = sym e' ∙ e in
    let p : t' ≡ t = cc in
    let q : us' ≡ us = cc in
    go (component_back rule depth s back.1 presence t b within_limits (subst (λ x. WritesPart presence (Bytes rule s) x b) p w))
    (set_parts_back rule depth all ps has.1 back.2 (suc k) (λ c input x rest h. among c input x rest (inr h)) us cs others (subst (λ x. PartsWritten (fields_of rule ps) x cs) q ws))
  where
    go : ComponentBack rule depth presence s t b → (rs : List Tree) × (vs : List Tree) × SetBack rule depth all (suc k) ps us cs rs vs
        → (rs : List Tree) × (vs : List Tree) × SetBack rule depth all k (part presence s ps) ts bs rs vs
    go (v, same, inl (g, m)) (rs, vs, (alike, by, low, from, many)) = (
      rs,
      v ∷ vs,
      (
        subst (λ l. Each Same l (v ∷ vs)) (sym e) (v, vs, refl, same, alike),
        (v, vs, refl, inr (low k (omega arith), m), by),
        (λ j h. low j (omega arith)),
        subst (λ l. FromBack rule depth all l rs) (sym f) (subst (λ l. FromBack rule depth all (l ∷ cs) rs) (sym g) from),
        subst (λ l. IsReadAs (λ c. ReadsMany (Component rule depth all c) c) (joined_lists l) rs) (sym f)
            (subst (λ l. IsReadAs (λ c. ReadsMany (Component rule depth all c) c) (l ++ joined_lists cs) rs) (sym g) many),
      ),
    )
    go (v, same, inr (differs, again)) (rs, vs, (alike, by, low, from, many)) =
        let more = read_more rule depth all k presence s ps back.0 has.0 among v b differs again in (
          chosen k v ∷ rs,
          v ∷ vs,
          (
            subst (λ l. Each Same l (v ∷ vs)) (sym e) (v, vs, refl, same, alike),
            (
              v,
              vs,
              refl,
              inl (record { before = []; after = rs; is = refl; none_before = tt; none_after = low k (omega arith) }),
              by_part_more (presences ps) (suc k) k v rs vs (omega arith) by,
            ),
            (λ j h. none_more j k v rs (λ g. omega arith) (low j (omega arith))),
            subst (λ l. FromBack rule depth all l (chosen k v ∷ rs)) (sym f) (from_more rule depth all b (chosen k v) more cs rs from),
            subst (λ l. IsReadAs (λ c. ReadsMany (Component rule depth all c) c) (joined_lists l) (chosen k v ∷ rs)) (sym f)
                (many_more rule depth all b (chosen k v) more cs rs many),
          ),
        )

pub set_back : (rule : Codec) (depth : ℕ) (ps : Parts) → EachTagged ps → EachBack rule depth ps → (ts : List Tree) (bs : List (List ℕ)) (tags : List Tag)
    → AreWithinLimits rule ps depth ts → PartsWritten (fields_of rule ps) ts bs → TagsOf bs tags → AreAscending IsTagBelow tags
    → (u : Tree) × Same (items ts) u × IsReadAs (λ c. ReadsSet rule (presences ps) (Component rule depth ps c) c) (joined_lists bs) u
set_back rule depth ps has back ts bs tags within_limits w firsts order =
    go (set_parts_back rule depth ps ps has back 0 (λ c input t rest h. h) ts bs within_limits w)
  where
    go : (rs : List Tree) × (us : List Tree) × SetBack rule depth ps 0 ps ts bs rs us
        → (u : Tree) × Same (items ts) u × IsReadAs (λ c. ReadsSet rule (presences ps) (Component rule depth ps c) c) (joined_lists bs) u
    go (rs, us, (alike, by, low, (os, begin, from), many)) =
        (items us, each_same ts us alike, λ closing tail t. (rs, us, refl, many closing tail t, by, λ z. (os, from closing tail, (tags, begin tags firsts, order))))
