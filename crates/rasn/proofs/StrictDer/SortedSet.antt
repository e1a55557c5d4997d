-- The components of a SET in the order of its tags that DER reads are written as they are read.
use Rattle.std.proofs.Common.{◌≡◌, ℕ, suc, ◌<◌, ◌⊎◌, ◌≢◌, inl, inr, List, [], ◌∷◌, ◌++◌, Bool, refl, sym, ap, ◌∙◌, subst, arith, append_assoc}
use Rattle.std.proofs.lemmas.List.{append_cancel_right}
use Rattle.rasn_types.specs.declared.types.codec.Codec.TheVariants.{Der}
use Rattle.rasn_types.specs.declared.types.tag.Tag.{Tag}
use Rattle.rasn_types.specs.Framing.{AreOctets, Begins}
use Rattle.rasn_types.specs.Shapes.{Tree, numbers, chosen, Parts, part, count, Shape, Presence, IsFirst, IsFirstOf}
use Rattle.rasn_types.specs.Shapes.Parts.{none}
use Rattle.rasn_types.specs.Readings.{Reading, ReadsFrom, IsNoDefault, ReadsChoice, NoneOf, AllOf, AreInTagOrder}
use Rattle.rasn_types.specs.Order.{Each, IsBeforeAll, AreInOrder, IsReordered}
use Rattle.rasn_types.specs.Contents.{joined_lists}
use Rattle.rasn_types.specs.Grammar.{Reads, parts_of, ReadsOpenChoice}
use Rattle.rasn_types.specs.Bytes.{Component, UnknownComponents, ComesBefore}
use Rattle.rasn_types.proofs.Headers.Frames.{begins_one}
use Rattle.rasn_types.specs.Lawful.{AreDisjoint}
use Rattle.rasn_types.proofs.InOrder.{same_order, insert_each}
use Rattle.rasn_de.proofs.Headers.Begins.{begins_more}
use Rattle.rasn.proofs.TagOrder.{IsComponentIn, InTurn, unknown_in_turn, none_above, all_before}
use Rattle.rasn.proofs.StrictDer.Leaves.{tail_octets}
use Rattle.rasn.proofs.StrictDer.Parts.{other_read}

-- The components of these parts, and the unknown ones of all the parts.
abbrev pub Components : Parts → Parts → ℕ → ℕ → Bool → Reading Tree
Components all ps depth k c = ReadsOpenChoice Der (IsFirstOf all) (count all) (ReadsChoice Der k (parts_of Der ps depth c))

-- The component is read from these octets, which are followed by others and begin with a tag.
pub record IsReadFrom (all ps : Parts) (depth k : ℕ) (c : Bool) (t : Tree) (o : List ℕ) : Type 0 where
  pub input : List ℕ
  pub rest : List ℕ
  pub is : input ≡ o ++ rest
  pub octets : AreOctets input
  pub tag : Tag
  pub begins : Begins o tag
  pub reads : Components all ps depth k c input t rest

pub each_read : (all ps : Parts) (depth k : ℕ) (c : Bool) (input : List ℕ) (rs : List Tree) (rest : List ℕ) (os : List (List ℕ)) (tags : List Tag) → AreOctets input
    → ReadsFrom (Components all ps depth k c) input rs rest os → Each Begins os tags → Each (IsReadFrom all ps depth k c) rs os × (input ≡ joined_lists os ++ rest)
each_read all ps depth k c input [] rest os tags o h b = (h.0, sym h.1 ∙ ap (λ l. joined_lists l ++ rest) (sym h.0))
each_read all ps depth k c input (r ∷ rs) rest os tags o (a, more, middle, e, f, h, hs) b =
    let z : Each Begins (a ∷ more) tags = subst (λ l. Each Begins l tags) e b in
    let q = each_read all ps depth k c middle rs rest more z.1 (tail_octets input a middle f o) hs z.4 in (
      (a, more, e, record { input = input; rest = middle; is = f; octets = o; tag = z.0; begins = z.3; reads = h }, q.0),
      f ∙ (ap (λ l. a ++ l) q.1 ∙ (sym (append_assoc a (joined_lists more) rest) ∙ ap (λ l. joined_lists l ++ rest) (sym e))),
    )

-- What is related to one of a list's elements, and to the others.
pub each_at : {X Y : Type 0} (R : X → Y → Type 0) (before : List X) (x : X) (after : List X) (ys : List Y) → Each R (before ++ (x ∷ after)) ys
    → (front : List Y) × (y : Y) × (back : List Y) × (ys ≡ front ++ (y ∷ back)) × R x y × Each R (before ++ after) (front ++ back)
each_at R [] x after ys (y, more, e, r, h) = ([], y, more, e, r, h)
each_at R (z ∷ before) x after ys (w, more, e, r, h) =
    let o = each_at R before x after more h in
    (w ∷ o.0, o.1, o.2, e ∙ ap (λ l. w ∷ l) o.3, o.4, (w, o.0 ++ o.2, refl, r, o.5))

-- Components none of which is of part k are of the parts after it, or unknown.
pub behind : (all : Parts) (presence : Presence) (s : Shape) (ps : Parts) (depth k : ℕ) (c : Bool) (rs : List Tree) (os : List (List ℕ))
    → Each (IsReadFrom all (part presence s ps) depth k c) rs os → NoneOf k rs → Each (IsReadFrom all ps depth (suc k) c) rs os
unfolding Reads parts_of
behind all presence s ps depth k c [] os h n = h
behind all presence s ps depth k c (r ∷ rs) os (o, more, e, h, hs) n = (o, more, e, go h.reads, behind all presence s ps depth k c rs more hs n.1)
  where
    go : Components all (part presence s ps) depth k c h.input r h.rest → IsReadFrom all ps depth (suc k) c r o
    go (inl (inl x)) = absurd (n.0 x.0 x.1)
    go (inl (inr x)) = record { input = h.input; rest = h.rest; is = h.is; octets = h.octets; tag = h.tag; begins = h.begins; reads = inl x }
    go (inr x) = record { input = h.input; rest = h.rest; is = h.is; octets = h.octets; tag = h.tag; begins = h.begins; reads = inr x }

-- The reading of a part says nothing of unknown values.
pub all_of_less : (n k : ℕ) (t : Tree) (before after us : List Tree) → k < n → AllOf n (before ++ (chosen k t ∷ after)) us → AllOf n (before ++ after) us
all_of_less n k t [] after us l (inl (u, more, e, f, h)) = let g : k ≡ n = cc in absurd (omega (arith, l, g))
all_of_less n k t [] after us l (inr (d, h)) = h
all_of_less n k t (x ∷ before) after us l (inl (u, more, e, f, h)) = inl (u, more, e, f, all_of_less n k t before after more l h)
all_of_less n k t (x ∷ before) after us l (inr (d, h)) = inr (d, all_of_less n k t before after us l h)

-- ---- the tags of components

-- The component begins with one of the first tags of these parts, or is unknown among all.
abbrev pub IsToldFrom : Parts → Parts → Component → Type 0
IsToldFrom all ps c = IsFirstOf ps c.tag ⊎ (IsFirstOf all c.tag → ⊥)

abbrev pub AreOfParts : Parts → Parts → List Component → Type 0
AreOfParts all ps [] = Unit {0}
AreOfParts all ps (c ∷ cs) = IsToldFrom all ps c × AreOfParts all ps cs

told_later : (all : Parts) (presence : Presence) (s : Shape) (ps : Parts) (c : Component) → IsToldFrom all ps c → IsToldFrom all (part presence s ps) c
told_later all presence s ps c (inl h) = inl (inr h)
told_later all presence s ps c (inr h) = inr h

of_later : (all : Parts) (presence : Presence) (s : Shape) (ps : Parts) (cs : List Component) → AreOfParts all ps cs → AreOfParts all (part presence s ps) cs
of_later all presence s ps [] h = tt
of_later all presence s ps (c ∷ cs) h = (told_later all presence s ps c h.0, of_later all presence s ps cs h.1)

of_inserted : (all ps : Parts) (c : Component) (front back : List Component) → IsToldFrom all ps c → AreOfParts all ps (front ++ back) → AreOfParts all ps (front ++ (c ∷ back))
of_inserted all ps c [] back i h = (i, h)
of_inserted all ps c (d ∷ front) back i h = (h.0, of_inserted all ps c front back i h.1)

-- Each first tag of these parts is one of all.
abbrev pub AreAmong : Parts → Parts → Type 0
AreAmong all ps = (n : Tag) → IsFirstOf ps n → IsFirstOf all n

module _ (all : Parts) (presence : Presence) (s : Shape) (ps : Parts) (disjoint : AreDisjoint (IsFirst s) (IsFirstOf ps)) (among : AreAmong all (part presence s ps)) where
  apart : (c d : Component) → IsFirst s c.tag → IsToldFrom all ps d → c.tag ≢ d.tag
  apart c d i (inl o) e = disjoint d.tag (subst (IsFirst s) e i) o
  apart c d i (inr o) e = o (among d.tag (inl (subst (IsFirst s) e i)))

  in_turn_before : (c : Component) → IsFirst s c.tag → (cs : List Component) → AreOfParts all ps cs → IsBeforeAll InTurn c cs
  in_turn_before c i [] o = tt
  in_turn_before c i (d ∷ cs) o = ((λ e. absurd (apart c d i o.0 e)), in_turn_before c i cs o.1)

  before_inserted : (d c : Component) (front back : List Component) → InTurn d c → IsBeforeAll InTurn d (front ++ back) → IsBeforeAll InTurn d (front ++ (c ∷ back))
  before_inserted d c [] back i h = (i, h)
  before_inserted d c (e ∷ front) back i h = (h.0, before_inserted d c front back i h.1)

  -- A component of a part has another tag than the others, wherever it is among them.
  in_turn_inserted : (c : Component) → IsFirst s c.tag → (front back : List Component) → AreOfParts all ps (front ++ back) → AreInOrder InTurn (front ++ back) → AreInOrder InTurn (front ++ (c ∷ back))
  in_turn_inserted c i [] back o d = (in_turn_before c i back o, d)
  in_turn_inserted c i (e ∷ front) back o d =
      (before_inserted e c front back (λ f. absurd (apart c e i o.0 (sym f))) d.0, in_turn_inserted c i front back o.1 d.1)

-- The components of parts, and of unknown values, in the order in which they are read.
abbrev pub InReadOrder : Parts → Parts → List Component → List Component → List (List ℕ) → Type 0
InReadOrder all ps cs es os = (fs : List Component) × IsReordered (cs ++ es) fs × Each IsComponentIn os fs × AreOfParts all ps fs × AreInOrder InTurn fs

pub read_later : (all : Parts) (presence : Presence) (s : Shape) (ps : Parts) (cs es : List Component) (os : List (List ℕ)) → InReadOrder all ps cs es os → InReadOrder all (part presence s ps) cs es os
read_later all presence s ps cs es os (fs, p, h, of, d) = (fs, p, h, of_later all presence s ps fs of, d)

-- The component of a part, put among the others.
pub put_in : (all : Parts) (presence : Presence) (s : Shape) (ps : Parts) → AreDisjoint (IsFirst s) (IsFirstOf ps) → AreAmong all (part presence s ps) → (c : Component) (cs es : List Component) (front : List (List ℕ)) (o : List ℕ) (back : List (List ℕ))
    → IsComponentIn o c → IsFirst s c.tag → InReadOrder all ps cs es (front ++ back) → InReadOrder all (part presence s ps) (c ∷ cs) es (front ++ (o ∷ back))
put_in all presence s ps disjoint among c cs es front o back i first (fs, p, h, of, d) =
    let r = insert_each IsComponentIn o c i front back fs h in
    let of' : AreOfParts all ps (r.0 ++ r.1) = subst (AreOfParts all ps) r.2 of in (
      r.0 ++ (c ∷ r.1),
      (r.0, r.1, refl, subst (IsReordered (cs ++ es)) r.2 p),
      r.3,
      of_inserted all (part presence s ps) c r.0 r.1 (inl (inl first)) (of_later all presence s ps (r.0 ++ r.1) of'),
      in_turn_inserted all presence s ps disjoint among c first r.0 r.1 of' (subst (AreInOrder InTurn) r.2 d),
    )

-- The order in which DER reads components is that in which they are written.
pub read_in_order : (all ps : Parts) (cs es : List Component) (os : List (List ℕ)) → AreInTagOrder os → (r : InReadOrder all ps cs es os) → AreInOrder ComesBefore r.0
read_in_order all ps cs es os firsts (fs, p, h, of, d) = all_before fs d (none_above os fs firsts h)

-- The first tag of what is read of part k is the component's.
pub first_read : (all : Parts) (presence : Presence) (s : Shape) (ps : Parts) (depth k : ℕ) (c : Bool) (t : Tree) (o : List ℕ) → k < count all → (h : IsReadFrom all (part presence s ps) depth k c (chosen k t) o)
    → IsFirst s h.tag × Reads Der s depth c h.input t h.rest × IsNoDefault presence t
unfolding Reads parts_of
first_read all presence s ps depth k c t o low h = go h.reads
  where
    go : Components all (part presence s ps) depth k c h.input (chosen k t) h.rest → IsFirst s h.tag × Reads Der s depth c h.input t h.rest × IsNoDefault presence t
    go (inl (inr x)) = absurd (other_read ps depth (suc k) k c h.input (chosen k t) t h.rest (omega arith) refl x)
    go (inl (inl (u, e, n, next, first, r, differs))) =
        let z : u ≡ t = cc in
        let q : n ≡ h.tag = begins_one h.input n h.tag next.begins (subst (λ i. Begins i h.tag) (sym h.is) (begins_more o h.rest h.tag h.begins)) in
        (subst (IsFirst s) q first, subst (λ x. Reads Der s depth c h.input x h.rest) z r, subst (IsNoDefault presence) z (differs tt))
    go (inr (u, e, n, next, other, x)) = let g : k ≡ count all = cc in absurd (omega (arith, low, g))

-- What is left when no part is, is unknown values.
abbrev pub UnknownMade : Parts → ℕ → List Tree → List (List ℕ) → Type 0
UnknownMade all j us os = (es : List Component) × UnknownComponents j us es × Each IsComponentIn os es × AreOfParts all none es

unknown_rest : (all : Parts) (depth k : ℕ) (c : Bool) (rs : List Tree) (os : List (List ℕ)) (us : List Tree) (j : ℕ) → Each (IsReadFrom all none depth k c) rs os → AllOf (count all) rs us → UnknownMade all j us os
unfolding Reads parts_of
unknown_rest all depth k c [] os us j h a = ([], subst (λ l. UnknownComponents j l []) (sym a) refl, subst (λ l. Each IsComponentIn l []) (sym h) refl, tt)
unknown_rest all depth k c (r ∷ rs) os us j (o, more, e, h, hs) (inr (d, a)) = absurd (go h.reads)
  where
    go : Components all none depth k c h.input r h.rest → ⊥
    go (inl x) = x
    go (inr (v, f, n, next, other, x)) = d v f
unknown_rest all depth k c (r ∷ rs) os us j (o, more, e, h, hs) (inl (u, others, f, g, a)) = go h.reads (unknown_rest all depth k c rs more others (suc j) hs a)
  where
    go : Components all none depth k c h.input r h.rest → UnknownMade all (suc j) others more → UnknownMade all j us os
    go (inl x) later = absurd x
    go (inr (v, i, n, next, other, (text, is, whole, l))) (es, m, within, of) =
        let p : u ≡ v = cc in
        let q : text ≡ o = append_cancel_right text o h.rest (sym l ∙ h.is) in
        let w : n ≡ h.tag = begins_one h.input n h.tag next.begins (subst (λ i. Begins i h.tag) (sym h.is) (begins_more o h.rest h.tag h.begins)) in
        let d : Component = record { tag = h.tag; number = j; octets = o } in (
          d ∷ es,
          subst (λ l. UnknownComponents j l (d ∷ es)) (sym g) (h.tag, o, es, p ∙ (is ∙ ap numbers q), h.begins, refl, m),
          subst (λ l. Each IsComponentIn l (d ∷ es)) (sym e) (d, es, refl, (refl, h.begins), within),
          (inr (subst (λ x. IsFirstOf all x → ⊥) w other), of),
        )

pub rest_in_order : (all : Parts) (depth k : ℕ) (c : Bool) (rs : List Tree) (os : List (List ℕ)) (us : List Tree) → Each (IsReadFrom all none depth k c) rs os → AllOf (count all) rs us
    → (es : List Component) × UnknownComponents (count all) us es × InReadOrder all none [] es os
rest_in_order all depth k c rs os us h a =
    let r = unknown_rest all depth k c rs os us (count all) h a in
    (r.0, r.1, (r.0, same_order r.0, r.2, r.3, unknown_in_turn (count all) us r.0 r.1))
