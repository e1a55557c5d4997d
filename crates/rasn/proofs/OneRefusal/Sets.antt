-- A SET is refused in one way if its parts are.
use Rattle.std.proofs.Common.{◌≡◌, ℕ, zero, suc, ◌+◌, ◌⊎◌, inl, inr, List, [], ◌∷◌, ◌++◌, map, Bool, Result, Ok, Err, refl, sym, ap, ap₂, ◌∙◌, subst, arith, append_assoc}
use Rattle.rasn_types.specs.declared.types.codec.Codec.{Codec}
use Rattle.rasn_types.specs.declared.types.tag.Tag.{Tag}
use Rattle.rasn_types.specs.declared.error.decode.DecodeError.{DecodeError}
use Rattle.rasn_types.specs.Errors.{IsOutOfMemory}
use Rattle.rasn_types.specs.Tags.{form, IsStrict, IsTagBelow}
use Rattle.rasn_types.specs.Framing.{AreOctets, Ended, NextTag, Begins}
use Rattle.rasn_types.specs.Order.{Each, AreAscending}
use Rattle.rasn_types.specs.Shapes.{Tree, chosen, Parts, part, Presence, presences, choice_by}
use Rattle.rasn_types.specs.Shapes.Parts.{none}
use Rattle.rasn_types.specs.Readings.{AreInTagOrder, NoneOf, OneOf}
use Rattle.rasn_de.specs.State.{State, Call, at}
use Rattle.rasn_de.specs.Steps.{PeeksTag}
use Rattle.rasn_de.specs.Decodes.{Decodes}
use Rattle.rasn_de.specs.Constructed.{sequence_header}
use Rattle.rasn_de.specs.NamedErrors.{IsNamedError, IsMissingField, IsDuplicateField}
use Rattle.rasn_de.specs.SequenceOf.{RefusesElement}
use Rattle.rasn_de.specs.Set.{FailsAtComponent, no_tag, falls, not_read, DecodesUpTo, DecodesIntoSlots, DecodesSetContents}
use Rattle.rasn_de.specs.SetPartTypes.{name_at, IsPart, FailsAtSetPart, DecodesOneOf, AreOnce, RepeatsFirst, LacksFirst, MakesOfReadings, MakesNamed, DecodesSetPartContents, DecodesNamedContents, DecodesNamedParts, set_by}
use Rattle.rasn_de.specs.AlternativeTypes.{FailsAtAlternativeBy}
use Rattle.rasn_de.specs.ValueErrors.{Errors, errors_of}
use Rattle.rasn_de.proofs.Headers.Begins.{begins_more}
use Rattle.rasn_de.proofs.Headers.Tags.{tags_more, tags_split, front_in_order}
use Rattle.rasn_de.proofs.Constructed.Choice.{choice_by_next}
use Rattle.rasn_de.proofs.Constructed.Optional.{peeks_none}
use Rattle.rasn_de.proofs.Constructed.Steps.{inside_by}
use Rattle.rasn_de.proofs.Constructed.ValueErrors.{turn_from_by}
use Rattle.rasn_de.proofs.Constructed.SortedSetContents.{SortedSetReads}
use Rattle.rasn_de.proofs.OwnTypes.Components.{not_none}
use Rattle.rasn_de.proofs.OwnTypes.SetPartTypes.{same_trees}
use Rattle.rasn_de.proofs.OwnTypes.SortedSetParts.{members_decode, sorted_parts_decode, set_parts_decode}
use Rattle.rasn.specs.OneRefusal.{same_missing, same_duplicate, Refuses, IsSameError, ReadingBy, ReadsShape, IsRefusedOnce, AreApart, AreRefusedOnce, Rejects}
use Rattle.rasn.proofs.OneRefusal.Calls.{equal_errors, exactly_apart, IsExactCall, exactly_determined, peeks_once}
use Rattle.rasn.proofs.OneRefusal.Inside.{inside_determined}
use Rattle.rasn.proofs.OneRefusal.Lists.{element_once, stuck, GoesOn, Compared, same, longer, shorter, compare, run_end}
use Rattle.rasn.proofs.OneRefusal.Alternatives.{FailsAtNext, next_fails, next_once}

-- ---- where two lists that are joined at an element differ

data Aligned {X : Type 0} (xs ys us vs : List X) (x y : X) : Type 0 where
  level : xs ≡ ys → x ≡ y → us ≡ vs → Aligned xs ys us vs x y
  later : (m : List X) → ys ≡ xs ++ x ∷ m → us ≡ m ++ y ∷ vs → Aligned xs ys us vs x y
  earlier : (m : List X) → xs ≡ ys ++ y ∷ m → vs ≡ m ++ x ∷ us → Aligned xs ys us vs x y

align : {X : Type 0} (xs ys us vs : List X) (x y : X) → xs ++ x ∷ us ≡ ys ++ y ∷ vs → Aligned xs ys us vs x y
align [] [] us vs x y e = let p : x ≡ y = cc in let q : us ≡ vs = cc in level refl p q
align [] (b ∷ ys) us vs x y e = let p : x ≡ b = cc in let q : us ≡ ys ++ y ∷ vs = cc in later ys (ap (λ z. z ∷ ys) (sym p)) q
align (a ∷ xs) [] us vs x y e = let p : a ≡ y = cc in let q : xs ++ x ∷ us ≡ vs = cc in earlier xs (ap (λ z. z ∷ xs) p) (sym q)
align (a ∷ xs) (b ∷ ys) us vs x y e =
    let p : a ≡ b = cc in
    let q : xs ++ x ∷ us ≡ ys ++ y ∷ vs = cc in
    go p (align xs ys us vs x y q)
  where
    go : a ≡ b → Aligned xs ys us vs x y → Aligned (a ∷ xs) (b ∷ ys) us vs x y
    go p (level f g h) = level (ap₂ ◌∷◌ p f) g h
    go p (later m f g) = later m (ap₂ ◌∷◌ (sym p) f) g
    go p (earlier m f g) = earlier m (ap₂ ◌∷◌ p f) g

-- A part that is read twice isn't read once.
twice : (k : ℕ) (t v u : Tree) (xs ys zs readings : List Tree) → readings ≡ xs ++ chosen k t ∷ (ys ++ chosen k v ∷ zs) → OneOf k u readings → ⊥
twice k t v u xs ys zs readings e o = go (align xs o.before (ys ++ chosen k v ∷ zs) o.after (chosen k t) (chosen k u) (sym e ∙ o.is))
  where
    go : Aligned xs o.before (ys ++ chosen k v ∷ zs) o.after (chosen k t) (chosen k u) → ⊥
    go (level f g h) = not_none k v ys zs (subst (NoneOf k) (sym h) o.none_after)
    go (later m f g) = not_none k t xs m (subst (NoneOf k) f o.none_before)
    go (earlier m f g) = not_none k t m (ys ++ chosen k v ∷ zs) (subst (NoneOf k) g o.none_after)

some_read : (k : ℕ) (t : Tree) (xs ys readings : List Tree) → readings ≡ xs ++ chosen k t ∷ ys → NoneOf k readings → ⊥
some_read k t xs ys readings e n = not_none k t xs ys (subst (NoneOf k) e n)

-- What is said of each part is said of one of them.
part_once : (ps : Parts) (j k i : ℕ) (readings : List Tree) → i ≡ j + k → IsPart k ps → AreOnce j (presences ps) readings → NoneOf i readings ⊎ ((t : Tree) × OneOf i t readings)
part_once none j k i readings e h a = absurd h
part_once (part p s ps) j zero i readings e h a = let f : j ≡ i = omega (arith, e) in subst (λ z. NoneOf z readings ⊎ ((t : Tree) × OneOf z t readings)) f a.0
part_once (part p s ps) j (suc k) i readings e h a = part_once ps (suc j) k i readings (omega (arith, e)) h a.1

repeats_once : (ps : Parts) (k : ℕ) (t v : Tree) (xs ys zs readings : List Tree) → readings ≡ xs ++ chosen k t ∷ (ys ++ chosen k v ∷ zs) → IsPart k ps → AreOnce 0 (presences ps) readings → ⊥
repeats_once ps k t v xs ys zs readings e h a =
    elim (part_once ps 0 k k readings (omega arith) h a) [ inl n ↦ some_read k t xs (ys ++ chosen k v ∷ zs) readings e n | inr o ↦ twice k t v o.0 xs ys zs readings e o.1 ]

-- The readings before the one that repeats a part, and that one.
repeated : (ps : Parts) (k : ℕ) (readings : List Tree) (r : RepeatsFirst ps k readings) (more : List Tree) (others : List Tree) → others ≡ r.before ++ chosen k r.value ∷ more → AreOnce 0 (presences ps) others → ⊥
repeated ps k readings r more others e a =
    let o = r.read.1 in
    let f : others ≡ o.before ++ chosen k r.read.0 ∷ (o.after ++ chosen k r.value ∷ more) = e ∙ (ap (λ z. z ++ chosen k r.value ∷ more) o.is ∙ append_assoc o.before (chosen k r.read.0 ∷ o.after) (chosen k r.value ∷ more)) in
    repeats_once ps k r.read.0 r.value o.before o.after more others f r.is_part a

first_repeated : (ps : Parts) (k j : ℕ) (readings : List Tree) → RepeatsFirst ps k readings → RepeatsFirst ps j readings → k ≡ j
first_repeated ps k j readings r q = go (align r.before q.before r.after q.after (chosen k r.value) (chosen j q.value) (sym r.is ∙ q.is))
  where
    go : Aligned r.before q.before r.after q.after (chosen k r.value) (chosen j q.value) → k ≡ j
    go (level f g h) = cc
    go (later m f g) = absurd (repeated ps k readings r m q.before f q.once)
    go (earlier m f g) = absurd (repeated ps j readings q m r.before f r.once)

first_lacking : (i : ℕ) (ps : List Presence) (readings : List Tree) (k j : ℕ) → LacksFirst i ps readings k → LacksFirst i ps readings j → k ≡ j
first_lacking i [] readings k j a b = absurd a
first_lacking i (p ∷ ps) readings zero zero a b = refl
first_lacking i (p ∷ ps) readings zero (suc j) a b = absurd (b.0 a.0 a.1)
first_lacking i (p ∷ ps) readings (suc k) zero a b = absurd (a.0 b.0 b.1)
first_lacking i (p ∷ ps) readings (suc k) (suc j) a b = ap suc (first_lacking (suc i) ps readings k j a.1 b.1)

-- ---- what is made of all components

module _ {D : Type 0} (extensible : Bool) (ps : Parts) (tree : D → Tree) (names : List (List ℕ)) where
  named_missing : (rule : Codec) (k j : ℕ) (e f : DecodeError) → (IsOutOfMemory e.kind → ⊥) → (IsOutOfMemory f.kind → ⊥) → k ≡ j
      → IsNamedError (IsMissingField (name_at names k)) rule e → IsNamedError (IsMissingField (name_at names j)) rule f → IsSameError e f
  named_missing rule k j e f m n p (a, inr x) b = absurd (m x)
  named_missing rule k j e f m n p (a, inl x) (b, inr y) = absurd (n y)
  named_missing rule k j e f m n p (a, inl x) (b, inl y) = (same_missing (name_at names j) (subst (λ z. IsMissingField (name_at names z) e.kind) p x) y, a ∙ sym b)

  named_duplicate : (rule : Codec) (k j : ℕ) (e f : DecodeError) → (IsOutOfMemory e.kind → ⊥) → (IsOutOfMemory f.kind → ⊥) → k ≡ j
      → IsNamedError (IsDuplicateField (name_at names k)) rule e → IsNamedError (IsDuplicateField (name_at names j)) rule f → IsSameError e f
  named_duplicate rule k j e f m n p (a, inr x) b = absurd (m x)
  named_duplicate rule k j e f m n p (a, inl x) (b, inr y) = absurd (n y)
  named_duplicate rule k j e f m n p (a, inl x) (b, inl y) = (same_duplicate (name_at names j) (subst (λ z. IsDuplicateField (name_at names z) e.kind) p x) y, a ∙ sym b)

  made_once : (rule : Codec) (readings : List Tree) (e f : DecodeError) → (IsOutOfMemory e.kind → ⊥) → (IsOutOfMemory f.kind → ⊥)
      → MakesOfReadings {D = D} extensible ps tree names rule readings (Err e) → MakesOfReadings {D = D} extensible ps tree names rule readings (Err f) → IsSameError e f
  made_once rule readings e f m n (inl a) b = absurd (m a)
  made_once rule readings e f m n (inr a) (inl b) = absurd (n b)
  made_once rule readings e f m n (inr (inl (k, a, x))) (inr (inl (j, b, y))) = named_duplicate rule k j e f m n (first_repeated ps k j readings a b) x y
  made_once rule readings e f m n (inr (inl (k, a, x))) (inr (inr (b, j))) = absurd (repeated ps k readings a a.after readings a.is b)
  made_once rule readings e f m n (inr (inr (a, k))) (inr (inl (j, b, y))) = absurd (repeated ps j readings b b.after readings b.is a)
  made_once rule readings e f m n (inr (inr (a, (k, x, y)))) (inr (inr (b, (j, z, w)))) = named_missing rule k j e f m n (first_lacking 0 (presences ps) readings k j x z) y w

-- ---- what is read as components, each with its errors, is read as components

module _ {D : Type 0} (extensible : Bool) (ps : Parts) (name : List ℕ) (errors : Tag → Errors) (tree : D → Tree) (names : List (List ℕ)) where
  abbrev Named : Call Tree
  Named = DecodesOneOf extensible ps name errors

  abbrev Plain : Call Tree
  Plain = Decodes (choice_by extensible ps) (λ (t : Tree). t)

  plainly : (old : State) (r : Result Tree DecodeError) (new : State) → Named old r new → Plain old r new
  plainly old r new a = a.0

  element_by : (here : State) (e : DecodeError) (new : State) → RefusesElement Named here e new → RefusesElement Plain here e new
  element_by here e new (inl a) = inl a.0
  element_by here e new (inr (v, a, c)) = inr (v, a.0, c)

  component_by : (bs : List (List ℕ)) (here : State) (e : DecodeError) (new : State) → FailsAtComponent (RefusesElement Named) bs here e new → FailsAtComponent (RefusesElement Plain) bs here e new
  component_by bs here e new (no_tag a p q) = no_tag a p q
  component_by bs here e new (falls a t n d w q) = falls a t n d w q
  component_by bs here e new (not_read f w) = not_read f (element_by here e new w)

  slots_by : (old : State) (r : Result (List Tree) DecodeError) (new : State) → DecodesIntoSlots Named old r new → DecodesIntoSlots Plain old r new
  slots_by old (Ok vs) new (bs, (p, up), end) = (bs, (turn_from_by Named Plain plainly old vs bs new p, up), end)
  slots_by old (Err e) new (vs, bs, here, (p, up), x, k) = (vs, bs, here, (turn_from_by Named Plain plainly old vs bs here p, up), x, component_by bs here e new k)

  contents_by : (old : State) (r : Result D DecodeError) (new : State) → DecodesNamedContents extensible ps tree name names errors old r new → DecodesSetPartContents extensible ps tree names old r new
  contents_by old (Ok v) new (fields, a, x) = (fields, slots_by old (Ok fields) new a, x.0)
  contents_by old (Err e) new (inl a) = inl (slots_by old (Err e) new a)
  contents_by old (Err e) new (inr (fields, a, x)) = inr (fields, slots_by old (Ok fields) new a, x.0)

  pub contents_exact : IsExactCall (DecodesNamedContents extensible ps tree name names errors) (SortedSetReads extensible ps) tree
  contents_exact old o r new a = members_decode extensible ps tree names old r new (contents_by old r new a)

  pub set_exact : (tag : Tag) → IsExactCall (DecodesNamedParts extensible ps tree name names errors tag) (ReadsShape (set_by extensible tag ps)) tree
  set_exact tag old o r new a =
      set_parts_decode extensible ps tree tag old r new
      (sorted_parts_decode extensible ps tree names tag old (λ _. o) r new
      (inside_by (DecodesNamedContents extensible ps tree name names errors) (DecodesSetPartContents extensible ps tree names) (sequence_header tag) old r new a contents_by))

-- ---- components that are read in one way, each as one of some parts

-- The tags are in order as far as the next component.
tags_on : (bs others : List (List ℕ)) (b l rest : List ℕ) → l ≡ b ++ rest → AreInTagOrder (bs ++ b ∷ others) → AreInTagOrder (bs ++ l ∷ [])
tags_on bs others b l rest e (tags, each, up) = go (tags_split bs (b ∷ others) tags each)
  where
    go : (us : List Tag) × (vs : List Tag) × (tags ≡ us ++ vs) × Each Begins bs us × Each Begins (b ∷ others) vs → AreInTagOrder (bs ++ l ∷ [])
    go (us, vs, p, x, (t, ts, q, y, z)) =
        let f : tags ≡ (us ++ t ∷ []) ++ ts = p ∙ (ap (λ w. us ++ w) q ∙ sym (append_assoc us (t ∷ []) ts)) in
        (us ++ t ∷ [], tags_more bs us l t x (subst (λ w. Begins w t) (sym e) (begins_more b rest t y)), front_in_order IsTagBelow (us ++ t ∷ []) ts (subst (AreAscending IsTagBelow) f up))

module _ {F L : Type 0} (extensible : Bool) (ps : Parts) (read : Call F) (tree : F → Tree) (exact : IsExactCall read (ReadsShape (choice_by extensible ps)) tree) (once : IsRefusedOnce (errors_of read)) (elements : L → List F) where
  abbrev OneOfThese : ReadingBy
  OneOfThese = ReadsShape (choice_by extensible ps)

  -- Where a component can't be read, no more are.
  component_stuck : (old here : State) (bs cs : List (List ℕ)) (e : DecodeError) (new : State) → here ≡ at old here.rest → AreOctets here.rest → (IsOutOfMemory e.kind → ⊥) → (IsStrict old.rule → AreInTagOrder cs)
      → FailsAtComponent (RefusesElement read) bs here e new → GoesOn read OneOfThese tree exact once here bs cs → ⊥
  component_stuck old here bs cs e new s o m up (no_tag strict p q) g =
      let n = choice_by_next extensible here.rule ps here.depth here.closing here.rest (tree g.value) g.next.rest (exact here o (Ok g.value) g.next g.reading).exact.0 in
      peeks_none here e p n.0 n.1
  component_stuck old here bs cs e new s o m up (falls strict tag n down w q) g =
      down (tags_on bs g.others g.octets here.rest g.next.rest g.from (subst AreInTagOrder g.is (up (subst (λ (z : State). IsStrict z.rule) s strict))))
  component_stuck old here bs cs e new s o m up (not_read f w) g = stuck read OneOfThese tree exact once here o e new g.next g.value m w g.reading g.takes

  component_once : (bs : List (List ℕ)) → IsRefusedOnce (FailsAtComponent (RefusesElement read) bs)
  component_once bs here o e f new other (no_tag a p q, m) (no_tag b r s, n) = (peeks_once here e f p r, q ∙ sym s)
  component_once bs here o e f new other (no_tag a p q, m) (falls b t x d w s, n) = absurd (peeks_none here e p t x)
  component_once bs here o e f new other (no_tag a p q, m) (not_read x w, n) = let y = x a in absurd (peeks_none here e p y.0 y.1)
  component_once bs here o e f new other (falls a t x d w q, m) (no_tag b r s, n) = absurd (peeks_none here f r t x)
  component_once bs here o e f new other (falls a t x d w q, m) (falls b u y c v s, n) = (equal_errors (w ∙ sym v), q ∙ sym s)
  component_once bs here o e f new other (falls a t x d w q, m) (not_read y v, n) = absurd (d (y a).2)
  component_once bs here o e f new other (not_read x w, m) (no_tag b r s, n) = let y = x b in absurd (peeks_none here f r y.0 y.1)
  component_once bs here o e f new other (not_read x w, m) (falls b u y c v s, n) = absurd (c (x b).2)
  component_once bs here o e f new other (not_read x w, m) (not_read y v, n) = element_once read OneOfThese tree exact once here o e f new other (w, m) (v, n)

  abbrev Run : List F → List F → List (List ℕ) → List (List ℕ) → State → State → Type 0
  Run vs ws bs cs = Compared read OneOfThese tree exact once vs ws bs cs

  abbrev UpTo : Call L
  UpTo = DecodesUpTo read (RefusesElement read) elements

  up_to_once : IsRefusedOnce (errors_of UpTo)
  up_to_once old o e f new other ((vs, bs, here, (p, up), x, k), m) ((ws, cs, there, (q, on), y, l), n) = go (compare read OneOfThese tree exact once old o vs ws bs cs here there p q)
    where
      i : (here ≡ at old here.rest) × AreOctets here.rest
      i = run_end read OneOfThese tree exact once old here vs bs p o

      j : (there ≡ at old there.rest) × AreOctets there.rest
      j = run_end read OneOfThese tree exact once old there ws cs q o

      go : Run vs ws bs cs here there → IsSameError e f × (new ≡ other)
      go (same a b s) =
          component_once cs there j.1 e f new other
          (subst (λ z. FailsAtComponent (RefusesElement read) z there e new) b (subst (λ (z : State). FailsAtComponent (RefusesElement read) bs z e new) s k), m) (l, n)
      go (longer g) = absurd (component_stuck old here bs cs e new i.0 i.1 m on k g)
      go (shorter g) = absurd (component_stuck old there cs bs f other j.0 j.1 n up l g)

  pub up_to_unrefused : (old : State) → AreOctets old.rest → (fields : L) (e : DecodeError) (new other : State) → UpTo old (Ok fields) new → Refuses (errors_of UpTo) old e other → ⊥
  up_to_unrefused old o fields e new other (bs, (p, up), end) ((ws, cs, there, (q, on), y, l), m) = go (compare read OneOfThese tree exact once old o (elements fields) ws bs cs new there p q)
    where
      j : (there ≡ at old there.rest) × AreOctets there.rest
      j = run_end read OneOfThese tree exact once old there ws cs q o

      go : Run (elements fields) ws bs cs new there → ⊥
      go (same a b s) = y (subst (λ (z : State). Ended z.closing z.rest) s end)
      go (longer g) = g.more end
      go (shorter g) = component_stuck old there cs bs e other j.0 j.1 m up l g

  pub up_to_same : (old : State) → AreOctets old.rest → (fields others : L) (new other : State) → UpTo old (Ok fields) new → UpTo old (Ok others) other → (map tree (elements fields) ≡ map tree (elements others)) × (new ≡ other)
  up_to_same old o fields others new other (bs, (p, up), end) (cs, (q, on), done) = go (compare read OneOfThese tree exact once old o (elements fields) (elements others) bs cs new other p q)
    where
      go : Run (elements fields) (elements others) bs cs new other → (map tree (elements fields) ≡ map tree (elements others)) × (new ≡ other)
      go (same a b s) = (a, s)
      go (longer g) = absurd (g.more end)
      go (shorter g) = absurd (g.more done)

  -- What is made of components with the same readings fails as one error.
  pub up_to_made : {D : Type 0} (made : L → Result D DecodeError → Type 0)
      → ((fields others : L) → map tree (elements fields) ≡ map tree (elements others) → (e f : DecodeError) → Rejects made fields e → Rejects made others f → IsSameError e f)
      → (old : State) → AreOctets old.rest → (e f : DecodeError) (new other : State) → Refuses (errors_of (DecodesSetContents UpTo made)) old e new → Refuses (errors_of (DecodesSetContents UpTo made)) old f other → IsSameError e f × (new ≡ other)
  up_to_made made fails old o e f new other (inl a, m) (inl b, n) = up_to_once old o e f new other (a, m) (b, n)
  up_to_made made fails old o e f new other (inl a, m) (inr (others, b, y), n) = absurd (up_to_unrefused old o others e other new b (a, m))
  up_to_made made fails old o e f new other (inr (fields, a, x), m) (inl b, n) = absurd (up_to_unrefused old o fields f new other a (b, n))
  up_to_made made fails old o e f new other (inr (fields, a, x), m) (inr (others, b, y), n) = let p = up_to_same old o fields others new other a b in (fails fields others p.0 e f (x, m) (y, n), p.1)

-- ---- a SET of parts as types

module _ (extensible : Bool) (ps : Parts) (name : List ℕ) (errors : Tag → Errors) (apart : AreRefusedOnce extensible ps name errors) where
  abbrev One : Call Tree
  One = DecodesOneOf extensible ps name errors

  abbrev itself : Tree → Tree
  itself t = t

  one_exact : IsExactCall One (ReadsShape (choice_by extensible ps)) itself
  one_exact old o r new a = a.0

  one_fails : (old : State) (e : DecodeError) (new : State) → (IsOutOfMemory e.kind → ⊥) → One old (Err e) new → FailsAtNext extensible ps name errors old e new
  one_fails old e new m (d, (a, b)) = next_fails extensible ps name errors old e new (kept a) b
    where
      kept : (PeeksTag old (Err e) × (new ≡ old)) ⊎ ((tag : Tag) × NextTag (form old.rule) old.rest tag × FailsAtSetPart extensible ps name tag old e new)
          → (PeeksTag old (Err e) × (new ≡ old)) ⊎ ((tag : Tag) × NextTag (form old.rule) old.rest tag × FailsAtAlternativeBy extensible ps name tag old e new)
      kept (inl x) = inl x
      kept (inr (tag, n, inl x)) = inr (tag, n, x)
      kept (inr (tag, n, inr (x, (u, y, z)))) = absurd (m (ap (λ (w : DecodeError). w.kind) z))

  one_once : IsRefusedOnce (errors_of One)
  one_once old o e f new other (a, m) (b, n) = next_once extensible ps name errors apart old o e f new other (one_fails old e new m a, m) (one_fails old f other n b, n)

  module _ {D : Type 0} (tree : D → Tree) (names : List (List ℕ)) where
    named_once : IsRefusedOnce (errors_of (DecodesNamedContents extensible ps tree name names errors))
    named_once old o = up_to_made extensible ps One itself one_exact one_once (λ (l : List Tree). l) (MakesNamed extensible ps tree names old.rule) fails old o
      where
        fails : (fields others : List Tree) → map itself fields ≡ map itself others → (e f : DecodeError) → Rejects (MakesNamed extensible ps tree names old.rule) fields e → Rejects (MakesNamed extensible ps tree names old.rule) others f → IsSameError e f
        fails fields others p e f (x, m) (y, n) =
            let q : fields ≡ others = same_trees fields ∙ (p ∙ sym (same_trees others)) in
            made_once extensible ps tree names old.rule others e f m n (subst (λ z. MakesOfReadings {D = D} extensible ps tree names old.rule z (Err e)) q x.0) y.0

    pub set_apart : (tag : Tag) → AreApart (errors_of (DecodesNamedParts extensible ps tree name names errors tag)) (ReadsShape (set_by extensible tag ps))
    set_apart tag =
        let contents = DecodesNamedContents extensible ps tree name names errors in
        exactly_apart _ (ReadsShape (set_by extensible tag ps)) (λ old o e new a. set_exact extensible ps name errors tree names tag old o (Err e) new a)
        (inside_determined contents (exactly_determined contents (SortedSetReads extensible ps) tree (contents_exact extensible ps name errors tree names) named_once) (sequence_header tag)).once
