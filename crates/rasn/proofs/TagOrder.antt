-- Components that are read in the order of their tags.
use Rattle.std.proofs.Common.{◌≡◌, ℕ, suc, ◌<◌, inl, inr, List, [], ◌∷◌, ◌++◌, sym, ap, ◌∙◌, subst, arith}
use Rattle.rasn_types.specs.Tags.{IsTagBelow}
use Rattle.rasn_types.specs.declared.types.tag.Tag.{Tag}
use Rattle.rasn_types.specs.Framing.{Begins, SpellsAnyIdentifier}
use Rattle.rasn_types.specs.Order.{Each, AreAscending, IsBeforeAll, AreInOrder}
use Rattle.rasn_types.specs.Shapes.{Tree, numbers}
use Rattle.rasn_types.specs.Contents.{joined_lists}
use Rattle.rasn_types.specs.Readings.{AreInTagOrder}
use Rattle.rasn_types.specs.Bytes.{Component, UnknownComponents, ComesBefore, contents_of}
use Rattle.rasn_types.proofs.Headers.Frames.{begins_one}
use Rattle.rasn_types.proofs.InOrder.{below_or_same, below_trans}

-- The other tag isn't below this one.
abbrev pub IsNotAbove : Tag → Tag → Type 0
IsNotAbove s t = IsTagBelow t s → ⊥

not_above_trans : (s t u : Tag) → IsNotAbove s t → IsNotAbove t u → IsNotAbove s u
not_above_trans s t u h k l = elim (below_or_same t u) [
  | inl m ↦ h (below_trans t u s m l)
  | inr (inl m) ↦ k m
  | inr (inr e) ↦ h (subst (λ x. IsTagBelow x s) (sym e) l)
]

before_more : (s t : Tag) (ts : List Tag) → IsNotAbove s t → IsBeforeAll IsNotAbove t ts → IsBeforeAll IsNotAbove s ts
before_more s t [] h k = tt
before_more s t (u ∷ ts) h k = (not_above_trans s t u h k.0, before_more s t ts h k.1)

pub ascending_all : (ts : List Tag) → AreAscending IsTagBelow ts → AreInOrder IsNotAbove ts
ascending_all [] h = tt
ascending_all (t ∷ []) h = (tt, tt)
ascending_all (t ∷ u ∷ ts) h = let r = ascending_all (u ∷ ts) h.1 in ((h.0, before_more t u ts h.0 r.0), r)

pub all_ascending : (ts : List Tag) → AreInOrder IsNotAbove ts → AreAscending IsTagBelow ts
all_ascending [] h = tt
all_ascending (t ∷ []) h = tt
all_ascending (t ∷ u ∷ ts) h = (h.0.0, all_ascending (u ∷ ts) h.1)

-- The component has these octets, and begins with its tag.
abbrev pub IsComponentIn : List ℕ → Component → Type 0
IsComponentIn o c = (o ≡ c.octets) × Begins o c.tag

abbrev pub IsNotComponentAbove : Component → Component → Type 0
IsNotComponentAbove c d = IsNotAbove c.tag d.tag

same_tags : (os : List (List ℕ)) (tags : List Tag) (es : List Component) (s : Tag) (c : Component) → s ≡ c.tag → Each Begins os tags → Each IsComponentIn os es
    → IsBeforeAll IsNotAbove s tags → IsBeforeAll IsNotComponentAbove c es
same_tags [] tags es s c e b h n = subst (IsBeforeAll IsNotComponentAbove c) (sym h) tt
same_tags (o ∷ os) tags es s c e (t, ts, f, b, bs) (d, ds, g, i, h) n =
    let z : IsBeforeAll IsNotAbove s (t ∷ ts) = subst (IsBeforeAll IsNotAbove s) f n in
    let q : t ≡ d.tag = begins_one o t d.tag b i.1 in
    subst (IsBeforeAll IsNotComponentAbove c) (sym g)
    ((λ l. z.0 (subst (λ x. IsTagBelow x s) (sym q) (subst (IsTagBelow d.tag) (sym e) l))), same_tags os ts ds s c e bs h z.1)

components_in_order : (os : List (List ℕ)) (tags : List Tag) (es : List Component) → Each Begins os tags → Each IsComponentIn os es → AreInOrder IsNotAbove tags → AreInOrder IsNotComponentAbove es
components_in_order [] tags es b h n = subst (AreInOrder IsNotComponentAbove) (sym h) tt
components_in_order (o ∷ os) tags es (t, ts, f, b, bs) (c, cs, g, i, h) n =
    let z : AreInOrder IsNotAbove (t ∷ ts) = subst (AreInOrder IsNotAbove) f n in
    subst (AreInOrder IsNotComponentAbove) (sym g) (same_tags os ts cs t c (begins_one o t c.tag b i.1) bs h z.0, components_in_order os ts cs bs h z.1)

pub none_above : (os : List (List ℕ)) (es : List Component) → AreInTagOrder os → Each IsComponentIn os es → AreInOrder IsNotComponentAbove es
none_above os es (tags, b, d) h = components_in_order os tags es b h (ascending_all tags d)

-- If the two have the same tag, the first has the lower number.
abbrev pub InTurn : Component → Component → Type 0
InTurn c d = c.tag ≡ d.tag → c.number < d.number

below_before : (c : Component) (cs : List Component) → IsBeforeAll InTurn c cs → IsBeforeAll IsNotComponentAbove c cs → IsBeforeAll ComesBefore c cs
below_before c [] h k = tt
below_before c (d ∷ cs) h k = (
  elim (below_or_same c.tag d.tag) [
    | inl l ↦ inl l
    | inr (inl l) ↦ absurd (k.0 l)
    | inr (inr e) ↦ inr (e, h.0 e)
  ],
  below_before c cs h.1 k.1,
)

pub all_before : (cs : List Component) → AreInOrder InTurn cs → AreInOrder IsNotComponentAbove cs → AreInOrder ComesBefore cs
all_before [] h k = tt
all_before (c ∷ cs) h k = (below_before c cs h.0 k.0, all_before cs h.1 k.1)

pub joined_contents : (os : List (List ℕ)) (es : List Component) → Each IsComponentIn os es → joined_lists os ≡ contents_of es
joined_contents [] es h = ap contents_of (sym h)
joined_contents (o ∷ os) es (c, cs, g, i, h) = ap (λ l. l ++ joined_lists os) i.0 ∙ (ap (λ l. c.octets ++ l) (joined_contents os cs h) ∙ ap contents_of (sym g))

pub begins_some : (m : Tag) → Begins [] m → ⊥
begins_some m h = go h.id h.spells h.is
  where
    go : (id : List ℕ) → SpellsAnyIdentifier id m h.bit → [] ≡ id ++ h.more → ⊥
    go [] s e = s
    go (x ∷ l) s e = cc

-- ---- unknown values

unknown_later : (k : ℕ) (us : List Tree) (es : List Component) → UnknownComponents k us es → (c : Component) → c.number < k → IsBeforeAll InTurn c es
unknown_later k [] es h c l = subst (IsBeforeAll InTurn c) (sym h) tt
unknown_later k (u ∷ us) es (tag, b, more, e, begins, f, h) c l = subst (IsBeforeAll InTurn c) (sym f) ((λ s. l), unknown_later (suc k) us more h c (omega (arith, l)))

pub unknown_in_turn : (k : ℕ) (us : List Tree) (es : List Component) → UnknownComponents k us es → AreInOrder InTurn es
unknown_in_turn k [] es h = subst (AreInOrder InTurn) (sym h) tt
unknown_in_turn k (u ∷ us) es (tag, b, more, e, begins, f, h) =
    subst (AreInOrder InTurn) (sym f) (unknown_later (suc k) us more h (record { tag = tag; number = k; octets = b }) (omega arith), unknown_in_turn (suc k) us more h)

unknown_components_in : (k : ℕ) (us : List Tree) (es : List Component) (bs : List (List ℕ)) → UnknownComponents k us es → Each (λ u b. u ≡ numbers b) us bs → Each IsComponentIn bs es
unknown_components_in k [] es bs h i = subst (λ l. Each IsComponentIn l es) (sym i) h
unknown_components_in k (u ∷ us) es bs (tag, b, more, e, begins, f, h) (a, rest, g, i, hs) =
    let x : numbers b ≡ numbers a = sym e ∙ i in
    let p : b ≡ a = cc in
    subst (λ l. Each IsComponentIn l es) (sym g)
    (record { tag = tag; number = k; octets = b }, more, f, (sym p, subst (λ l. Begins l tag) p begins), unknown_components_in (suc k) us more rest h hs)

-- Unknown values whose tags don't fall come one before the other.
pub unknown_in_order : (k : ℕ) (us : List Tree) (es : List Component) (bs : List (List ℕ)) → UnknownComponents k us es → Each (λ u b. u ≡ numbers b) us bs → AreInTagOrder bs → AreInOrder ComesBefore es
unknown_in_order k us es bs h i order = all_before es (unknown_in_turn k us es h) (none_above bs es order (unknown_components_in k us es bs h i))
