-- Times in a value are read from within what is seen of its octets.
use Rattle.std.proofs.Common.{◌≡◌, ◌≢◌, ◌++◌, ℕ, zero, suc, inl, inr, List, [], ◌∷◌, length, Option, Some, None, Result, Ok, Err, refl, sym, ap, ◌∙◌, subst, append_assoc}
use Rattle.std.proofs.lemmas.List.{append-nil}
use Rattle.std.specs.Prelude.{slice_get, IfOk}
use Rattle.rasn_types.specs.declared.error.decode.DecodeError.{DecodeError}
use Rattle.rasn_types.specs.declared.types.tag.Tag.{Tag}
use Rattle.rasn_types.specs.Framing.{AreOctets}
use Rattle.rasn_types.specs.Shapes.{Tree, Shape}
use Rattle.rasn_de.specs.State.{State}
use Rattle.rasn_de.specs.declared.ber.de.parser.Contents.{Contents}
use Rattle.rasn_de.specs.declared.ber.de.constructed.ConstructedHeader.{ConstructedHeader}
use Rattle.rasn_de.specs.Constructed.{ConsumesOpening, Keeps}
use Rattle.rasn_de.specs.Decodes.{Decodes}
use Rattle.rasn_de.specs.SequenceOf.{DecodesInTurn}
use Rattle.rasn_de.proofs.Constructed.Opening.{kept}
use Rattle.rasn_de.proofs.OwnTypes.Parts.{call_keeps, keeps_then}
use Rattle.rasn_schema.specs.declared.types.Component.{Component}
use Rattle.rasn_schema.specs.declared.types.«Type».{«Type»}
use Rattle.rasn_schema.specs.declared.types.«Type».TheVariants.{Leaf, Enumerated, Any, Tagged, Choice, Sequence, Set, SequenceOf, SetOf, Unknown}
use Rattle.rasn_schema.specs.declared.value.Value.{Value, Boolean, Null, Integer, Bits, Octets, Text, Units, Arcs, Instant, Day, Absent, Items', Elements', Chosen'}
use Rattle.rasn_schema.specs.declared.types.LeafKind.{LeafKind}
use Rattle.rasn_schema.specs.Fitting.{FitsLeaf, Fits, FitsBy, FitsFound, AreItems, AreElements, AlternativeFits, ComponentFits, ComponentsFit, EachFits}
use Rattle.rasn_dynamic.specs.Faults.{ComponentsInTurn}
use Rattle.rasn_dynamic.specs.Times.{KeepsOffset, Covers, KeepsOffsetIn, FitsFromFound, FitsFrom}
use Rattle.rasn_dynamic.proofs.Faults.{append_three, within_itself, opened_within, turns_keep}
use Rattle.rasn_dynamic.proofs.Making.{chosen_as}

-- ---- what a state covers

pub covers_itself : (s : State) → Covers s s
covers_itself s = (refl, length s.rest, within_itself s.rest)

pub covers_within : (s mid here : State) → Covers s mid → Covers mid here → Covers s here
covers_within s mid here (r, n, (front, back, e, l)) (q, m, (f, b, g, k)) = (
  q ∙ r,
  length (here.rest ++ (b ++ back)),
  (
    front ++ f,
    b ++ back,
    e ∙ ap (λ l. front ++ l) (ap (λ l. l ++ back) g ∙ append_assoc f (here.rest ++ b) back ∙ ap (λ l. f ++ l) (append_assoc here.rest b back)) ∙ append_three front f here.rest (b ++ back),
    refl,
  ),
)

covers_kept : (old new : State) → Keeps old new → Covers old new
covers_kept old new k = (ap (λ (z : State). z.rule) k.stays, length (new.rest ++ []), (k.end.0, [], k.end.1 ∙ ap (λ l. k.end.0 ++ l) (sym (append-nil new.rest)), refl))

-- What follows is covered.
pub covers_after : (s old new : State) → Covers s old → Keeps old new → Covers s new
covers_after s old new c k = covers_within s old new c (covers_kept old new k)

-- So is what is inside.
pub covers_inside : (d : ConstructedHeader) (old : State) → (old.depth ≢ 0 → AreOctets old.rest) → (p : State) (c : Contents) (mid : State) → ConsumesOpening d old (Ok (p, c)) mid → (s : State) → Covers s old → Covers s p
covers_inside d old o p c mid w s v = covers_within s old p v (ap (λ (z : State). z.rule) w.2, _, opened_within [] d old o p c mid w p.rest (length p.rest) (within_itself p.rest))

-- So are the elements and the components that follow others.
pub covers_turns : {D : Type 0} (f : Shape) (tree : D → Tree) (s old here : State) (vs : List D) → Covers s old → DecodesInTurn (Decodes f tree) old vs here → Covers s here
covers_turns f tree s old here vs c p = let k = turns_keep f tree old vs here p in covers_after s old here c (record { stays = k.0; end = k.1 })

pub covers_components : (f : ℕ → Shape) (ps : List Component) (s old here : State) → Covers s old → ComponentsInTurn f ps old here → Covers s here
covers_components f [] s old here c e = subst (Covers s) (sym e) c
covers_components f (p ∷ ps) s old here c (t, next, d, h) = covers_components f ps s next here (covers_after s old next c (call_keeps d)) h

-- ---- a value that holds no others

pub leaf_times : (s : State) (kind : LeafKind) (tag : Tag) (old new : State) (r : Result Value DecodeError) → Covers s old → IfOk r (FitsLeaf kind) → IfOk r (λ v. KeepsOffset kind tag old v new) → IfOk r (λ v. FitsLeaf kind v × KeepsOffsetIn s kind tag v)
leaf_times s kind tag old new (Ok v) c f k = (f, (old, new, c, k))
leaf_times s kind tag old new (Err e) c f k = tt

-- ---- a value with its times is one of its type

items_as : (P Q : List Value → Type 0) → ((vs : List Value) → P vs → Q vs) → (v : Value) → AreItems P v → AreItems Q v
items_as P Q f (Items' _ row) h = f _ h
items_as P Q f (Boolean b) h = absurd h
items_as P Q f Null h = absurd h
items_as P Q f (Integer n) h = absurd h
items_as P Q f (Bits b) h = absurd h
items_as P Q f (Octets o) h = absurd h
items_as P Q f (Text s) h = absurd h
items_as P Q f (Units u) h = absurd h
items_as P Q f (Arcs a) h = absurd h
items_as P Q f (Instant i) h = absurd h
items_as P Q f (Day d) h = absurd h
items_as P Q f (Elements' _ row) h = absurd h
items_as P Q f (Chosen' i _ w) h = absurd h
items_as P Q f Absent h = absurd h

elements_as : (P Q : List Value → Type 0) → ((vs : List Value) → P vs → Q vs) → (v : Value) → AreElements P v → AreElements Q v
elements_as P Q f (Elements' _ row) h = f _ h
elements_as P Q f (Boolean b) h = absurd h
elements_as P Q f Null h = absurd h
elements_as P Q f (Integer n) h = absurd h
elements_as P Q f (Bits b) h = absurd h
elements_as P Q f (Octets o) h = absurd h
elements_as P Q f (Text s) h = absurd h
elements_as P Q f (Units u) h = absurd h
elements_as P Q f (Arcs a) h = absurd h
elements_as P Q f (Instant i) h = absurd h
elements_as P Q f (Day d) h = absurd h
elements_as P Q f (Items' _ row) h = absurd h
elements_as P Q f (Chosen' i _ w) h = absurd h
elements_as P Q f Absent h = absurd h

each_as : (P Q : Value → Type 0) → ((v : Value) → P v → Q v) → (vs : List Value) → EachFits P vs → EachFits Q vs
each_as P Q f [] h = tt
each_as P Q f (v ∷ vs) h = (f v h.0, each_as P Q f vs h.1)

module _ (g h : ℕ → Value → Type 0) (m : (k : ℕ) (v : Value) → g k v → h k v) where
  component_as : (p : Component) (v : Value) → ComponentFits g p v → ComponentFits h p v
  component_as p v (inl o) = inl o
  component_as p v (inr f) = inr (m p.type_id.0 v f)

  components_as : (ps : List Component) (vs : List Value) → ComponentsFit g ps vs → ComponentsFit h ps vs
  components_as [] [] f = tt
  components_as [] (v ∷ vs) f = absurd f
  components_as (p ∷ ps) [] f = absurd f
  components_as (p ∷ ps) (v ∷ vs) f = (component_as p v f.0, components_as ps vs f.1)

  fits_as : (ty : «Type») (v : Value) → FitsBy g ty v → FitsBy h ty v
  fits_as (Leaf kind tag c names) v f = f
  fits_as (Enumerated tag ns) v f = f
  fits_as (Any tag) v f = f
  fits_as (Tagged tag k) v f = m k.0 v f
  fits_as (Choice name ks) v f = chosen_as (AlternativeFits g ks.items) (AlternativeFits h ks.items) (λ i w a. (a.0, a.1, m a.0.type_id.0 w a.2)) v f
  fits_as (Sequence tag ps) v f = items_as (ComponentsFit g ps.items) (ComponentsFit h ps.items) (components_as ps.items) v f
  fits_as (Set name tag ps) v f = items_as (ComponentsFit g ps.items) (ComponentsFit h ps.items) (components_as ps.items) v f
  fits_as (SequenceOf tag k c) v f = items_as (EachFits (g k.0)) (EachFits (h k.0)) (each_as (g k.0) (h k.0) (m k.0)) v f
  fits_as (SetOf tag k c) v f = elements_as (EachFits (g k.0)) (EachFits (h k.0)) (each_as (g k.0) (h k.0) (m k.0)) v f
  fits_as Unknown v f = f

found_fits : (s : State) (types : List «Type») (n : ℕ) (m : (j : ℕ) (w : Value) → FitsFrom s types n j w → Fits types n j w) (v : Value) (o : Option «Type»)
    → FitsFromFound s (λ j w. FitsFrom s types n j w) o v → FitsFound (λ j w. Fits types n j w) o v
found_fits s types n m v None f = absurd f
found_fits s types n m v (Some (Leaf kind tag c names)) f = f.0
found_fits s types n m v (Some (Enumerated tag ns)) f = f
found_fits s types n m v (Some (Any tag)) f = f
found_fits s types n m v (Some (Tagged tag i)) f = fits_as (λ j w. FitsFrom s types n j w) (λ j w. Fits types n j w) m (Tagged tag i) v f
found_fits s types n m v (Some (Choice name ks)) f = fits_as (λ j w. FitsFrom s types n j w) (λ j w. Fits types n j w) m (Choice name ks) v f
found_fits s types n m v (Some (Sequence tag ps)) f = fits_as (λ j w. FitsFrom s types n j w) (λ j w. Fits types n j w) m (Sequence tag ps) v f
found_fits s types n m v (Some (Set name tag ps)) f = fits_as (λ j w. FitsFrom s types n j w) (λ j w. Fits types n j w) m (Set name tag ps) v f
found_fits s types n m v (Some (SequenceOf tag i c)) f = fits_as (λ j w. FitsFrom s types n j w) (λ j w. Fits types n j w) m (SequenceOf tag i c) v f
found_fits s types n m v (Some (SetOf tag i c)) f = fits_as (λ j w. FitsFrom s types n j w) (λ j w. Fits types n j w) m (SetOf tag i c) v f
found_fits s types n m v (Some Unknown) f = f

pub from_fits : (s : State) (types : List «Type») (n k : ℕ) (v : Value) → FitsFrom s types n k v → Fits types n k v
unfolding FitsFrom Fits
from_fits s types zero k v f = absurd f
from_fits s types (suc n) k v f = found_fits s types n (from_fits s types n) v (slice_get types k) f
