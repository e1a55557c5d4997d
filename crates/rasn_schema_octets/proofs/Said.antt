-- What a type is that says this.
use Rattle.std.proofs.Common.{◌≡◌, ◌⊎◌, inl, inr, List, [], ◌∷◌, map, refl, sym, ap, ◌∙◌, subst, arith}
use Rattle.rasn_types.specs.Shapes.{Tree, joined, items, chosen, absent}
use Rattle.rasn_schema.specs.declared.types.NamedNumber.{NamedNumber}
use Rattle.rasn_schema.specs.declared.types.Alternative.{Alternative}
use Rattle.rasn_schema.specs.declared.types.Component.{Component}
use Rattle.rasn_schema.specs.declared.types.Presence.{Presence}
use Rattle.rasn_schema.specs.declared.types.Presence.TheVariants.{Required, Optional, Addition, Default}
use Rattle.rasn_schema.specs.declared.value.Value.{Value}
use Rattle.rasn_schema.specs.declared.types.«Type».{«Type»}
use Rattle.rasn_schema.specs.declared.types.«Type».TheVariants.{Leaf, Enumerated, Any, Tagged, Choice, Sequence, Set, SequenceOf, SetOf, Unknown}
use Rattle.rasn_schema_octets.specs.Defaults.{nodes_of}
use Rattle.rasn_schema_octets.specs.Nodes.{node_trees, IsWhole}
use Rattle.rasn_schema_octets.specs.declared.node.NodeForm.{NodeForm}
use Rattle.rasn_schema_octets.specs.Shallow.{Every, IsShallowPresence, IsShallowComponent, IsShallowType}
use Rattle.rasn_schema_octets.specs.Trees.{number_tree, alternative_tree, component_tree, presence_tree, type_tree}
use Rattle.rasn_schema_octets.proofs.Nodes.{index}

abbrev pub inside : Tree → Tree
inside (chosen k t) = t
inside _ = absent

abbrev pub first : Tree → Tree
first (joined t ts) = t
first _ = absent

abbrev pub others : Tree → Tree
others (joined t ts) = ts
others _ = absent

pub same_list : (l m : List Tree) → items l ≡ items m → l ≡ m
same_list [] [] e = refl
same_list [] (u ∷ m) e = absurd cc
same_list (t ∷ l) [] e = absurd cc
same_list (t ∷ l) (u ∷ m) e = ap (λ x. x ∷ l) (ap first e) ∙ ap (λ k. u ∷ k) (same_list l m (ap others e))

pub every_one : {T : Type 0} (xs : List T) → Every (λ x. Unit {0}) xs
every_one [] = tt
every_one (x ∷ xs) = (tt, every_one xs)

leaf_said : (ty : «Type») (x y z : Tree) (ts : List Tree) → type_tree ty ≡ chosen 0 (items (x ∷ y ∷ z ∷ items ts ∷ [])) → (xs : List NamedNumber) × (map number_tree xs ≡ ts)
leaf_said (Leaf kind tag c names) x y z ts e = (names.items, same_list (map number_tree names.items) ts (ap (λ t. first (others (others (others (inside t))))) e))
leaf_said (Enumerated tag ns) x y z ts e = let n = ap index e in absurd (omega (arith, n))
leaf_said (Any tag) x y z ts e = let n = ap index e in absurd (omega (arith, n))
leaf_said (Tagged tag inner) x y z ts e = let n = ap index e in absurd (omega (arith, n))
leaf_said (Choice name ks) x y z ts e = let n = ap index e in absurd (omega (arith, n))
leaf_said (Sequence tag ps) x y z ts e = let n = ap index e in absurd (omega (arith, n))
leaf_said (Set name tag ps) x y z ts e = let n = ap index e in absurd (omega (arith, n))
leaf_said (SequenceOf tag element c) x y z ts e = let n = ap index e in absurd (omega (arith, n))
leaf_said (SetOf tag element c) x y z ts e = let n = ap index e in absurd (omega (arith, n))
leaf_said Unknown x y z ts e = let n = ap index e in absurd (omega (arith, n))

enumerated_said : (ty : «Type») (x : Tree) (ts : List Tree) → type_tree ty ≡ chosen 1 (items (x ∷ items ts ∷ [])) → (xs : List NamedNumber) × (map number_tree xs ≡ ts)
enumerated_said (Leaf kind tag c names) x ts e = let n = ap index e in absurd (omega (arith, n))
enumerated_said (Enumerated tag ns) x ts e = (ns.items, same_list (map number_tree ns.items) ts (ap (λ t. first (others (inside t))) e))
enumerated_said (Any tag) x ts e = let n = ap index e in absurd (omega (arith, n))
enumerated_said (Tagged tag inner) x ts e = let n = ap index e in absurd (omega (arith, n))
enumerated_said (Choice name ks) x ts e = let n = ap index e in absurd (omega (arith, n))
enumerated_said (Sequence tag ps) x ts e = let n = ap index e in absurd (omega (arith, n))
enumerated_said (Set name tag ps) x ts e = let n = ap index e in absurd (omega (arith, n))
enumerated_said (SequenceOf tag element c) x ts e = let n = ap index e in absurd (omega (arith, n))
enumerated_said (SetOf tag element c) x ts e = let n = ap index e in absurd (omega (arith, n))
enumerated_said Unknown x ts e = let n = ap index e in absurd (omega (arith, n))

choice_said : (ty : «Type») (x : Tree) (ts : List Tree) → type_tree ty ≡ chosen 4 (items (x ∷ items ts ∷ [])) → (xs : List Alternative) × (map alternative_tree xs ≡ ts)
choice_said (Leaf kind tag c names) x ts e = let n = ap index e in absurd (omega (arith, n))
choice_said (Enumerated tag ns) x ts e = let n = ap index e in absurd (omega (arith, n))
choice_said (Any tag) x ts e = let n = ap index e in absurd (omega (arith, n))
choice_said (Tagged tag inner) x ts e = let n = ap index e in absurd (omega (arith, n))
choice_said (Choice name ks) x ts e = (ks.items, same_list (map alternative_tree ks.items) ts (ap (λ t. first (others (inside t))) e))
choice_said (Sequence tag ps) x ts e = let n = ap index e in absurd (omega (arith, n))
choice_said (Set name tag ps) x ts e = let n = ap index e in absurd (omega (arith, n))
choice_said (SequenceOf tag element c) x ts e = let n = ap index e in absurd (omega (arith, n))
choice_said (SetOf tag element c) x ts e = let n = ap index e in absurd (omega (arith, n))
choice_said Unknown x ts e = let n = ap index e in absurd (omega (arith, n))

sequence_said : (ty : «Type») (x : Tree) (ts : List Tree) → type_tree ty ≡ chosen 5 (items (x ∷ items ts ∷ [])) → IsShallowType ty → (xs : List Component) × (map component_tree xs ≡ ts) × Every IsShallowComponent xs
sequence_said (Leaf kind tag c names) x ts e h = let n = ap index e in absurd (omega (arith, n))
sequence_said (Enumerated tag ns) x ts e h = let n = ap index e in absurd (omega (arith, n))
sequence_said (Any tag) x ts e h = let n = ap index e in absurd (omega (arith, n))
sequence_said (Tagged tag inner) x ts e h = let n = ap index e in absurd (omega (arith, n))
sequence_said (Choice name ks) x ts e h = let n = ap index e in absurd (omega (arith, n))
sequence_said (Sequence tag ps) x ts e h = (ps.items, same_list (map component_tree ps.items) ts (ap (λ t. first (others (inside t))) e), h)
sequence_said (Set name tag ps) x ts e h = let n = ap index e in absurd (omega (arith, n))
sequence_said (SequenceOf tag element c) x ts e h = let n = ap index e in absurd (omega (arith, n))
sequence_said (SetOf tag element c) x ts e h = let n = ap index e in absurd (omega (arith, n))
sequence_said Unknown x ts e h = let n = ap index e in absurd (omega (arith, n))

set_said : (ty : «Type») (x y : Tree) (ts : List Tree) → type_tree ty ≡ chosen 6 (items (x ∷ y ∷ items ts ∷ [])) → IsShallowType ty → (xs : List Component) × (map component_tree xs ≡ ts) × Every IsShallowComponent xs
set_said (Leaf kind tag c names) x y ts e h = let n = ap index e in absurd (omega (arith, n))
set_said (Enumerated tag ns) x y ts e h = let n = ap index e in absurd (omega (arith, n))
set_said (Any tag) x y ts e h = let n = ap index e in absurd (omega (arith, n))
set_said (Tagged tag inner) x y ts e h = let n = ap index e in absurd (omega (arith, n))
set_said (Choice name ks) x y ts e h = let n = ap index e in absurd (omega (arith, n))
set_said (Sequence tag ps) x y ts e h = let n = ap index e in absurd (omega (arith, n))
set_said (Set name tag ps) x y ts e h = (ps.items, same_list (map component_tree ps.items) ts (ap (λ t. first (others (others (inside t)))) e), h)
set_said (SequenceOf tag element c) x y ts e h = let n = ap index e in absurd (omega (arith, n))
set_said (SetOf tag element c) x y ts e h = let n = ap index e in absurd (omega (arith, n))
set_said Unknown x y ts e h = let n = ap index e in absurd (omega (arith, n))

-- ---- what is refused

abbrev pub NoneAre : {T : Type 0} → (T → Tree) → (T → Type 0) → List Tree → Type 0
NoneAre {T} says P ts = (xs : List T) → Every P xs → map says xs ≡ ts → ⊥

abbrev pub NoneIs : {T : Type 0} → (T → Tree) → (T → Type 0) → Tree → Type 0
NoneIs {T} says P t = (x : T) → P x → says x ≡ t → ⊥

pub leaf_refused : {M : Type 0} (x y z : Tree) (ts : List Tree) → M ⊎ NoneAre number_tree (λ n. Unit {0}) ts → M ⊎ NoneIs type_tree IsShallowType (chosen 0 (items (x ∷ y ∷ z ∷ items ts ∷ [])))
leaf_refused x y z ts (inl m) = inl m
leaf_refused x y z ts (inr f) = inr (λ ty h e. let s = leaf_said ty x y z ts e in f s.0 (every_one s.0) s.1)

pub enumerated_refused : {M : Type 0} (x : Tree) (ts : List Tree) → M ⊎ NoneAre number_tree (λ n. Unit {0}) ts → M ⊎ NoneIs type_tree IsShallowType (chosen 1 (items (x ∷ items ts ∷ [])))
enumerated_refused x ts (inl m) = inl m
enumerated_refused x ts (inr f) = inr (λ ty h e. let s = enumerated_said ty x ts e in f s.0 (every_one s.0) s.1)

pub choice_refused : {M : Type 0} (x : Tree) (ts : List Tree) → M ⊎ NoneAre alternative_tree (λ n. Unit {0}) ts → M ⊎ NoneIs type_tree IsShallowType (chosen 4 (items (x ∷ items ts ∷ [])))
choice_refused x ts (inl m) = inl m
choice_refused x ts (inr f) = inr (λ ty h e. let s = choice_said ty x ts e in f s.0 (every_one s.0) s.1)

pub sequence_refused : {M : Type 0} (x : Tree) (ts : List Tree) → M ⊎ NoneAre component_tree IsShallowComponent ts → M ⊎ NoneIs type_tree IsShallowType (chosen 5 (items (x ∷ items ts ∷ [])))
sequence_refused x ts (inl m) = inl m
sequence_refused x ts (inr f) = inr (λ ty h e. let s = sequence_said ty x ts e h in f s.0 s.2 s.1)

pub set_refused : {M : Type 0} (x y : Tree) (ts : List Tree) → M ⊎ NoneAre component_tree IsShallowComponent ts → M ⊎ NoneIs type_tree IsShallowType (chosen 6 (items (x ∷ y ∷ items ts ∷ [])))
set_refused x y ts (inl m) = inl m
set_refused x y ts (inr f) = inr (λ ty h e. let s = set_said ty x y ts e h in f s.0 s.2 s.1)

default_said : (p : Presence) (ts : List Tree) → presence_tree p ≡ chosen 3 (items ts) → IsShallowPresence p → (v : Value) × IsWhole ts 32 v
default_said Required ts e h = let n = ap index e in absurd (omega (arith, n))
default_said Optional ts e h = let n = ap index e in absurd (omega (arith, n))
default_said Addition ts e h = let n = ap index e in absurd (omega (arith, n))
default_said (Default v) ts e h = (v, record { is = sym (same_list (nodes_of v) ts (ap inside e)); within = h })

pub nodes_refused : {M : Type 0} (nodes read : List NodeForm) → read ≡ nodes → M ⊎ ((v : Value) → IsWhole (node_trees read) 32 v → ⊥) → M ⊎ NoneIs presence_tree IsShallowPresence (chosen 3 (items (node_trees nodes)))
nodes_refused nodes read e (inl m) = inl m
nodes_refused nodes read e (inr f) = inr (λ p h k. let s = default_said p (node_trees nodes) k h in f s.0 (subst (λ l. IsWhole (node_trees l) 32 s.0) (sym e) s.1))
