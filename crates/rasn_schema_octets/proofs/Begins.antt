-- The nodes of a value that holds others, as they are read.
use Rattle.std.proofs.Common.{◌≡◌, ◌⊎◌, inl, inr, ℕ, ◌+◌, ◌-◌, ◌<◌, pos, List, [], ◌∷◌, ◌++◌, length, Vec, Global, refl, sym, ap, ◌∙◌, subst, arith, append_assoc, append-nil, Bool, false, true≢false}
use Rattle.std.specs.Bool.{◌==◌}
use Rattle.rasn_types.specs.Shapes.{Tree, number, chosen}
use Rattle.rasn_schema.specs.declared.value.Value.{Value, Boolean, Null, Integer, Bits, Octets, Text, Units, Arcs, Instant, Day, Absent, Items, Items', Elements, Elements', Chosen', items-the_row-Value}
use Rattle.rasn_schema_octets.specs.Defaults.{nodes_of, all_nodes, IsWithinDepth}
use Rattle.rasn_schema_octets.specs.declared.node.NodeForm.{NodeForm}
use Rattle.rasn_schema_octets.specs.declared.value.Parted.{Parted}
use Rattle.rasn_schema_octets.specs.declared.value.Parted.TheVariants.{Items as PartedItems, Elements as PartedElements}
use Rattle.rasn_schema_octets.specs.Nodes.{node_trees, IsParted, BeginsWith, BeginsWithAll, IsWhole}
use Rattle.rasn_schema_octets.specs.Shallow.{Every}
use Rattle.rasn_schema_octets.proofs.Nodes.{index, one_rest, nodes_listed, depth_listed, items_nodes, elements_nodes, items_within, elements_within}

abbrev head_index : List Tree → ℕ
head_index [] = 99
head_index (t ∷ l) = index t

abbrev head_amount : List Tree → ℕ
head_amount [] = 0
head_amount (chosen k (number (pos n)) ∷ l) = n
head_amount (t ∷ l) = 0

abbrev tail : List Tree → List Tree
tail [] = []
tail (t ∷ l) = l

-- A node of a list is the first of such a value.
items_begin : (v : Value) (n count : ℕ) (rest left : List Tree) → chosen 10 (number (pos count)) ∷ rest ≡ nodes_of v ++ left → IsWithinDepth v n → (vs : List Value) × BeginsWithAll rest n count vs left
items_begin (Boolean b) n count rest left e h = let i = ap head_index e in absurd (omega (arith, i))
items_begin Null n count rest left e h = let i = ap head_index e in absurd (omega (arith, i))
items_begin (Integer z) n count rest left e h = let i = ap head_index e in absurd (omega (arith, i))
items_begin (Bits b) n count rest left e h = let i = ap head_index e in absurd (omega (arith, i))
items_begin (Octets o) n count rest left e h = let i = ap head_index e in absurd (omega (arith, i))
items_begin (Text s) n count rest left e h = let i = ap head_index e in absurd (omega (arith, i))
items_begin (Units u) n count rest left e h = let i = ap head_index e in absurd (omega (arith, i))
items_begin (Arcs a) n count rest left e h = let i = ap head_index e in absurd (omega (arith, i))
items_begin (Instant t) n count rest left e h = let i = ap head_index e in absurd (omega (arith, i))
items_begin (Day d) n count rest left e h = let i = ap head_index e in absurd (omega (arith, i))
items_begin (Items' _ row) n count rest left e h = (
  items-the_row-Value _ row,
  record {
    deep = h.0;
    many = sym (ap head_amount e);
    is = ap tail e ∙ ap (λ l. l ++ left) (nodes_listed _ row);
    within = depth_listed _ row (n - 1) h.1;
  },
)
items_begin (Elements' _ row) n count rest left e h = let i = ap head_index e in absurd (omega (arith, i))
items_begin (Chosen' j _ w) n count rest left e h = let i = ap head_index e in absurd (omega (arith, i))
items_begin Absent n count rest left e h = let i = ap head_index e in absurd (omega (arith, i))

-- A node of a SET OF is the first of such a value.
elements_begin : (v : Value) (n count : ℕ) (rest left : List Tree) → chosen 11 (number (pos count)) ∷ rest ≡ nodes_of v ++ left → IsWithinDepth v n → (vs : List Value) × BeginsWithAll rest n count vs left
elements_begin (Boolean b) n count rest left e h = let i = ap head_index e in absurd (omega (arith, i))
elements_begin Null n count rest left e h = let i = ap head_index e in absurd (omega (arith, i))
elements_begin (Integer z) n count rest left e h = let i = ap head_index e in absurd (omega (arith, i))
elements_begin (Bits b) n count rest left e h = let i = ap head_index e in absurd (omega (arith, i))
elements_begin (Octets o) n count rest left e h = let i = ap head_index e in absurd (omega (arith, i))
elements_begin (Text s) n count rest left e h = let i = ap head_index e in absurd (omega (arith, i))
elements_begin (Units u) n count rest left e h = let i = ap head_index e in absurd (omega (arith, i))
elements_begin (Arcs a) n count rest left e h = let i = ap head_index e in absurd (omega (arith, i))
elements_begin (Instant t) n count rest left e h = let i = ap head_index e in absurd (omega (arith, i))
elements_begin (Day d) n count rest left e h = let i = ap head_index e in absurd (omega (arith, i))
elements_begin (Items' _ row) n count rest left e h = let i = ap head_index e in absurd (omega (arith, i))
elements_begin (Elements' _ row) n count rest left e h = (
  items-the_row-Value _ row,
  record {
    deep = h.0;
    many = sym (ap head_amount e);
    is = ap tail e ∙ ap (λ l. l ++ left) (nodes_listed _ row);
    within = depth_listed _ row (n - 1) h.1;
  },
)
elements_begin (Chosen' j _ w) n count rest left e h = let i = ap head_index e in absurd (omega (arith, i))
elements_begin Absent n count rest left e h = let i = ap head_index e in absurd (omega (arith, i))

-- So is a node of a CHOICE.
chosen_begin : (v : Value) (n k : ℕ) (rest left : List Tree) → chosen 12 (number (pos k)) ∷ rest ≡ nodes_of v ++ left → IsWithinDepth v n → (0 < n) × (w : Value) × BeginsWith rest (n - 1) w left
chosen_begin (Boolean b) n k rest left e h = let i = ap head_index e in absurd (omega (arith, i))
chosen_begin Null n k rest left e h = let i = ap head_index e in absurd (omega (arith, i))
chosen_begin (Integer z) n k rest left e h = let i = ap head_index e in absurd (omega (arith, i))
chosen_begin (Bits b) n k rest left e h = let i = ap head_index e in absurd (omega (arith, i))
chosen_begin (Octets o) n k rest left e h = let i = ap head_index e in absurd (omega (arith, i))
chosen_begin (Text s) n k rest left e h = let i = ap head_index e in absurd (omega (arith, i))
chosen_begin (Units u) n k rest left e h = let i = ap head_index e in absurd (omega (arith, i))
chosen_begin (Arcs a) n k rest left e h = let i = ap head_index e in absurd (omega (arith, i))
chosen_begin (Instant t) n k rest left e h = let i = ap head_index e in absurd (omega (arith, i))
chosen_begin (Day d) n k rest left e h = let i = ap head_index e in absurd (omega (arith, i))
chosen_begin (Items' _ row) n k rest left e h = let i = ap head_index e in absurd (omega (arith, i))
chosen_begin (Elements' _ row) n k rest left e h = let i = ap head_index e in absurd (omega (arith, i))
chosen_begin (Chosen' j _ w) n k rest left e h = (h.0, w, record { is = ap tail e; within = h.1 })
chosen_begin Absent n k rest left e h = let i = ap head_index e in absurd (omega (arith, i))

nothing_begins : (v : Value) (left : List Tree) → [] ≡ nodes_of v ++ left → ⊥
nothing_begins (Boolean b) left e = cc
nothing_begins Null left e = cc
nothing_begins (Integer z) left e = cc
nothing_begins (Bits b) left e = cc
nothing_begins (Octets o) left e = cc
nothing_begins (Text s) left e = cc
nothing_begins (Units u) left e = cc
nothing_begins (Arcs a) left e = cc
nothing_begins (Instant t) left e = cc
nothing_begins (Day d) left e = cc
nothing_begins (Items' _ row) left e = cc
nothing_begins (Elements' _ row) left e = cc
nothing_begins (Chosen' j _ w) left e = cc
nothing_begins Absent left e = cc

-- ---- what is refused

abbrev pub NoneBegins : List Tree → ℕ → Type 0
NoneBegins l n = (v : Value) (left : List Tree) → BeginsWith l n v left → ⊥

abbrev pub NoneBegin : List Tree → ℕ → ℕ → Type 0
NoneBegin l n count = (vs : List Value) (left : List Tree) → BeginsWithAll l n count vs left → ⊥

pub none_in_nothing : (l : List Tree) (n : ℕ) → l ≡ [] → NoneBegins l n
none_in_nothing l n e v left b = nothing_begins v left (sym e ∙ b.is)

pub items_refused : {M : Type 0} (l rest : List Tree) (t : Tree) (n count : ℕ) → l ≡ t ∷ rest → t ≡ chosen 10 (number (pos count)) → M ⊎ NoneBegin rest n count → M ⊎ NoneBegins l n
items_refused l rest t n count e k (inl m) = inl m
items_refused l rest t n count e k (inr f) = inr (λ v left b. let x = items_begin v n count rest left (ap (λ u. u ∷ rest) (sym k) ∙ (sym e ∙ b.is)) b.within in f x.0 left x.1)

pub elements_refused : {M : Type 0} (l rest : List Tree) (t : Tree) (n count : ℕ) → l ≡ t ∷ rest → t ≡ chosen 11 (number (pos count)) → M ⊎ NoneBegin rest n count → M ⊎ NoneBegins l n
elements_refused l rest t n count e k (inl m) = inl m
elements_refused l rest t n count e k (inr f) = inr (λ v left b. let x = elements_begin v n count rest left (ap (λ u. u ∷ rest) (sym k) ∙ (sym e ∙ b.is)) b.within in f x.0 left x.1)

pub chosen_refused : {M : Type 0} (l rest : List Tree) (t : Tree) (n k : ℕ) → l ≡ t ∷ rest → t ≡ chosen 12 (number (pos k)) → M ⊎ NoneBegins rest (n - 1) → M ⊎ NoneBegins l n
chosen_refused l rest t n k e h (inl m) = inl m
chosen_refused l rest t n k e h (inr f) = inr (λ v left b. let x = chosen_begin v n k rest left (ap (λ u. u ∷ rest) (sym h) ∙ (sym e ∙ b.is)) b.within in f x.1 left x.2)

pub chosen_too_deep : (l rest : List Tree) (t : Tree) (n k : ℕ) → l ≡ t ∷ rest → t ≡ chosen 12 (number (pos k)) → n ≡ 0 → NoneBegins l n
chosen_too_deep l rest t n k e h z v left b =
    let x = chosen_begin v n k rest left (ap (λ u. u ∷ rest) (sym h) ∙ (sym e ∙ b.is)) b.within in
    let p = x.0 in
    absurd (omega (arith, p, z))

-- ---- what is read

pub leaf_begins : (l rest : List Tree) (t : Tree) (n : ℕ) (v : Value) → l ≡ t ∷ rest → nodes_of v ≡ t ∷ [] → IsWithinDepth v n → BeginsWith l n v rest
leaf_begins l rest t n v e k d = record { is = e ∙ ap (λ m. m ++ rest) (sym k); within = d }

pub items_begins : (l rest left : List Tree) (t : Tree) (n count : ℕ) (vs : Vec Value Global) → l ≡ t ∷ rest → t ≡ chosen 10 (number (pos count)) → BeginsWithAll rest n count vs.items left → BeginsWith l n (Items vs) left
items_begins l rest left t n count vs e k b = record {
  is = e ∙ (ap (λ u. u ∷ rest) k ∙ (ap (λ m. chosen 10 (number (pos count)) ∷ m) b.is ∙ (ap (λ m. (chosen 10 (number (pos m)) ∷ all_nodes vs.items) ++ left) (sym b.many) ∙ ap (λ m. m ++ left) (sym (items_nodes vs)))));
  within = items_within vs n b.deep b.within;
}

pub elements_begins : (l rest left : List Tree) (t : Tree) (n count : ℕ) (vs : Vec Value Global) → l ≡ t ∷ rest → t ≡ chosen 11 (number (pos count)) → BeginsWithAll rest n count vs.items left → BeginsWith l n (Elements vs) left
elements_begins l rest left t n count vs e k b = record {
  is = e ∙ (ap (λ u. u ∷ rest) k ∙ (ap (λ m. chosen 11 (number (pos count)) ∷ m) b.is ∙ (ap (λ m. (chosen 11 (number (pos m)) ∷ all_nodes vs.items) ++ left) (sym b.many) ∙ ap (λ m. m ++ left) (sym (elements_nodes vs)))));
  within = elements_within vs n b.deep b.within;
}

-- ---- one value after the other

abbrev pub ReadSoFar : List Tree → ℕ → ℕ → List Value → List Tree → Type 0
ReadSoFar l n i vs left = (length vs ≡ i) × (l ≡ all_nodes vs ++ left) × Every (λ v. IsWithinDepth v (n - 1)) vs

all_pushed : (vs : List Value) (v : Value) (rest : List Tree) → all_nodes vs ++ (nodes_of v ++ rest) ≡ all_nodes (vs ++ v ∷ []) ++ rest
all_pushed [] v rest = ap (λ l. l ++ rest) (sym (append-nil (nodes_of v)))
all_pushed (w ∷ vs) v rest = append_assoc (nodes_of w) (all_nodes vs) (nodes_of v ++ rest) ∙ (ap (λ l. nodes_of w ++ l) (all_pushed vs v rest) ∙ sym (append_assoc (nodes_of w) (all_nodes (vs ++ v ∷ [])) rest))

every_pushed : {T : Type 0} (P : T → Type 0) (xs : List T) (x : T) → Every P xs → P x → Every P (xs ++ x ∷ [])
every_pushed P [] x h p = (p, tt)
every_pushed P (y ∷ xs) x h p = (h.0, every_pushed P xs x h.1 p)

length_pushed : {T : Type 0} (xs : List T) (x : T) → length (xs ++ x ∷ []) ≡ length xs + 1
length_pushed [] x = refl
length_pushed (y ∷ xs) x = let e = length_pushed xs x in omega (arith, e)

pub read_more : (l left rest : List Tree) (n i : ℕ) (vs us : List Value) (v : Value) → ReadSoFar l n i vs left → us ≡ vs ++ v ∷ [] → BeginsWith left (n - 1) v rest → ReadSoFar l n (i + 1) us rest
read_more l left rest n i vs us v s e b = (
  ap length e ∙ (length_pushed vs v ∙ ap (λ k. k + 1) s.0),
  s.1 ∙ (ap (λ m. all_nodes vs ++ m) b.is ∙ (all_pushed vs v rest ∙ ap (λ k. all_nodes k ++ rest) (sym e))),
  subst (Every (λ w. IsWithinDepth w (n - 1))) (sym e) (every_pushed _ vs v s.2 b.within),
)

-- If there are more values, the next one is there.
next_value : (P : Value → Type 0) (vs ws : List Value) (left rest : List Tree) → length vs < length ws → all_nodes vs ++ left ≡ all_nodes ws ++ rest → Every P ws → (w : Value) × (more : List Tree) × (left ≡ nodes_of w ++ more) × P w
next_value P [] [] left rest h e p = absurd (omega (arith, h))
next_value P [] (w ∷ ws) left rest h e p = (w, all_nodes ws ++ rest, e ∙ append_assoc (nodes_of w) (all_nodes ws) rest, p.0)
next_value P (v ∷ vs) [] left rest h e p = absurd (omega (arith, h))
next_value P (v ∷ vs) (w ∷ ws) left rest h e p =
    next_value P vs ws left rest (omega (arith, h))
    (one_rest v w (all_nodes vs ++ left) (all_nodes ws ++ rest) (sym (append_assoc (nodes_of v) (all_nodes vs) left) ∙ (e ∙ append_assoc (nodes_of w) (all_nodes ws) rest))) p.1

pub value_refused : {M : Type 0} (l left : List Tree) (n i count : ℕ) (vs : List Value) → ReadSoFar l n i vs left → i < count → M ⊎ NoneBegins left (n - 1) → M ⊎ NoneBegin l n count
value_refused l left n i count vs s h (inl m) = inl m
value_refused l left n i count vs s h (inr f) = inr (λ ws rest b.
    let many = b.many in
    let so_far = s.0 in
    let x = next_value (λ w. IsWithinDepth w (n - 1)) vs ws left rest (omega (arith, many, so_far, h)) (sym s.1 ∙ b.is) b.within in
    f x.0 x.1 (record { is = x.2; within = x.3 }))

pub no_room : (l : List Tree) (n count : ℕ) → n ≡ 0 → NoneBegin l n count
no_room l n count e vs left b = let d = b.deep in absurd (omega (arith, d, e))

pub all_read : (l left : List Tree) (n i count : ℕ) (vs : List Value) → ReadSoFar l n i vs left → i ≡ count → 0 < n → BeginsWithAll l n count vs left
all_read l left n i count vs s e d = record { deep = d; many = s.0 ∙ e; is = s.1; within = s.2 }

-- ---- a whole value

pub whole : (l left : List Tree) (n : ℕ) (v : Value) → BeginsWith l n v left → left ≡ [] → IsWhole l n v
whole l left n v b e = record { is = b.is ∙ (ap (λ m. nodes_of v ++ m) e ∙ append-nil (nodes_of v)); within = b.within }

pub not_whole : (l left : List Tree) (n : ℕ) (v : Value) → BeginsWith l n v left → (left ≡ [] → ⊥) → (w : Value) → IsWhole l n w → ⊥
not_whole l left n v b h w k = h (one_rest v w left [] (sym b.is ∙ (k.is ∙ sym (append-nil (nodes_of w)))))

pub whole_refused : {M : Type 0} (l : List Tree) (n : ℕ) → M ⊎ NoneBegins l n → M ⊎ ((v : Value) → IsWhole l n v → ⊥)
whole_refused l n (inl m) = inl m
whole_refused l n (inr f) = inr (λ v k. f v [] (record { is = k.is ∙ sym (append-nil (nodes_of v)); within = k.within }))

-- ---- what a node is

pub is_items : (p : Parted) (t : Tree) (count : ℕ) → p ≡ PartedItems count → IsParted p t → t ≡ chosen 10 (number (pos count))
is_items p t count e h = subst (λ q. IsParted q t) e h

pub is_elements : (p : Parted) (t : Tree) (count : ℕ) → p ≡ PartedElements count → IsParted p t → t ≡ chosen 11 (number (pos count))
is_elements p t count e h = subst (λ q. IsParted q t) e h

pub some_left : (nodes : List NodeForm) (b : Bool) → b ≡ (length nodes == 0) → b ≡ false → node_trees nodes ≡ [] → ⊥
some_left [] b e f k = absurd (true≢false (sym e ∙ f))
some_left (n ∷ nodes) b e f k = cc
