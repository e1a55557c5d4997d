-- Nodes that are appended.
use Rattle.std.proofs.Common.{◌≡◌, ◌⊎◌, inl, inr, ℕ, ◌+◌, ◌-◌, ◌<◌, List, [], ◌∷◌, ◌++◌, length, take, get_or, Vec, Global, Result, Ok, Err, IfErr, sym, ap, ◌∙◌, subst, append_assoc}
use Rattle.std.specs.Prelude.{OnOk}
use Rattle.std.proofs.lemmas.List.{map-append, take_more, append-nil}
use Rattle.rasn_types.specs.Shapes.{Tree}
use Rattle.rasn_schema.specs.declared.value.Value.{Value, Items, Elements}
use Rattle.rasn_schema.proofs.Values.{row_of}
use Rattle.rasn_schema_octets.specs.declared.node.NodeForm.{NodeForm}
use Rattle.rasn_schema_octets.specs.Defaults.{nodes_of, all_nodes, nodes_held, IsWithinDepth}
use Rattle.rasn_schema_octets.specs.Forms.{node_form_tree}
use Rattle.rasn_schema_octets.specs.Nodes.{node_trees}
use Rattle.rasn_schema_octets.specs.Shallow.{Every}
use Rattle.rasn_schema_octets.proofs.Nodes.{nodes_listed, depth_listed, row_items}

pub on_ok : {T E A B : Type 0} (r : Result T E) → (A → B) → OnOk r A → OnOk r B
on_ok (Ok x) f h = f h
on_ok (Err e) f h = tt

pub if_err : {T E : Type 0} {P Q : E → Type 0} (r : Result T E) → ((e : E) → P e → Q e) → IfErr r P → IfErr r Q
if_err (Ok x) f h = tt
if_err (Err e) f h = f e h

pub other : {M A B : Type 0} → (A → B) → M ⊎ A → M ⊎ B
other f (inl m) = inl m
other f (inr a) = inr (f a)

pub appended : (old pushed new : List NodeForm) (n : NodeForm) (held : List Tree) (v : Value) → nodes_of v ≡ node_form_tree n ∷ held → pushed ≡ old ++ n ∷ [] → node_trees new ≡ node_trees pushed ++ held → node_trees new ≡ node_trees old ++ nodes_of v
appended old pushed new n held v k p e =
    e
    ∙ (ap (λ l. node_trees l ++ held) p
    ∙ (ap (λ l. l ++ held) (map-append node_form_tree old (n ∷ []))
    ∙ (append_assoc (node_trees old) (node_form_tree n ∷ []) held ∙ ap (λ l. node_trees old ++ l) (sym k))))

pub held_items : (vs : Vec Value Global) → nodes_held (Items vs) ≡ all_nodes vs.items
held_items vs = let row = row_of (Items vs) in nodes_listed row.0 row.1 ∙ ap all_nodes (row_items vs)

pub held_elements : (vs : Vec Value Global) → nodes_held (Elements vs) ≡ all_nodes vs.items
held_elements vs = let row = row_of (Elements vs) in nodes_listed row.0 row.1 ∙ ap all_nodes (row_items vs)

-- The nodes of the values of a list are appended.
pub items_appended : (old pushed new : List NodeForm) (n : NodeForm) (v : Value) (vs : Vec Value Global) (us : List Value) → v ≡ Items vs → us ≡ vs.items → nodes_of v ≡ node_form_tree n ∷ nodes_held v → pushed ≡ old ++ n ∷ [] → node_trees new ≡ node_trees pushed ++ all_nodes us → node_trees new ≡ node_trees old ++ nodes_of v
items_appended old pushed new n v vs us e f k p a = appended old pushed new n (nodes_held v) v k p (a ∙ ap (λ l. node_trees pushed ++ l) (ap all_nodes f ∙ (sym (held_items vs) ∙ ap nodes_held (sym e))))

pub elements_appended : (old pushed new : List NodeForm) (n : NodeForm) (v : Value) (vs : Vec Value Global) (us : List Value) → v ≡ Elements vs → us ≡ vs.items → nodes_of v ≡ node_form_tree n ∷ nodes_held v → pushed ≡ old ++ n ∷ [] → node_trees new ≡ node_trees pushed ++ all_nodes us → node_trees new ≡ node_trees old ++ nodes_of v
elements_appended old pushed new n v vs us e f k p a = appended old pushed new n (nodes_held v) v k p (a ∙ ap (λ l. node_trees pushed ++ l) (ap all_nodes f ∙ (sym (held_elements vs) ∙ ap nodes_held (sym e))))

abbrev AllWithin : ℕ → List Value → Type 0
AllWithin n us = (0 < n) × Every (λ v. IsWithinDepth v (n - 1)) us

pub items_deep : (v : Value) (vs : Vec Value Global) (us : List Value) (n : ℕ) → v ≡ Items vs → us ≡ vs.items → (AllWithin n us → ⊥) → IsWithinDepth v n → ⊥
items_deep v vs us n e f k h =
    let row = row_of (Items vs) in
    let d : IsWithinDepth (Items vs) n = subst (λ w. IsWithinDepth w n) e h in
    k (d.0, subst (Every (λ w. IsWithinDepth w (n - 1))) (row_items vs ∙ sym f) (depth_listed row.0 row.1 (n - 1) d.1))

pub elements_deep : (v : Value) (vs : Vec Value Global) (us : List Value) (n : ℕ) → v ≡ Elements vs → us ≡ vs.items → (AllWithin n us → ⊥) → IsWithinDepth v n → ⊥
elements_deep v vs us n e f k h =
    let row = row_of (Elements vs) in
    let d : IsWithinDepth (Elements vs) n = subst (λ w. IsWithinDepth w n) e h in
    k (d.0, subst (Every (λ w. IsWithinDepth w (n - 1))) (row_items vs ∙ sym f) (depth_listed row.0 row.1 (n - 1) d.1))

all_nodes_pushed : (vs : List Value) (v : Value) → all_nodes (vs ++ v ∷ []) ≡ all_nodes vs ++ nodes_of v
all_nodes_pushed [] v = append-nil (nodes_of v)
all_nodes_pushed (w ∷ vs) v = ap (λ l. nodes_of w ++ l) (all_nodes_pushed vs v) ∙ sym (append_assoc (nodes_of w) (all_nodes vs) (nodes_of v))

-- One more value in a loop.
pub one_appended : (old now new : List NodeForm) (vs : List Value) (i : ℕ) (v : Value) → i < length vs → v ≡ get_or vs i v → node_trees now ≡ node_trees old ++ all_nodes (take i vs) → node_trees new ≡ node_trees now ++ nodes_of v
    → node_trees new ≡ node_trees old ++ all_nodes (take (i + 1) vs)
one_appended old now new vs i v h at e k =
    k
    ∙ (ap (λ l. l ++ nodes_of v) e
    ∙ (append_assoc (node_trees old) (all_nodes (take i vs)) (nodes_of v)
    ∙ ap (λ l. node_trees old ++ l) (sym (all_nodes_pushed (take i vs) v) ∙ ap all_nodes (ap (λ x. take i vs ++ x ∷ []) at ∙ sym (take_more vs i v h)))))
