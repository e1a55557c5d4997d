-- Values that are lists or sets of others.
use Rattle.std.proofs.Common.{◌≡◌, List, sym, ap, subst, ◌∙◌}
use Rattle.rasn_types.specs.Shapes.{set_elements}
use Rattle.rasn_types.specs.Trees.{list_tree}
use Rattle.rasn_schema.specs.declared.value.Value.{Value, Items', Elements'}
use Rattle.rasn_schema.specs.Trees.{tree_of}
use Rattle.rasn_schema.proofs.Values.{trees_listed}
use Rattle.rasn_schema.specs.Fitting.{AreItems, AreElements, IsListOf, IsNoList, IsSetOf, IsNoSet}

module _ (P : List Value → Type 0) where
  pub list_to : (vs : List Value) (v : Value) → IsListOf vs v → P vs → AreItems P v
  list_to vs (Items' _ row) h p = subst P (sym h) p
  list_to vs _ h p = absurd h

  pub list_from : (vs : List Value) (v : Value) → IsListOf vs v → AreItems P v → P vs
  list_from vs (Items' _ row) h p = subst P h p
  list_from vs _ h p = absurd h

  pub no_list : (v : Value) → IsNoList v → AreItems P v → ⊥
  no_list (Items' _ row) n p = n tt
  no_list _ n p = p

  pub set_to : (vs : List Value) (v : Value) → IsSetOf vs v → P vs → AreElements P v
  set_to vs (Elements' _ row) h p = subst P (sym h) p
  set_to vs _ h p = absurd h

  pub set_from : (vs : List Value) (v : Value) → IsSetOf vs v → AreElements P v → P vs
  set_from vs (Elements' _ row) h p = subst P h p
  set_from vs _ h p = absurd h

  pub no_set : (v : Value) → IsNoSet v → AreElements P v → ⊥
  no_set (Elements' _ row) n p = n tt
  no_set _ n p = p

pub list_means : (vs : List Value) (v : Value) → IsListOf vs v → tree_of v ≡ list_tree tree_of vs
list_means vs (Items' _ row) h = trees_listed _ row ∙ ap (list_tree tree_of) h
list_means vs _ h = absurd h

pub set_means : (vs : List Value) (v : Value) → IsSetOf vs v → tree_of v ≡ set_elements (list_tree tree_of vs)
set_means vs (Elements' _ row) h = ap set_elements (trees_listed _ row ∙ ap (list_tree tree_of) h)
set_means vs _ h = absurd h
