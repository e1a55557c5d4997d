-- Nodes that are read and written.
use Rattle.std.specs.Prelude.{◌≡◌, ◌<◌, ◌-◌, ◌++◌, ℕ, pos, List, [], ◌∷◌, map, length}
use Rattle.rasn_types.specs.Shapes.{Tree, number, chosen}
use Rattle.rasn_schema.specs.declared.value.Value.{Value}
use Rattle.rasn_schema_octets.specs.declared.node.NodeForm.{NodeForm}
use Rattle.rasn_schema_octets.specs.declared.value.Parted.{Parted}
use Rattle.rasn_schema_octets.specs.declared.value.Parted.TheVariants.{Leaf, Items, Elements, Chosen}
use Rattle.rasn_schema_octets.specs.Defaults.{nodes_of, all_nodes, IsWithinDepth}
use Rattle.rasn_schema_octets.specs.Forms.{node_form_tree}
use Rattle.rasn_schema_octets.specs.Shallow.{Every}

abbrev pub node_trees : List NodeForm → List Tree
node_trees nodes = map node_form_tree nodes

-- What a node is: a value alone, or the first node of one that holds others.
abbrev pub IsParted : Parted → Tree → Type 0
IsParted (Leaf v) t = (nodes_of v ≡ t ∷ []) × ((n : ℕ) → IsWithinDepth v n)
IsParted (Items n) t = t ≡ chosen 10 (number (pos n))
IsParted (Elements n) t = t ≡ chosen 11 (number (pos n))
IsParted (Chosen k) t = t ≡ chosen 12 (number (pos k))

-- The nodes begin with those of a value, which isn't deeper than n, and these are left.
pub record BeginsWith (l : List Tree) (n : ℕ) (v : Value) (left : List Tree) : Type 0 where
  pub is : l ≡ nodes_of v ++ left
  pub within : IsWithinDepth v n

-- The same of so many values, which are held by one that isn't deeper.
pub record BeginsWithAll (l : List Tree) (n count : ℕ) (vs : List Value) (left : List Tree) : Type 0 where
  pub deep : 0 < n
  pub many : length vs ≡ count
  pub is : l ≡ all_nodes vs ++ left
  pub within : Every (λ v. IsWithinDepth v (n - 1)) vs

-- The nodes of a value, which isn't deeper than n, are the whole list.
pub record IsWhole (l : List Tree) (n : ℕ) (v : Value) : Type 0 where
  pub is : l ≡ nodes_of v
  pub within : IsWithinDepth v n
