-- Elements of one shape, one after the other (X.690 8.10, 8.12).
use Rattle.std.specs.Prelude.{ℕ, ◌≡◌, ◌≤◌, ◌⊎◌, List, [], ◌∷◌, ◌++◌}
use Rattle.rasn_types.specs.Shapes.{Shape, Tree, Admits}
use Rattle.rasn_types.specs.Contents.{joined_lists}
use Rattle.rasn_types.specs.Bytes.{Bytes, Each, AreAscending, IsLess}
use Rattle.rasn_types.specs.Errors.{IsEncodeOutOfMemory}
use Rattle.rasn_types.specs.declared.types.constraints.Constraints.{Constraints}
use Rattle.rasn_types.specs.declared.types.codec.Codec.{Codec}
use Rattle.rasn_types.specs.declared.error.encode.EncodeError.{EncodeError}
use Rattle.rasn_enc.specs.View.{View}
use Rattle.rasn_enc.specs.Encoding.{NoEncoding}
use Rattle.rasn_enc.specs.Errors.{FailsAtSize}
use Rattle.rasn_enc.specs.Primitive.{IsAllocError, IsOrderError}

-- The octets of these trees are appended to the last list.
pub record AppendsElements (s : Shape) (ts : List Tree) (v w : View) : Type 0 where
  pub encoded : List (List ℕ)
  pub each : Each (Bytes v.rule s) ts encoded
  pub octets : w.last.octets ≡ v.last.octets ++ joined_lists encoded

-- An element isn't written: an allocation failed, or the element has no octets. The elements before it have octets.
pub record FailsAtElement (s : Shape) (ts : List Tree) (rule : Codec) (e : EncodeError) : Type 0 where
  pub front : List Tree
  pub tree : Tree
  pub back : List Tree
  pub is : ts ≡ front ++ tree ∷ back
  pub encoded : List (List ℕ)
  pub before : Each (Bytes rule s) front encoded
  pub why : IsEncodeOutOfMemory e.kind ⊎ NoEncoding rule s tree

-- Why a list isn't written: its size is out of bounds; otherwise an allocation fails, or an element isn't written.
abbrev pub FailsAtList : Shape → List Tree → ℕ → Constraints → Codec → EncodeError → Type 0
FailsAtList s ts size c rule e = FailsAtSize c size rule e ⊎ (Admits ◌≤◌ c.size size × (IsAllocError rule e ⊎ FailsAtElement s ts rule e))

-- The octets of these trees are appended to the last list, in ascending order (X.690 11.6).
pub record AppendsSetOf (s : Shape) (ts : List Tree) (v w : View) : Type 0 where
  pub wrote : AppendsElements s ts v w
  pub order : AreAscending IsLess wrote.encoded

-- An element isn't written, and the octets of the elements before it are in ascending order.
pub record FailsInSetOf (s : Shape) (ts : List Tree) (rule : Codec) (e : EncodeError) : Type 0 where
  pub element : FailsAtElement s ts rule e
  pub order : AreAscending IsLess element.encoded

-- The octets of an element are less than those of the element before it, and the octets of the elements before it are
-- in ascending order.
pub record FailsOutOfOrder (s : Shape) (ts : List Tree) (rule : Codec) (e : EncodeError) : Type 0 where
  pub front : List Tree
  pub tree : Tree
  pub back : List Tree
  pub is : ts ≡ front ++ tree ∷ back
  pub encoded : List (List ℕ)
  pub before : Each (Bytes rule s) front encoded
  pub order : AreAscending IsLess encoded
  pub octets : List ℕ
  pub defined : Bytes rule s tree octets
  pub falls : AreAscending IsLess (encoded ++ octets ∷ []) → ⊥
  pub told : IsOrderError rule e

-- Why elements aren't written: one has no octets, an allocation fails for it, or its octets are less than those of the
-- element before it.
abbrev pub FailsAtElements : Shape → List Tree → Codec → EncodeError → Type 0
FailsAtElements s ts rule e = FailsInSetOf s ts rule e ⊎ FailsOutOfOrder s ts rule e

-- Why a SET OF isn't written: its size is out of bounds; otherwise an allocation fails, an element isn't written, or
-- the octets are out of order.
abbrev pub FailsAtSetOf : Shape → List Tree → ℕ → Constraints → Codec → EncodeError → Type 0
FailsAtSetOf s ts size c rule e = FailsAtSize c size rule e
    ⊎ (Admits ◌≤◌ c.size size × (IsAllocError rule e ⊎ FailsAtElements s ts rule e))
