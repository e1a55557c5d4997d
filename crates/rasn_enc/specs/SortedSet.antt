-- The components of a SET that is written in the order of its tags: where the writer puts them, and why they can't be
-- written.
use Rattle.std.specs.Prelude.{ℕ, ◌≡◌, ◌+◌, ◌≤◌, ◌⊎◌, Bool, false, if◌then◌else◌, List, [], ◌∷◌, ◌++◌, map, Option, Some, None}
use Rattle.rasn_types.specs.Tags.{IsTagBelow}
use Rattle.rasn_types.specs.Framing.{Begins}
use Rattle.rasn_types.specs.Shapes.{Shape, own, IsFirst, Tree, numbers, done, joined, IsSetTree, Parts, part, count, Presence}
use Rattle.rasn_types.specs.Shapes.Parts.{none}
use Rattle.rasn_types.specs.LawfulTest.{is_same_tag, is_tag_below}
use Rattle.rasn_types.specs.Bytes.{Each, Component, ComesBefore, AreInOrder, IsReordered, fields_of, PartsWritten, ComponentsOf, UnknownComponents}
use Rattle.rasn_types.specs.Errors.{IsEncodeOutOfMemory}
use Rattle.rasn_types.specs.declared.types.codec.Codec.{Codec}
use Rattle.rasn_types.specs.declared.types.tag.Tag.{Tag}
use Rattle.rasn_types.specs.declared.error.encode.EncodeError.{EncodeError}
use Rattle.rasn_enc.specs.View.{View, started}
use Rattle.rasn_enc.specs.Sequence.{AppendsParts}
use Rattle.rasn_enc.specs.declared.ber.enc.set_parts.SetComponent.{SetComponent}

abbrev pub is_this : Option Tag → Tag → Bool
is_this None tag = false
is_this (Some own) tag = is_same_tag own tag

-- Whether all values of the shape begin with this tag.
abbrev pub is_own : Shape → Tag → Bool
is_own s tag = is_this (own s) tag

-- A component is put before the first whose tag isn't below its own.
abbrev pub with_component : SetComponent → List SetComponent → List SetComponent
with_component x [] = x ∷ []
with_component x (y ∷ ys) = if is_tag_below y.tag x.tag then y ∷ with_component x ys else x ∷ y ∷ ys

abbrev pub octets_in : List SetComponent → List (List ℕ)
octets_in [] = []
octets_in (x ∷ xs) = x.octets.items ∷ octets_in xs

-- Parts are written alone, as these octets.
pub record IsWrittenAlone (parts : Parts) (tree : Tree) (rule : Codec) (octets : List ℕ) : Type 0 where
  pub view : View
  pub wrote : AppendsParts parts tree (started rule false) view
  pub is : octets ≡ view.last.octets

-- The writer holds the tag and the octets of the component.
abbrev pub IsHeldAs : SetComponent → Component → Type 0
IsHeldAs x c = (x.tag ≡ c.tag) × (x.octets.items ≡ c.octets)

abbrev pub AreFrom : ℕ → List Component → Type 0
AreFrom k [] = Unit {0}
AreFrom k (c ∷ cs) = (k ≤ c.number) × AreFrom k cs

-- The writer holds these components, whose numbers are at least k, in the order of their tags.
pub record HoldsInOrder (k : ℕ) (cs : List Component) (xs : List SetComponent) : Type 0 where
  pub sorted : List Component
  pub held : Each IsHeldAs xs sorted
  pub reordered : IsReordered cs sorted
  pub order : AreInOrder ComesBefore sorted
  pub from : AreFrom k sorted

-- The writer holds the components of these parts and of unknown values, in the order of their tags, whatever number the
-- first part has.
pub record HoldsParts (extensible : Bool) (ps : Parts) (tree : Tree) (rule : Codec) (xs : List SetComponent) : Type 0 where
  pub trees : List Tree
  pub unknowns : List Tree
  pub is : IsSetTree extensible trees unknowns tree
  pub encoded : List (List ℕ)
  pub written : PartsWritten (fields_of rule ps) trees encoded
  pub holds : (k n : ℕ) → n ≡ k + count ps
      → (cs : List Component) × (es : List Component) × ComponentsOf rule k ps encoded cs × UnknownComponents n unknowns es × HoldsInOrder k (cs ++ es) xs

-- The parts, or unknown values, have no octets, or octets without a place in the order of tags.
pub record HaveNoPlaces (extensible : Bool) (ps : Parts) (tree : Tree) (rule : Codec) : Type 0 where
  pub none : (trees unknowns : List Tree) (encoded : List (List ℕ)) (k n : ℕ) (cs es : List Component) → IsSetTree extensible trees unknowns tree
      → PartsWritten (fields_of rule ps) trees encoded → ComponentsOf rule k ps encoded cs → UnknownComponents n unknowns es → ⊥

-- Why the components of a SET aren't written.
abbrev pub FailsAtComponents : Bool → Parts → Tree → Codec → EncodeError → Type 0
FailsAtComponents extensible ps tree rule e = IsEncodeOutOfMemory e.kind ⊎ HaveNoPlaces extensible ps tree rule

-- All values of the shape begin with this tag.
abbrev pub HasOwn : Tag → Shape → Type 0
HasOwn tag s = own s ≡ Some tag

-- Of the tags that values of the shape may begin with, this is the least.
abbrev pub HasLeast : Tag → Shape → Type 0
HasLeast tag s = IsFirst s tag × ((n : Tag) → IsFirst s n → IsTagBelow n tag → ⊥)

-- A part alone, of whose shape this is known.
pub record IsPartAlone (Known : Shape → Type 0) (p : Presence) (s : Shape) (t : Tree) (ps : Parts) (tree : Tree) : Type 0 where
  pub parts : ps ≡ part p s none
  pub tree_is : tree ≡ joined t done
  pub known : Known s

-- The writer holds the unknown value as the component.
abbrev pub IsUnknown : List ℕ → SetComponent → Type 0
IsUnknown value x = (x.octets.items ≡ value) × Begins value x.tag

-- The writer holds these unknown values as components, in the order of their tags, whatever number the first has.
pub record HoldsUnknown (values : List (List ℕ)) (xs : List SetComponent) : Type 0 where
  pub holds : (n : ℕ) → (es : List Component) × UnknownComponents n (map numbers values) es × HoldsInOrder n es xs

-- One of the values doesn't begin with a tag.
abbrev pub LackTag : List (List ℕ) → Type 0
LackTag [] = ⊥
LackTag (v ∷ values) = ((tag : Tag) → Begins v tag → ⊥) ⊎ LackTag values
