-- What a call that writes a tree does to an encoder's view, and why it may fail.
use Rattle.std.specs.Prelude.{ℕ, ◌≡◌, ◌≢◌, ◌⊎◌, List, [], ◌∷◌, None, Result, OnOk}
use Rattle.rasn_types.specs.Shapes.{Shape, Kind, Tree, Presence, required, leaf}
use Rattle.rasn_types.specs.declared.types.constraints.Constraints.{Constraints}
use Rattle.rasn_types.specs.Bytes.{Bytes, WritesPart, TagsOf, IsUntaggedOpen}
use Rattle.rasn_types.specs.Errors.{IsEncodeOutOfMemory}
use Rattle.rasn_types.specs.declared.types.codec.Codec.{Codec}
use Rattle.rasn_types.specs.declared.types.tag.Tag.{Tag}
use Rattle.rasn_types.specs.declared.error.encode.EncodeError.{EncodeError}
use Rattle.rasn_enc.specs.View.{View, appended}

-- The octets of a part are appended to the last list. If that list keeps tags, the part's outermost tag is appended to
-- them; a part that is left out has none, and octets of an open type without a tag aren't appended.
pub record AppendsPart (p : Presence) (s : Shape) (t : Tree) (v w : View) : Type 0 where
  pub octets : List ℕ
  pub defined : WritesPart p (Bytes v.rule s) t octets
  pub tags : List Tag
  pub heads : v.last.tags ≢ None → TagsOf (octets ∷ []) tags
  pub tagged : v.last.tags ≢ None → IsUntaggedOpen s t → octets ≡ []
  pub appended : w ≡ appended v octets tags

-- The part has no octets under this rule.
pub record NoEncodingOfPart (p : Presence) (rule : Codec) (s : Shape) (t : Tree) : Type 0 where
  pub none : (octets : List ℕ) → WritesPart p (Bytes rule s) t octets → ⊥

-- Octets of an open type without a tag would be in a list that keeps tags.
pub record IsUntaggedPartInSet (p : Presence) (s : Shape) (t : Tree) (v : View) : Type 0 where
  pub bare : IsUntaggedOpen s t
  pub some : (octets : List ℕ) → WritesPart p (Bytes v.rule s) t octets → octets ≢ []
  pub keeps : v.last.tags ≢ None

-- Why a part isn't written: an allocation fails, the part has no octets, or octets without a tag would be in a list
-- that keeps tags.
pub record EncodePartFails (p : Presence) (s : Shape) (t : Tree) (v : View) (e : EncodeError) : Type 0 where
  pub why : IsEncodeOutOfMemory e.kind ⊎ (NoEncodingOfPart p v.rule s t ⊎ IsUntaggedPartInSet p s t v)

-- The octets of the tree are appended to the last list.
abbrev pub AppendsEncoding : Shape → Tree → View → View → Type 0
AppendsEncoding = AppendsPart required

-- If the call succeeds, a primitive value is written under any constraints: none of them bounds a value of this kind.
abbrev pub AppendsLeaf : Kind → Tag → Tree → Result (Unit {0}) EncodeError → View → View → Type 0
AppendsLeaf kind tag tree result v w = (c : Constraints) → OnOk result (AppendsEncoding (leaf kind tag c) tree v w)

-- The tree has no octets under this rule.
abbrev pub NoEncoding : Codec → Shape → Tree → Type 0
NoEncoding = NoEncodingOfPart required

abbrev pub IsUntaggedValueInSet : Shape → Tree → View → Type 0
IsUntaggedValueInSet = IsUntaggedPartInSet required

-- Why a tree isn't written.
abbrev pub EncodeFails : Shape → Tree → View → EncodeError → Type 0
EncodeFails = EncodePartFails required
