-- What a closure that writes parts one after the other does to the last list, and why it may fail.
use Rattle.std.specs.Prelude.{ℕ, ◌≡◌, ◌≢◌, ◌⊎◌, List, None, Result, OnOk, IfErr}
use Rattle.rasn_types.specs.Shapes.{Tree, items, Parts}
use Rattle.rasn_types.specs.Contents.{joined_lists}
use Rattle.rasn_types.specs.Bytes.{fields_of, PartsWritten, NoneUntaggedOpen, TagsOf}
use Rattle.rasn_types.specs.Errors.{IsEncodeOutOfMemory}
use Rattle.rasn_types.specs.declared.types.codec.Codec.{Codec}
use Rattle.rasn_types.specs.declared.types.tag.Tag.{Tag}
use Rattle.rasn_types.specs.declared.error.encode.EncodeError.{EncodeError}
use Rattle.rasn_enc.specs.View.{View, appended, LeavesOthers}

-- The octets of the parts are appended to the last list, one part after the other. If that list keeps tags, the tags of
-- the parts are appended to them, and no part is octets of an open type without a tag. `tree` has an entry for each
-- part.
pub record AppendsParts (parts : Parts) (tree : Tree) (v w : View) : Type 0 where
  pub trees : List Tree
  pub is : tree ≡ items trees
  pub encoded : List (List ℕ)
  pub written : PartsWritten (fields_of v.rule parts) trees encoded
  pub tags : List Tag
  pub heads : v.last.tags ≢ None → TagsOf encoded tags
  pub tagged : v.last.tags ≢ None → NoneUntaggedOpen (fields_of v.rule parts) trees encoded
  pub appended : w ≡ appended v (joined_lists encoded) tags

-- The parts have no octets under this rule.
pub record NoEncodingOfParts (rule : Codec) (parts : Parts) (tree : Tree) : Type 0 where
  pub none : (trees : List Tree) (encoded : List (List ℕ)) → tree ≡ items trees → PartsWritten (fields_of rule parts) trees encoded → ⊥

-- Octets of an open type without a tag would be in a list that keeps tags.
pub record HasUntaggedInSet (parts : Parts) (tree : Tree) (v : View) : Type 0 where
  pub bare : (trees : List Tree) (encoded : List (List ℕ)) → tree ≡ items trees → PartsWritten (fields_of v.rule parts) trees encoded
      → NoneUntaggedOpen (fields_of v.rule parts) trees encoded → ⊥
  pub keeps : v.last.tags ≢ None

-- Why parts aren't written.
pub record EncodePartsFails (parts : Parts) (tree : Tree) (v : View) (e : EncodeError) : Type 0 where
  pub why : IsEncodeOutOfMemory e.kind ⊎ (NoEncodingOfParts v.rule parts tree ⊎ HasUntaggedInSet parts tree v)

-- What a closure that writes parts returns, and what it does to the view.
pub record EncodesParts (parts : Parts) (tree : Tree) (v : View) (r : Result (Unit {0}) EncodeError) (w : View) : Type 0 where
  pub keeps : LeavesOthers v w
  pub ok : OnOk r (AppendsParts parts tree v w)
  pub refused : IfErr r (EncodePartsFails parts tree v)
