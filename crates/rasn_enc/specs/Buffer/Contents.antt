-- Contents octets and primitive values, appended to octets.
use Rattle.std.specs.Prelude.{ℕ, ◌≡◌, List, ◌++◌}
use Rattle.rasn_types.specs.Bytes.{PrimitiveEncoding}
use Rattle.rasn_types.specs.declared.types.tag.Tag.{Tag}

-- `ys` is `xs`, followed by octets that may be written.
pub record AppendsOctets (IsWritten : List ℕ → Type 0) (xs ys : List ℕ) : Type 0 where
  pub octets : List ℕ
  pub written : IsWritten octets
  pub is : ys ≡ xs ++ octets

-- `ys` is `xs`, followed by a primitive value of this tag, with contents that may be written.
pub record AppendsPrimitiveOctets (IsWritten : List ℕ → Type 0) (tag : Tag) (xs ys : List ℕ) : Type 0 where
  pub contents : List ℕ
  pub written : IsWritten contents
  pub octets : List ℕ
  pub encoded : PrimitiveEncoding tag contents octets
  pub is : ys ≡ xs ++ octets
