-- Values that are left out if they equal a default (X.690 11.5).
use Rattle.std.specs.Prelude.{◌≡◌, ◌⊎◌, Bool, false, MatchBool, Result, Ok, Err, OnOk, IfErr}
use Rattle.std.specs.declared.alloc.AllocError.{AllocError}
use Rattle.rasn_types.specs.Shapes.{Shape, Tree, default}
use Rattle.rasn_types.specs.declared.error.encode.EncodeError.{EncodeError}
use Rattle.rasn_enc.specs.View.{View}
use Rattle.rasn_enc.specs.Encoding.{AppendsEncoding, AppendsPart, EncodeFails, EncodePartFails}
use Rattle.rasn_enc.specs.Primitive.{IsAllocError}

-- `made r` says that making the default may return `r`.
module _ {E : Type 0} (eq : E → E → Bool) (made : Result E AllocError → Type 0) (s : Shape) (tree : E → Tree) (value : E) (v : View) where
  -- A value that equals the default is left out, and any other value is written.
  pub record AppendsUnlessDefault (w : View) : Type 0 where
    pub without : E
    pub was_made : made (Ok without)
    pub done : MatchBool (eq value without) (w ≡ v) (AppendsEncoding s (tree value) v w)

  -- Making the default fails to allocate, or the value doesn't equal the default and isn't written.
  abbrev pub FailsUnlessDefault : EncodeError → Type 0
  FailsUnlessDefault e = ((x : AllocError) × made (Err x) × IsAllocError v.rule e)
      ⊎ ((without : E) × made (Ok without) × (eq value without ≡ false) × EncodeFails s (tree value) v e)

  -- If every default that may be made has the tree `without`, the value is written as a part with this default.
  abbrev pub EncodesDefault : Result (Unit {0}) EncodeError → View → Type 0
  EncodesDefault result w = (without : Tree) → ((d : E) → made (Ok d) → tree d ≡ without)
      → OnOk result (AppendsPart (default without) s (tree value) v w) × IfErr result (EncodePartFails (default without) s (tree value) v)
