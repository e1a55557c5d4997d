-- What a closure that writes an alternative does to the last list, and why it may fail.
use Rattle.std.specs.Prelude.{ℕ, zero, suc, ◌≡◌, ◌⊎◌, Bool, true, false, None, Result, OnOk, IfErr}
use Rattle.rasn_types.specs.Shapes.{Shape, Tree, any, choice, Parts, part, count}
use Rattle.rasn_types.specs.Shapes.Parts.{none}
use Rattle.rasn_types.specs.declared.types.tag.Tag.{Tag}
use Rattle.rasn_types.specs.declared.error.encode.EncodeError.{EncodeError}
use Rattle.rasn_enc.specs.View.{View, Extends}
use Rattle.rasn_enc.specs.Encoding.{AppendsEncoding, EncodeFails}

-- The alternative with this number has this shape. The first alternative has the number 0.
abbrev pub IsAlternative : Parts → ℕ → Shape → Type 0
IsAlternative none k s = ⊥
IsAlternative (part presence x ps) zero s = x ≡ s
IsAlternative (part presence x ps) (suc k) s = IsAlternative ps k s

-- The unknown alternative of a CHOICE with an extension marker has the number after those of the others, and is an open
-- type without a tag.
abbrev pub IsUnknownAlternative : Bool → Parts → ℕ → Shape → Type 0
IsUnknownAlternative false ps k s = ⊥
IsUnknownAlternative true ps k s = (k ≡ count ps) × (s ≡ any None)

-- The alternative with this number has this shape, or it is the unknown one.
abbrev pub IsAlternativeBy : Bool → Parts → ℕ → Shape → Type 0
IsAlternativeBy extensible ps k s = IsAlternative ps k s ⊎ IsUnknownAlternative extensible ps k s

-- What the closure returns, and what it does to the view. The tree is that of the chosen alternative, with its number.
pub record EncodesAlternative (ps : Parts) (tree : Tree) (v : View) (r : Result Tag EncodeError) (w : View) : Type 0 where
  pub keeps : Extends v w
  pub ok : OnOk r (AppendsEncoding (choice ps) tree v w)
  pub refused : IfErr r (EncodeFails (choice ps) tree v)
