-- Why a Both isn't read: its first value isn't, or its second isn't once the first is read.
use Rattle.std.proofs.Common.{inl, inr, Ok, Err}
use Rattle.std.specs.Prelude.{Result, IfErr}
use Rattle.rasn_types.specs.declared.error.decode.DecodeError.{DecodeError}
use Rattle.rasn_types.specs.Shapes.{Shape, Tree}
use Rattle.rasn_de.specs.declared.ber.de.constructed.ConstructedHeader.{ConstructedHeader}
use Rattle.rasn_de.specs.State.{State, Call, EachCall}
use Rattle.rasn_de.specs.Constructed.{DecodesInside}
use Rattle.rasn_de.specs.Decodes.{Decodes}
use Rattle.rasn_de.specs.PartTypes.{DecodesInParts}
use Rattle.rasn_de.specs.ValueErrors.{Errors}
use Rattle.rasn_de.proofs.Constructed.Steps.{inside_by}
use Rattle.rasn_examples.specs.Both.{both_parts, both_tree, both_part_errors}

module _ {A B : Type 0} (s u : Shape) (first : A → Tree) (second : B → Tree) (one other : Errors) where
  pub first_fails : (old new : State) (e : DecodeError) → Decodes s first old (Err e) new → one old e new
      → DecodesInParts (both_parts s u) (both_tree first second) (both_part_errors s u one other) old (Err e) new
  first_fails old new e r f = (inl r, inl f)

  pub second_fails : (old mid new : State) (v : A) (e : DecodeError) → Decodes s first old (Ok v) mid → Decodes u second mid (Err e) new → other mid e new
      → DecodesInParts (both_parts s u) (both_tree first second) (both_part_errors s u one other) old (Err e) new
  second_fails old mid new v e a r f = (inr (first v, mid, a, inl r), inr (first v, mid, a, inl f))

-- The errors of a value that is read inside, by each call that the one inside implies.
pub inside_fails : {D : Type 0} (read other : Call D) (header : ConstructedHeader) → EachCall read other → (old : State) (r : Result D DecodeError) (new : State) → DecodesInside read header old r new
    → IfErr r (λ e. DecodesInside other header old (Err e) new)
inside_fails read other header by old (Ok v) new k = tt
inside_fails read other header by old (Err e) new k = inside_by read other header old (Err e) new k by
