-- Alternatives as types: the shape of the alternative that is written.
use Rattle.std.proofs.Common.{ℕ, suc, Bool, true, false, refl, ap, inl, inr}
use Rattle.rasn_types.specs.Shapes.{Shape, Parts, part, required}
use Rattle.rasn_types.specs.declared.types.parts.OneOf.{OneOf}
use Rattle.rasn_types.specs.declared.types.parts.OneOf.TheVariants.{This, Other}
use Rattle.rasn_types.specs.OwnTypes.{one_of_number}
use Rattle.rasn_enc.specs.Choice.{IsUnknownAlternative, IsAlternativeBy}

abbrev pub one_of_shape : {A R : Type 0} → Shape → (R → Shape) → OneOf A R → Shape
one_of_shape s shape (This a) = s
one_of_shape s shape (Other r) = shape r

unknown_after : (extensible : Bool) (x : Shape) (ps : Parts) (k : ℕ) (s : Shape) → IsUnknownAlternative extensible ps k s → IsUnknownAlternative extensible (part required x ps) (suc k) s
unknown_after false x ps k s h = h
unknown_after true x ps k s h = (ap suc h.0, h.1)

pub one_of_stands : {A R : Type 0} (extensible : Bool) (s : Shape) (ps : Parts) (number : R → ℕ) (shape : R → Shape) → ((r : R) → IsAlternativeBy extensible ps (number r) (shape r))
    → (v : OneOf A R) → IsAlternativeBy extensible (part required s ps) (one_of_number number v) (one_of_shape s shape v)
one_of_stands extensible s ps number shape h (This a) = inl refl
one_of_stands extensible s ps number shape h (Other r) = elim (h r) [ inl i ↦ inl i | inr i ↦ inr (unknown_after extensible s ps (number r) (shape r) i) ]
