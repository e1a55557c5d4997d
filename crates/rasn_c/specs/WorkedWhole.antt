-- Octets that are no whole value, and octets that are one.
use Rattle.std.specs.Prelude.{ℕ, List, [], ◌∷◌}
use Rattle.rasn_types.specs.declared.types.codec.Codec.{Codec}
use Rattle.rasn_types.specs.declared.types.codec.Codec.TheVariants.{Ber, Cer}
use Rattle.rasn_types.specs.Shapes.{Shape, boolean}
use Rattle.rasn.specs.WorkedShapes.{plain}
use Rattle.rasn_c.specs.declared.status.Status.TheVariants.{Ok, Refused, OutOfMemory}
use Rattle.rasn_c.specs.Whole.{IsNoWhole}

pub record WorkedWhole : Type 0 where
  pub five_is_refused_by_cer : IsNoWhole Cer (plain boolean 1) (1 ∷ 1 ∷ 5 ∷ []) Refused
  pub five_is_true_by_ber : IsNoWhole Ber (plain boolean 1) (1 ∷ 1 ∷ 5 ∷ []) Refused → ⊥
  pub memory_may_run_out : (rule : Codec) (s : Shape) (octets : List ℕ) → IsNoWhole rule s octets OutOfMemory
  pub no_whole_value_is_a_refusal : (rule : Codec) (s : Shape) (octets : List ℕ) → IsNoWhole rule s octets Ok → ⊥
