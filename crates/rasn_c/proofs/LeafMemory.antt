-- Numbers that are read without a bound: when memory may run out.
use Rattle.std.proofs.Common.{ℕ, ℤ, ◌≡◌, ◌⊎◌, inl, inr, List, Result, Ok, Err, sym, subst}
use Rattle.std.specs.Prelude.{IfErr}
use Rattle.rasn_types.specs.declared.types.codec.Codec.{Codec}
use Rattle.rasn_types.specs.declared.types.tag.Tag.{Tag}
use Rattle.rasn_types.specs.declared.types.constraints.Bounded.{Bounded}
use Rattle.rasn_types.specs.declared.error.decode.DecodeError.{DecodeError}
use Rattle.rasn_types.specs.Errors.{IsOutOfMemory}
use Rattle.rasn_types.specs.Inline.{IsLong}
use Rattle.rasn_types.specs.Shapes.{Interval}
use Rattle.rasn_types.specs.Trees.{unconstrained}
use Rattle.rasn_de.specs.Causes.{Cause, out_of_bound}
use Rattle.rasn_de.specs.Leaves.{FromContents, IntegerIn, IntegerAt, definite_at, IsOutOfBound, TakesThere, AllocMayFail}
use Rattle.rasn_de.specs.State.{State}
use Rattle.rasn_de.proofs.Leaves.Memory.{IsPlainCause, Plainly, definite_plain}
use Rattle.rasn_c.specs.Leaves.{TakesLong}

in_contents : (rule : Codec) (width : ℕ) (range : Interval) (d : Result (List ℕ × List ℕ) (Cause × List ℕ)) → Plainly d → (z : ℤ) (bound : Bounded ℤ) (rest : List ℕ)
    → FromContents (IntegerIn rule width range unconstrained) d (Err (out_of_bound z bound, rest)) → ⊥
in_contents rule width range (Ok p) n z bound rest ((i, r, a, e, f), g) = a tt
in_contents rule width range (Err d) n z bound rest h = let k : (out_of_bound z bound, rest) ≡ d = cc in subst (λ (u : Cause × List ℕ). IsPlainCause u.0) (sym k) n

-- A number that has no bound isn't out of it.
within : (rule : Codec) (width : ℕ) (range : Interval) (tag : Tag) (l rest : List ℕ) → IsOutOfBound (IntegerAt width range unconstrained rule tag l) rest → ⊥
within rule width range tag l rest (z, bound, a) = in_contents rule width range (definite_at rule tag l) (definite_plain rule tag l) z bound rest a

long : (width : ℕ) (range : Interval) (tag : Tag) (old : State) (rest : List ℕ) → TakesThere IsLong tag old rest ⊎ IsOutOfBound (IntegerAt width range unconstrained old.rule tag old.rest) rest → TakesLong old.rule old.rest
long width range tag old rest (inl (c, d, t)) = (tag, c, rest, d, t)
long width range tag old rest (inr b) = absurd (within old.rule width range tag old.rest rest b)

pub takes_long : {X : Type 0} (width : ℕ) (range : Interval) (tag : Tag) (old new : State) (r : Result X DecodeError) → AllocMayFail IsLong width range tag unconstrained old r new → IfErr r (λ e. IsOutOfMemory e.kind → TakesLong old.rule old.rest)
takes_long width range tag old new (Ok v) h = tt
takes_long width range tag old new (Err e) h = λ m. long width range tag old new.rest (h m)
