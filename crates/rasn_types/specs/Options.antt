use Rattle.std.specs.Prelude.{◌≡◌, Option, Some, None}

-- `Some v` if P holds, and otherwise `None`.
abbrev pub IsSomeExactlyIf : {X : Type 0} → Option X → Type 0 → X → Type 0
IsSomeExactlyIf None P v = P → ⊥
IsSomeExactlyIf (Some x) P v = P × (x ≡ v)

-- A value that is related, or `None` if no value is.
abbrev pub IsSomeRelated : {X : Type 0} → Option X → (X → Type 0) → Type 0
IsSomeRelated None R = (x : _) → R x → ⊥
IsSomeRelated (Some x) R = R x

-- A value whose meaning under f is v if P holds, and otherwise `None`.
abbrev pub IsSomeMeaningExactlyIf : {X Y : Type 0} → (X → Y) → Option X → Type 0 → Y → Type 0
IsSomeMeaningExactlyIf f None P v = P → ⊥
IsSomeMeaningExactlyIf f (Some x) P v = (f x ≡ v) × P
