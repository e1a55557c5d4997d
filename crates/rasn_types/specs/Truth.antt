-- Tests that decide a fact.
use Rattle.std.specs.Prelude.{Bool, MatchBool}

-- b is true exactly if P holds.
abbrev pub IsWhether : Bool → Type 0 → Type 0
IsWhether b P = MatchBool b P (P → ⊥)

-- b is false exactly if P holds.
abbrev pub IsUnless : Bool → Type 0 → Type 0
IsUnless b P = MatchBool b (P → ⊥) P
