-- What is made of what is read: values, where they are kept.
use Rattle.std.specs.Prelude.{◌≡◌, ℕ, Bool, true, List, length, map, Vec, Result, Ok, Err}
use Rattle.std.specs.Global.{Global}
use Rattle.rasn_types.specs.Shapes.{Tree}
use Rattle.rasn_de.specs.State.{State, Call}
use Rattle.rasn_types.specs.declared.error.decode.DecodeError.{DecodeError}
use Rattle.rasn_schema.specs.declared.value.Value.{Value}
use Rattle.rasn_dynamic.specs.declared.walk.Refused.{Refused}
use Rattle.rasn_schema.specs.Trees.{tree_of}

-- A call that reads. If values are kept, what it returns is the value of what is read.
abbrev pub Making : {T D : Type 0} → Bool → (T → D) → Call D → Call T
Making {T} {D} keep view read old (Ok v) new = (d : D) × (keep ≡ true → view v ≡ d) × read old (Ok d) new
Making {T} {D} keep view read old (Err e) new = read old (Err e) new

-- The same of a call that counts.
abbrev pub Counting : {T D : Type 0} → Bool → (T → D) → (ℕ → D → Type 0) → Call D → State → Result T DecodeError → State → ℕ → Type 0
Counting {T} {D} keep view counts read old (Ok v) new n = (d : D) × (keep ≡ true → view v ≡ d) × counts n d × read old (Ok d) new
Counting {T} {D} keep view counts read old (Err e) new n = read old (Err e) new

-- What a call returns that leaves its value in one place and its error in another.
abbrev pub outcome : {S T : Type 0} → Result S Refused → T → DecodeError → Result T DecodeError
outcome (Ok done) v e = Ok v
outcome (Err r) v e = Err e

-- The same of a call that leaves only its error elsewhere.
abbrev pub reported : {T E : Type 0} → Result T Refused → E → Result T E
reported (Ok v) e = Ok v
reported (Err r) e = Err e

-- the trees of values
abbrev pub trees_of : Vec Value Global → List Tree
trees_of vs = map tree_of vs.items

abbrev pub these : List Tree → List Tree
these ts = ts

abbrev pub IsLength : ℕ → List Tree → Type 0
IsLength n ts = n ≡ length ts
