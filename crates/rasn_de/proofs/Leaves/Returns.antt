-- What a function returns.
use Rattle.std.proofs.Common.{◌≡◌, Result, Err, ap, ◌∙◌}
use Rattle.std.specs.Prelude.{IsErrAnd}
use Rattle.std.proofs.lemmas.Result.{err_from_is_err_and}

-- `?` returns the error that it met.
pub residual : {T E : Type 0} {e : E} (r : Result T E) → IsErrAnd r (λ y. y ≡ e) → r ≡ Err e
residual r h = let p = err_from_is_err_and r h in p.1 ∙ ap Err p.2

-- Where the clause `reads` follows from the exact one, both hold.
pub with_reads : {A B : Type 0} → (B → A) → B → record { reads : A; exact : B }
with_reads f b = record { reads = f b; exact = b }

-- The same where the rules of errors follow from it too.
pub with_rules : {A B C : Type 0} → (B → A) → (B → C) → B → record { reads : A; exact : B; rules : C }
with_rules f h b = record { reads = f b; exact = b; rules = h b }

-- Where it follows from `called`, both hold.
pub also_reads : {A B : Type 0} → (B → A) → B → record { exact : B; reads : A }
also_reads f b = record { exact = b; reads = f b }

-- The same of a call whose `shaped` says of a value's shape what `exact` says of the calls that read it.
pub also_shaped : {A B C D E : Type 0} → (B → A) → D → E → C → B → record { exact : D; shaped : B; reads : A; beyond : E; rules : C }
also_shaped f d e c b = record { exact = d; shaped = b; reads = f b; beyond = e; rules = c }

-- The same of a call whose `beyond` says what a value holds beyond its tree.
pub also_beyond : {A B C D : Type 0} → (B → A) → D → C → B → record { exact : B; reads : A; beyond : D; rules : C }
also_beyond f d c b = record { exact = b; reads = f b; beyond = d; rules = c }
