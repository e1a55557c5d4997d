-- What a type that closures read says in `beyond`, from the clauses of `decode_sequence` and `decode_set`.
use Rattle.std.proofs.Common.{Result, Ok, Err}
use Rattle.std.specs.Prelude.{IfOk}
use Rattle.rasn_types.specs.declared.error.decode.DecodeError.{DecodeError}
use Rattle.rasn_de.specs.declared.ber.de.constructed.ConstructedHeader.{ConstructedHeader}
use Rattle.rasn_de.specs.State.{State, Call}
use Rattle.rasn_de.specs.Constructed.{DecodesInside}
use Rattle.rasn_de.specs.Beyond.{got, BeyondInside}

-- The value was read inside, from the clause `exact`.
pub read_inside : {D : Type 0} (read : Call D) (header : ConstructedHeader) (old : State) (r : Result D DecodeError) (new : State) → DecodesInside read header old r new → IfOk r (λ v. BeyondInside (got read) header old v)
read_inside read header old (Ok v) new (k, f) = (f.header, f.opened, f.left, f.call)
read_inside read header old (Err e) new k = tt

-- What follows from what is said of a value.
pub ok_then : {D E : Type 0} {P : D → Type 0} (Q : D → Type 0) (r : Result D E) → IfOk r P → ((v : D) → P v → Q v) → IfOk r Q
ok_then Q (Ok v) h say = say v h
ok_then Q (Err e) h say = tt
