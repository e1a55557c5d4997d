-- DER reads a carried value from the octets that it writes of it.
use Rattle.std.proofs.Common.{ℕ, List, [], ◌++◌, Result, Ok, Err, ap, ◌∙◌, append-nil}
use Rattle.std.specs.Borrow.{Bor}
use Rattle.rasn_types.specs.declared.types.codec.Codec.TheVariants.{Der}
use Rattle.rasn_types.specs.declared.error.decode.DecodeError.{DecodeError}
use Rattle.rasn_types.specs.Framing.{AreOctets}
use Rattle.rasn_types.specs.Shapes.{Shape, Tree}
use Rattle.rasn_types.proofs.Encoding.SameAsItself.{one_writing}
use Rattle.rasn.specs.Headline.{Answered, AnsweredAlone, ConsumesWritten, IsAsWritten}
use Rattle.rasn.proofs.StrictDer.Carried.{strict_der}

pub consumes_written : {T : Type 0} (s : Shape) (tree : T → Tree) (input : List ℕ) → AreOctets input → (r : Result (T × Bor (List ℕ)) DecodeError)
    → Answered Der s tree input r → ConsumesWritten s tree input r
consumes_written s tree input o (Ok p) a = λ lawful c.
    let k = strict_der s lawful input o (tree p.0) p.1.now a.0 c in
    k.2 ∙ ap (λ z. z ++ p.1.now) (one_writing s Der (tree p.0) k.0 c.octets k.1 c.is)
consumes_written s tree input o (Err e) a = tt

pub as_written : {T : Type 0} (s : Shape) (tree : T → Tree) (input : List ℕ) → AreOctets input → (r : Result T DecodeError) → AnsweredAlone Der s tree input r → IsAsWritten s tree input r
as_written s tree input o (Ok v) a = λ lawful c.
    let k = strict_der s lawful input o (tree v) [] a.0 c in
    k.2 ∙ (append-nil k.0 ∙ one_writing s Der (tree v) k.0 c.octets k.1 c.is)
as_written s tree input o (Err e) a = tt
