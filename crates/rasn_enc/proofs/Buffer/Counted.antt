-- A primitive value that is gathered is counted.
use Rattle.std.proofs.Common.{◌≡◌, ◌+◌, ℕ, List, length, arith, ap}
use Rattle.std.proofs.lemmas.List.{length-append}
use Rattle.rasn_types.specs.declared.types.tag.Tag.{Tag}
use Rattle.rasn_enc.specs.Buffer.Contents.{AppendsPrimitiveOctets}
use Rattle.rasn_enc.specs.Buffer.OpenValues.{AppendsCounted}

pub counted : (IsWritten : List ℕ → Type 0) (tag : Tag) (xs ys : List ℕ) (measured n : ℕ) → AppendsPrimitiveOctets IsWritten tag xs ys → n + length xs ≡ measured + length ys
    → AppendsCounted IsWritten tag measured xs ys n
counted IsWritten tag xs ys measured n p e =
    let q = ap length p.is in
    record { puts = p; total = omega (arith, e, q, length-append xs p.octets) }
