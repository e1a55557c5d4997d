-- What DER reads of parts and alternatives.
use Rattle.std.proofs.Common.{◌≡◌, ℕ, suc, ◌+◌, ◌<◌, ◌≢◌, inl, inr, List, [], ◌++◌, Bool, sym, ap, ◌∙◌, arith}
use Rattle.rasn_types.specs.declared.types.codec.Codec.TheVariants.{Der}
use Rattle.rasn_types.specs.Framing.{AreOctets}
use Rattle.rasn_types.specs.Shapes.{Tree, chosen, absent, Shape, Parts, part, count}
use Rattle.rasn_types.specs.Shapes.Parts.{none}
use Rattle.rasn_types.specs.Readings.{ReadsChoice}
use Rattle.rasn_types.specs.Grammar.{Reads, parts_of}
use Rattle.rasn_types.specs.Bytes.{Bytes}
use Rattle.rasn_types.specs.Carried.{IsWithinLimits}

-- What is read of the shape, in octets, are those that are written of the tree, which is within limits.
abbrev pub IsTold : Shape → ℕ → Type 0
IsTold s depth = (closing : Bool) (input : List ℕ) (t : Tree) (rest b : List ℕ) → AreOctets input → Reads Der s depth closing input t rest
    → Bytes Der s t b → IsWithinLimits Der s depth t → input ≡ b ++ rest

-- No reading of the shape gives what is not there.
abbrev pub IsNeverAbsent : Shape → ℕ → Type 0
IsNeverAbsent s depth = (closing : Bool) (input : List ℕ) (t : Tree) (rest : List ℕ) → Reads Der s depth closing input t rest → t ≢ absent

pub nothing : (input rest b : List ℕ) → b ≡ [] → rest ≡ input → input ≡ b ++ rest
nothing input rest b e f = sym f ∙ ap (λ l. l ++ rest) (sym e)

-- An alternative is read as one with its own number.
pub other_read : (ps : Parts) (depth k j : ℕ) (c : Bool) (input : List ℕ) (t u : Tree) (rest : List ℕ) → j < k → t ≡ chosen j u → ReadsChoice Der k (parts_of Der ps depth c) input t rest → ⊥
unfolding Reads parts_of
other_read none depth k j c input t u rest h e m = m
other_read (part presence s ps) depth k j c input t u rest h e (inl m) = let f = m.1 in let g : j ≡ k = cc in omega arith
other_read (part presence s ps) depth k j c input t u rest h e (inr m) = other_read ps depth (suc k) j c input t u rest (omega arith) e m

-- The alternative that is read is one of the parts, and isn't the number after theirs.
read_below : (ps : Parts) (depth k : ℕ) (c : Bool) (input : List ℕ) (t : Tree) (rest : List ℕ) → ReadsChoice Der k (parts_of Der ps depth c) input t rest → (j : ℕ) × (u : Tree) × (t ≡ chosen j u) × (j < k + count ps)
unfolding Reads parts_of
read_below none depth k c input t rest h = absurd h
read_below (part presence s ps) depth k c input t rest (inl h) = (k, h.0, h.1, omega arith)
read_below (part presence s ps) depth k c input t rest (inr h) = let r = read_below ps depth (suc k) c input t rest h in (r.0, r.1, r.2, omega (arith, r.3))

pub none_read : (ps : Parts) (depth : ℕ) (c : Bool) (input : List ℕ) (t v : Tree) (rest : List ℕ) → ReadsChoice Der 0 (parts_of Der ps depth c) input t rest → t ≡ chosen (count ps) v → ⊥
none_read ps depth c input t v rest h e =
    let r = read_below ps depth 0 c input t rest h in
    let f = r.2 in
    let g : r.0 ≡ count ps = cc in
    omega (arith, r.3, g)
