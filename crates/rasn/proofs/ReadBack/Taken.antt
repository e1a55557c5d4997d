-- Where there are no unknown values, none is taken for a part.
use Rattle.std.proofs.Common.{◌≡◌, ◌||◌, ℕ, Bool, true, false, List, [], ◌∷◌, inl, inr, refl, sym, ap, ◌∙◌, true≢false}
use Rattle.rasn_types.specs.declared.types.codec.Codec.{Codec}
use Rattle.rasn_types.specs.Shapes.{Tree, Shape, seq, Parts, part}
use Rattle.rasn_types.specs.Shapes.Parts.{none}
use Rattle.rasn_types.specs.LawfulTest.{is_unknown}
use Rattle.rasn_types.specs.Carried.{BeginsUnknown, NoneTaken}

abbrev pub has_unknown : Parts → Bool
has_unknown none = false
has_unknown (part p s ps) = is_unknown s || has_unknown ps

-- The parts of a SEQUENCE.
abbrev pub parts_in : Shape → Parts
parts_in (seq tag ps) = ps
parts_in s = none

both_false : (a b : Bool) → (a || b ≡ false) → (a ≡ false) × (b ≡ false)
both_false true b e = absurd (true≢false e)
both_false false b e = (refl, e)

none_begins : (ps : Parts) (ts : List Tree) (o : List ℕ) → has_unknown ps ≡ false → BeginsUnknown ps ts o → ⊥
none_begins none ts o e h = h
none_begins (part p s ps) [] o e h = h
none_begins (part p s ps) (t ∷ ts) o e (inl (f, us, g)) = true≢false (sym (ap is_unknown f) ∙ (both_false (is_unknown s) (has_unknown ps) e).0)
none_begins (part p s ps) (t ∷ ts) o e (inr (d, h)) = none_begins ps ts o (both_false (is_unknown s) (has_unknown ps) e).1 h

pub none_taken : (rule : Codec) (ps : Parts) (ts : List Tree) → has_unknown ps ≡ false → NoneTaken rule ps ts
none_taken rule none ts e = tt
none_taken rule (part p s ps) [] e = tt
none_taken rule (part p s ps) (t ∷ ts) e =
    let b = both_false (is_unknown s) (has_unknown ps) e in ((λ d o h. absurd (none_begins ps ts o b.1 h)), none_taken rule ps ts b.1)
