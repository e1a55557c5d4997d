-- Texts that are written one after the other.
use Rattle.std.proofs.Common.{◌++◌, List, ℕ, Option, Some, None, Result, Ok, refl, append_assoc}
use Rattle.std.proofs.lemmas.Grind.{put_two}
use Rattle.std.specs.Fmt.{WritesOnOk, DisplaysOnOk, ◌++?◌}
use Rattle.std.specs.declared.fmt.Error.{Error}
use Rattle.std.specs.declared.fmt.Formatter.{Formatter}

-- A text after what is shown.
pub shown_then : {W : Type 0} (took : W → List ℕ → W → Type 0) (f g h : Formatter W) (o : Option (List ℕ)) (a b : List ℕ) (u : Unit {0}) (r : Result (Unit {0}) Error) → DisplaysOnOk took f (Ok u) (o ++? Some a) g → WritesOnOk took g r b h
    → DisplaysOnOk took f r (o ++? Some a ++? Some b) h
shown_then took f g h None a b u r w k = tt
shown_then took f g h (Some x) a b u r w k = λ plain ok. let y = w plain refl in put_two took f g h (x ++ a) b (x ++ (a ++ b)) y (k y.plain ok) (append_assoc x a b)
