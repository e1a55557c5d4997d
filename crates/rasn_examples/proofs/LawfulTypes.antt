-- Types whose shapes pass the tests.
use Rattle.std.proofs.Common.{◌≡◌, Bool, true, ◌&&◌, List, [], ◌∷◌, refl}
use Rattle.std.specs.List.{list_all}
use Rattle.rasn_types.specs.Shapes.{Shape}
use Rattle.rasn_types.specs.LawfulTest.{is_lawful}
use Rattle.rasn_types.proofs.Lawful.{lawful}
use Rattle.rasn_types.proofs.Time.Spellings.{both_true}
use Rattle.rasn.specs.Carries.{carries_all}
use Rattle.rasn_examples.specs.LawfulTypes.{AreLawful}

abbrev pub passes : Shape → Bool
passes s = is_lawful s && carries_all s

pub all_lawful : (shapes : List Shape) → list_all passes shapes ≡ true → AreLawful shapes
unfolding AreLawful
all_lawful [] e = tt
all_lawful (s ∷ shapes) e =
    let p = both_true (passes s) (list_all passes shapes) e in
    let q = both_true (is_lawful s) (carries_all s) p.0 in
    (lawful s q.0, q.1, all_lawful shapes p.1)
