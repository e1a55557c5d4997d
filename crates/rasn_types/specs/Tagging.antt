-- Retagging a shape twice.
use Rattle.std.proofs.Common.{◌≡◌, refl, ap}
use Rattle.rasn_types.specs.Shapes.{Shape, leaf, any, prefix, choice, open_choice, option, seq, set, sorted_set, list, set_of, unknown, tagged_as, looked_for}
use Rattle.rasn_types.specs.declared.types.tag.Tag.{Tag}
use Rattle.rasn_types.specs.declared.types.constraints.Constraints.{Constraints}

-- Only the tag and the constraints that are passed in last have an effect.
pub tagged_again : (t : Tag) (c : Constraints) (u : Tag) (d : Constraints) (s : Shape) → tagged_as t c (tagged_as u d s) ≡ tagged_as t c s
tagged_again t c u d (leaf kind tag bounds) = refl
tagged_again t c u d (any tag) = refl
tagged_again t c u d (prefix tag s) = refl
tagged_again t c u d (choice parts) = refl
tagged_again t c u d (open_choice parts) = refl
tagged_again t c u d (option tag s) = ap (option (looked_for t)) (tagged_again t c u d s)
tagged_again t c u d (seq tag parts) = refl
tagged_again t c u d (set tag parts) = refl
tagged_again t c u d (sorted_set extensible tag parts) = refl
tagged_again t c u d (list tag s size) = refl
tagged_again t c u d (set_of tag s size) = refl
tagged_again t c u d unknown = refl
