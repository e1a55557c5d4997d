-- A value under a tag and constraints that are handed in to a type that is under others already.
use Rattle.std.proofs.Common.{sym, subst, Result}
use Rattle.rasn_types.specs.Shapes.{Shape, Tree, tagged_as}
use Rattle.rasn_types.specs.Tagging.{tagged_again}
use Rattle.rasn_types.specs.declared.types.tag.Tag.{Tag}
use Rattle.rasn_types.specs.declared.types.constraints.Constraints.{Constraints}
use Rattle.rasn_types.specs.declared.error.decode.DecodeError.{DecodeError}
use Rattle.rasn_de.specs.State.{State}
use Rattle.rasn_de.specs.Decodes.{Decodes}

pub tagged_decodes : {T : Type 0} (tree : T → Tree) (t : Tag) (c : Constraints) (u : Tag) (d : Constraints) (s : Shape) (old new : State) (r : Result T DecodeError)
    → Decodes (tagged_as t c s) tree old r new → Decodes (tagged_as t c (tagged_as u d s)) tree old r new
tagged_decodes tree t c u d s old new r h = subst (λ x. Decodes x tree old r new) (sym (tagged_again t c u d s)) h
