use Rattle.std.proofs.Common.{false, sym, subst}
use Rattle.rasn_types.specs.Shapes.{done}
use Rattle.rasn_types.specs.Shapes.Parts.{none}
use Rattle.rasn_enc.specs.SortedSet.{HoldsParts}
use Rattle.rasn_enc.proofs.OwnTypes.SortedSet.{no_parts}
use Rattle.rasn_enc.proofs.ber.enc.set_parts.EndEncodeSetParts.encode_components.Goals as goal

pub returns-clause-ok : goal.returns-clause-ok
returns-clause-ok c = subst (HoldsParts false none done c.args._rule) (sym c.new.ensures.items) (no_parts c.args._rule)
