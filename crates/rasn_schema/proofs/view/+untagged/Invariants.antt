use Rattle.std.specs.Prelude.{slice_get}
use Rattle.rasn_schema.proofs.Untagged.{tags_below}
use Rattle.rasn_schema.proofs.view.+untagged.Given as goal

abbrev pub decreases-untagged : goal.decreases-untagged
decreases-untagged l = tags_below (slice_get l.schema.now.types.items l.id.0) l.id.0
