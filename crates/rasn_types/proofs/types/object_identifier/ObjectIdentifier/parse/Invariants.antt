use Rattle.std.proofs.Common.{length}
use denote.Text.{Utf8}
use denote.Shadow.{shadow}
use Rattle.rasn_types.proofs.Dotted.{Parsing}
use Rattle.rasn_types.proofs.types.object_identifier.ObjectIdentifier.parse.Given as goal

abbrev pub invariant-loop-front : goal.invariant-loop-front
invariant-loop-front l = shadow (Utf8 l.rest) × Parsing l.fn.text l.arcs.items l.rest

abbrev pub decreases-loop-front : goal.decreases-loop-front
decreases-loop-front l = length l.rest
