use Rattle.std.proofs.Common.{take}
use Rattle.std.specs.List.{All}
use Rattle.rasn_c.specs.Extensions.{HasOther}
use Rattle.rasn_c.proofs.extensions.first_with.Given as goal

abbrev pub invariant-loop-extension : goal.invariant-loop-extension
invariant-loop-extension l = All (HasOther l.identifier) (take l.extension-index l.extensions)
