use Rattle.std.proofs.Common.{take}
use Rattle.std.specs.List.{AllByRecursion}
use Rattle.rasn_dynamic.specs.PathText.{IsNameOctet}
use Rattle.rasn_dynamic.proofs.path_text.name_length.Given as goal

abbrev pub invariant-loop-end : goal.invariant-loop-end
invariant-loop-end l = AllByRecursion IsNameOctet (take l.end l.octets)
