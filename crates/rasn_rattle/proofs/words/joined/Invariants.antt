use Rattle.std.proofs.Common.{◌≡◌, true}
use Rattle.std.specs.String.{string_bytes}
use Rattle.rasn_rattle.specs.Words.{is_name}
use Rattle.rasn_rattle.proofs.words.joined.Given as goal

abbrev pub invariant-loop-letter : goal.invariant-loop-letter
invariant-loop-letter l = is_name (string_bytes l.text) ≡ true
