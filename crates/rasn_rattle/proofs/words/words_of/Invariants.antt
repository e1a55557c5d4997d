use Rattle.std.proofs.Common.{◌≡◌, true}
use Rattle.std.specs.String.{string_bytes}
use Rattle.rasn_rattle.specs.Words.{is_word}
use Rattle.rasn_rattle.proofs.words.words_of.Given as goal

abbrev pub invariant-loop-index : goal.invariant-loop-index
invariant-loop-index l = is_word (string_bytes l.text) ≡ true
