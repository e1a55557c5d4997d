use Rattle.std.proofs.Common.{◌≡◌, ◌++◌, string_bytes, length}
use Rattle.std.specs.Prelude.{chars, IsUtf8}
use Rattle.rasn_text.specs.Escapes.{escaped, written_from}
use Rattle.rasn_text.proofs.escapes.push_escaped.Given as goal

-- What is written, and what the characters that are left add to it.
abbrev pub invariant-loop-character : goal.invariant-loop-character
invariant-loop-character l = IsUtf8 l.characters.rest.now
    × (string_bytes l.text ++ written_from l.is_first (chars l.characters.rest.now) ≡ string_bytes l.fn.text ++ escaped (chars l.value))

abbrev pub decreases-loop-character : goal.decreases-loop-character
decreases-loop-character l = length l.characters.rest.now
