use Rattle.std.proofs.Common.{◌≡◌, ◌++◌}
use Rattle.std.specs.Prelude.{encode_utf8_all}
use Rattle.std.specs.Str.Iter.{chars_rest}
use Rattle.rasn_json.proofs.characters.octets_of.Given as goal

abbrev pub invariant-loop-character : goal.invariant-loop-character
invariant-loop-character l = encode_utf8_all l.octets.items ++ chars_rest l.character-iterator ≡ l.text
