use Rattle.std.proofs.Common.{string_bytes}
use Rattle.rasn_json.proofs.Utf16.{ReadAsText, units_left}
use Rattle.rasn_json.proofs.characters.text_of_units.Given as goal

abbrev pub invariant-loop-character : goal.invariant-loop-character
invariant-loop-character l = ReadAsText l.units (string_bytes l.text) (units_left l.character-iterator.units)
