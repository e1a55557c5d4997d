use Rattle.std.specs.Str.Iter.{encode_utf16_rest, encode_utf16_pending}
use Rattle.rasn_json.proofs.Utf16.{WrittenOf}
use Rattle.rasn_json.proofs.characters.units_of.Given as goal

abbrev pub invariant-loop-unit : goal.invariant-loop-unit
invariant-loop-unit l = WrittenOf l.text l.octets.items (encode_utf16_rest l.unit-iterator) (encode_utf16_pending l.unit-iterator)
