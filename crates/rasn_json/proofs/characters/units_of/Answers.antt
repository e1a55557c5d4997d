use Rattle.std.specs.Str.Iter.{encode_utf16_rest, encode_utf16_pending}
use Rattle.rasn_json.proofs.Utf16.{written_more}
use Rattle.rasn_json.proofs.characters.units_of.Goals as goal

pub loop-unit-preserved : goal.loop-unit-preserved
loop-unit-preserved c =
    written_more c.args.text.now _ _ (encode_utf16_rest c.loop-unit.unit-iterator) (encode_utf16_pending c.loop-unit.unit-iterator) (encode_utf16_rest c.next.new.self) (encode_utf16_pending c.next.new.self) c.in-Some.unit
    c.loop-unit.invariant c.in-Some.ensures.steps c.in_ok-push_unit.ensures
