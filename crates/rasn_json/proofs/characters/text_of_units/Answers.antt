use Rattle.std.proofs.lemmas.Str.{IsUtf8-string_bytes}
use Rattle.rasn_json.proofs.Utf16.{text_more, text_end, no_text, character_taken, all_taken, units_left}
use Rattle.rasn_json.proofs.characters.text_of_units.Goals as goal

pub loop-character-preserved : goal.loop-character-preserved
loop-character-preserved c =
    let h = rw c.in-Ok.is at c.in-Some.ensures.steps in
    text_more c.args.units.now _ _ _ (units_left c.next.new.self.units) c.in-Ok.character c.loop-character.invariant c.in_ok-push-in-Ok.ensures.bytes
    (character_taken c.loop-character.character-iterator.units h.1 c.next.new.self.units h.0 c.in-Ok.character h.2 h.3)

pub returns : goal.returns
returns c = text_end c.args.units.now _ _ c.loop-character.invariant (all_taken c.loop-character.character-iterator.units c.next.new.self.units c.in-None.ensures.steps) (IsUtf8-string_bytes c.loop-character.text)

pub returns-in-Err : goal.returns-in-Err
returns-in-Err c =
    let h = rw c.in-Err.is at c.in-Some.ensures.steps in
    no_text c.args.units.now _ c.loop-character.character-iterator.units h.1 c.next.new.self.units h.0 c.loop-character.invariant (IsUtf8-string_bytes c.loop-character.text) h.2 h.3.1
