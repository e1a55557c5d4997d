use Rattle.std.proofs.Common.{◌≡◌, ◌++◌, ◌∷◌, ℕ, List, Some, refl, sym, ap, ◌∙◌, subst, arith}
use Rattle.std.specs.Str.Iter.{chars_rest, chars_steps}
use Rattle.rasn_json.proofs.Spelled.{one_more_octet}
use Rattle.rasn_json.proofs.characters.octets_of.Goals as goal

pub loop-character-preserved : goal.loop-character-preserved
loop-character-preserved c =
    one_more_octet c.loop-character.octets.items _ (chars_rest c.loop-character.character-iterator) (chars_rest c.next.new.self) c.args.text.now c.in-Ok.octet c.in-Some.character c.loop-character.invariant c.in-Some.ensures.steps.0 c.in-Ok-push.ensures.items (c.in-Ok.ensures.1 ∙ c.from.ensures)
