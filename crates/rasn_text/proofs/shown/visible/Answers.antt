use Rattle.std.proofs.Common.{string_bytes}
use Rattle.std.specs.Str.Iter.{chars_rest}
use Rattle.rasn_text.specs.Shown.{shown_by}
use Rattle.rasn_text.proofs.ShownTexts.{one_more_shown, all_shown}
use Rattle.rasn_text.proofs.shown.visible.Goals as goal

pub loop-character-preserved : goal.loop-character-preserved
loop-character-preserved c =
    one_more_shown (shown_by c.args.escaping) (string_bytes c.loop-character.shown) _ _ c.in-Some.character (chars_rest c.loop-character.character-iterator) (chars_rest c.next.new.self)
    c.loop-character.invariant.0 c.in-Some.ensures.steps.0 c.in_ok-push_by.ensures c.loop-character.invariant.1

pub returns : goal.returns
returns c = all_shown (shown_by c.args.escaping) _ _ (chars_rest c.loop-character.character-iterator) c.in-None.ensures.steps.0.0 c.loop-character.invariant.1
