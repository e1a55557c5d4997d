use Rattle.std.proofs.Common.{string_bytes, length, ap, ◌∙◌}
use Rattle.std.specs.Prelude.{◌==◌}
use Rattle.std.specs.Str.Iter.{chars_rest}
use Rattle.rasn_text.proofs.Escaped.{one_more_written, all_written}
use Rattle.rasn_text.proofs.escapes.push_escaped.Goals as goal

pub loop-character-preserved : goal.loop-character-preserved
loop-character-preserved c =
    one_more_written (string_bytes c.loop-character.text) _ _ c.loop-character.is_first c.is_empty-is_last.result c.in-Some.character (chars_rest c.loop-character.characters) (chars_rest c.next.new.self)
    c.loop-character.invariant.0 c.in-Some.ensures.steps.0 (c.is_empty-is_last.ensures ∙ ap (λ l. length l == 0) c.as_str.ensures) c.in_ok-push_character.ensures c.loop-character.invariant.1

pub returns : goal.returns
returns c = all_written _ _ (chars_rest c.loop-character.characters) c.loop-character.is_first c.in_default.ensures.steps.0.0 c.loop-character.invariant.1
