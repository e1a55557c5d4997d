use Rattle.std.proofs.Common.{◌≡◌, ◌++◌, string_bytes}
use Rattle.std.specs.Prelude.{chars, IsUtf8, flat_map}
use Rattle.std.specs.Str.Iter.{chars_rest}
use Rattle.rasn_text.specs.Shown.{shown_by}
use Rattle.rasn_text.proofs.shown.visible.Given as goal

-- What is written, and what the characters that are left add to it.
abbrev pub invariant-loop-character : goal.invariant-loop-character
invariant-loop-character l = IsUtf8 (chars_rest l.character-iterator)
    × (string_bytes l.shown ++ flat_map (shown_by l.escaping) (chars (chars_rest l.character-iterator)) ≡ flat_map (shown_by l.escaping) (chars l.text))
