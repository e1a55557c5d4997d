use Rattle.std.proofs.Common.{◌≡◌, ◌++◌, string_bytes, encode_utf8_all}
use Rattle.std.specs.Char.Escape.{escape_unicode}
use Rattle.std.specs.Char.Iter.{escape_rest}
use Rattle.rasn_text.proofs.shown.push_escape.Given as goal

abbrev pub invariant-loop-part : goal.invariant-loop-part
invariant-loop-part l = string_bytes l.text ++ encode_utf8_all (escape_rest l.part-iterator) ≡ string_bytes l.fn.text ++ encode_utf8_all (escape_unicode l.fn.character)
