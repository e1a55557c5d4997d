use Rattle.std.proofs.Common.{take, string_bytes}
use Rattle.rasn_text.specs.Joined.{IsAppended}
use Rattle.rasn_text.specs.Names.{IsRelativeText}
use Rattle.rasn_text.proofs.name.push_relative.Given as goal

abbrev pub invariant-loop-place : goal.invariant-loop-place
invariant-loop-place l = IsAppended (IsRelativeText (take l.place l.attributes)) (string_bytes l.fn.text) (string_bytes l.text)
