use Rattle.std.proofs.Common.{◌≡◌, ◌++◌, take, string_bytes}
use Rattle.rasn_text.specs.Escapes.{octets_text}
use Rattle.rasn_text.proofs.escapes.push_octets.Given as goal

abbrev pub invariant-loop-octet : goal.invariant-loop-octet
invariant-loop-octet l = string_bytes l.text ≡ string_bytes l.fn.text ++ octets_text (take l.octet-index l.octets)
