use Rattle.std.proofs.Common.{◌≡◌, ◌++◌, take}
use Rattle.std.specs.List.{filter}
use Rattle.rasn_text.specs.Pem.{is_symbol}
use Rattle.rasn_text.proofs.pem.push_symbols.Given as goal

abbrev pub invariant-loop-octet : goal.invariant-loop-octet
invariant-loop-octet l = l.symbols.items ≡ l.initial.symbols.items ++ filter is_symbol (take l.octet-index l.line)
