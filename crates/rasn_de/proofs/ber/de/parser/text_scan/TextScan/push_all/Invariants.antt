use Rattle.std.proofs.Common.{take}
use Rattle.rasn_de.specs.ParserViews.{SeesMore}
use Rattle.rasn_de.specs.TextScan.{ScansText}
use Rattle.rasn_de.proofs.ber.de.parser.text_scan.TextScan.push_all.Given as goal

abbrev pub invariant-loop-octet : goal.invariant-loop-octet
invariant-loop-octet l = SeesMore (take l.octet-index l.octets) (ScansText l.fn.self.count l.fn.self.held) (ScansText l.self.count l.self.held)
