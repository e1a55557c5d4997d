use Rattle.std.proofs.Common.{take}
use Rattle.rasn_de.specs.ParserViews.{SeesMore}
use Rattle.rasn_de.specs.ShortText.{HoldsShort}
use Rattle.rasn_de.proofs.ber.de.parser.short_text.ShortTextSegmented.append_segment.Given as goal

abbrev pub invariant-loop-octet : goal.invariant-loop-octet
invariant-loop-octet l = SeesMore (take l.octet-index l.octets) (HoldsShort l.fn.self.octets l.fn.self.len) (HoldsShort l.self.octets l.self.len)
