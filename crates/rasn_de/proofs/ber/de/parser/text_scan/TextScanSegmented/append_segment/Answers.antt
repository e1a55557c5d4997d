use Rattle.std.proofs.Common.{refl}
use Rattle.rasn_de.proofs.Strings.SeenText.{taken}
use Rattle.rasn_de.proofs.ber.de.parser.text_scan.TextScanSegmented.append_segment.Goals as goal

pub returns-else-not-take_text-clause-exact : goal.returns-else-not-take_text-clause-exact
returns-else-not-take_text-clause-exact c =
    (c.args.octets.now, refl, λ seen h. taken c.args.octets.now c.args.self.now.count c.args.self.now.held c.take_text.new.self.count c.take_text.new.self.held c.take_text.result c.take_text.ensures c.if-not-take_text.false seen h)
