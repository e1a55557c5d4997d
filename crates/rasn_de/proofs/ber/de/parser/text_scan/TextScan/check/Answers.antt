use Rattle.std.proofs.Common.{inl, refl}
use Rattle.rasn_de.proofs.Strings.SeenText.{not_text, text_checked}
use Rattle.rasn_de.proofs.ber.de.parser.text_scan.TextScan.check.Goals as goal

pub returns-in_default : goal.returns-in_default
returns-in_default c seen b h = inl ((λ ns m. not_text c.args.self.now.count c.args.self.now.held seen c.in_default.not-Nothing h m.0), refl)

pub returns-in-Nothing : goal.returns-in-Nothing
returns-in-Nothing c seen b h = text_checked c.args.constraints.now c.args.self.now.count c.args.self.now.held c.in-Nothing.is seen b h c.check_size.result c.check_size.ensures
