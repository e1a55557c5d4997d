use Rattle.rasn_de.proofs.Strings.UnusedBits.{any_of_last, shifted}
use Rattle.rasn_de.proofs.ber.de.parser.bit_string.is_any_set.Goals as goal

pub returns-in-len1-up : goal.returns-in-len1-up
returns-in-len1-up c = any_of_last c.args.unused c.args.octets.now _ c.requires c.in-len1-up.len_at_least (c.type_inv.octets _).fits (shifted c.args.unused c.requires)
