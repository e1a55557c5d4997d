use Rattle.rasn_de.proofs.OwnTypes.Parts.{no_parts}
use Rattle.rasn_de.proofs.ber.de.parts.EndDecodeParts.decode_parts.Goals as goal

pub returns-clause-reads : goal.returns-clause-reads
returns-clause-reads c = no_parts
