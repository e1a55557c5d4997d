use Rattle.rasn_de.proofs.Headers.Ends.{IsEnd-frame}
use Rattle.rasn_lint.proofs.der.encoding.encoding_of.Goals as goal

pub octets_before-requires : goal.octets_before-requires
octets_before-requires c = IsEnd-frame _ c.requires
