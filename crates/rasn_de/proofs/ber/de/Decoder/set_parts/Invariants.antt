use Rattle.std.proofs.Common.{map, length}
use Rattle.rasn_de.specs.SetPartTypes.{text}
use Rattle.rasn_de.proofs.Constructed.Beyond.{Keeping}
use Rattle.rasn_de.proofs.OwnTypes.SetPartTypes.{ReadTo}
use Rattle.rasn_de.proofs.ber.de.Decoder.set_parts.Given as goal

abbrev pub invariant-loop-last : goal.invariant-loop-last
invariant-loop-last g l = record {
  read : ReadTo g.P.DecodeSetParts.extensible g.P.DecodeSetParts.parts (map text l.fn.names) l.fn.self l.self l.last l.twice (g.P.DecodeSetParts.held l.slots) (g.P.DecodeSetParts.others l.slots);
  kept : Keeping g.P.DecodeSetParts.extensible g.P.DecodeSetParts.parts g.P.DecodeSetParts.kept l.fn.self l.slots;
}

abbrev pub decreases-loop-last : goal.decreases-loop-last
decreases-loop-last g l = length l.self.rest
