use Rattle.rasn_de.proofs.OwnTypes.Parts.{in_parts}
use Rattle.rasn_de.proofs.ber.de.fn.Decoder.read_sequence.inside.Goals as goal

pub returns : goal.returns
returns g c = record {
  exact = in_parts _ _ g.P.DecodeParts.errors _ _ _ c.decode_parts.ensures.reads c.decode_parts.ensures.fails c.decode_parts.ensures.errors;
  reads = c.decode_parts.ensures.reads;
  rules = c.decode_parts.ensures.rules;
  beyond = c.decode_parts.ensures.beyond;
}
