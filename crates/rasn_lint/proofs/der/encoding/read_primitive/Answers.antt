use Rattle.rasn_lint.proofs.Frames.{no_primitive}
use Rattle.rasn_lint.proofs.der.encoding.read_primitive.Goals as goal

pub returns : goal.returns
returns c =
    no_primitive c.args.octets.now c.args.tag c.decoder_of-decoder.result c.decode_octet_string.new.self c.decoder_of-decoder.ensures c.in-Err.field-0 c.in-Err.ensures.reads c.in-Err.ensures.memory
