use Rattle.std.proofs.Common.{true, sym, subst}
use Rattle.rasn_types.specs.Framing.{Frame, definite}
use Rattle.rasn_types.specs.Tags.{der_form}
use Rattle.rasn_lint.proofs.Frames.{constructed_found, no_constructed}
use Rattle.rasn_lint.proofs.der.encoding.read_constructed.Goals as goal

pub returns-in_default : goal.returns-in_default
returns-in_default c =
    no_constructed c.args.octets.now c.args.tag c.decoder_of-decoder.result c.decode_open.new.self c.decoder_of-decoder.ensures c.requires c.in_default.field-0 c.in_default.ensures.exact

pub returns : goal.returns
returns c =
    subst (λ r. Frame der_form c.args.octets.now c.args.tag true r (definite c.in-Ok.contents.now)) (sym c.remaining.ensures.value)
    (constructed_found c.args.octets.now c.args.tag c.decoder_of-decoder.result c.decode_open.new.self c.decoder_of-decoder.ensures c.requires c.in-Ok.contents c.in-Ok.ensures.exact)
