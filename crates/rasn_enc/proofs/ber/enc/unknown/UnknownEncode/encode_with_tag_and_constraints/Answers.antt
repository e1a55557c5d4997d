use Rattle.rasn_enc.proofs.Constructed.Unknown.{unknown_fails}
use Rattle.rasn_enc.proofs.ber.enc.unknown.UnknownEncode.encode_with_tag_and_constraints.Goals as goal

pub returns-clause-refused : goal.returns-clause-refused
returns-clause-refused c = unknown_fails _ _ _ c.encode_unknown.ensures.fails
