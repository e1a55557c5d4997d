use Rattle.rasn_enc.proofs.Constructed.Any.{any_refused}
use Rattle.rasn_enc.proofs.ber.enc.any.AnyEncode.encode_with_tag_and_constraints.Goals as goal

pub returns-clause-refused : goal.returns-clause-refused
returns-clause-refused c = any_refused _ c.args.tag _ _ c.encode_any.ensures.fails
