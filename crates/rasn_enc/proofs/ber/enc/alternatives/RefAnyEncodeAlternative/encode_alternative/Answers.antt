use Rattle.rasn_types.specs.Tags.{eoc}
use Rattle.rasn_enc.proofs.Constructed.Any.{any_refused}
use Rattle.rasn_enc.proofs.ber.enc.alternatives.RefAnyEncodeAlternative.encode_alternative.Goals as goal

pub returns-clause-refused : goal.returns-clause-refused
returns-clause-refused c = any_refused _ eoc _ _ c.encode_any.ensures.fails
