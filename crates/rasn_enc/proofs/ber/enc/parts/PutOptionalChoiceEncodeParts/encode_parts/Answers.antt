use Rattle.rasn_types.specs.Shapes.{first_tags}
use Rattle.rasn_enc.proofs.Constructed.ValueErrors.{later_errors}
use Rattle.rasn_enc.proofs.OwnTypes.Sequence.{part_refused, part_appended, optional_encoded, optional_refused}
use Rattle.rasn_enc.proofs.ber.enc.parts.PutOptionalChoiceEncodeParts.encode_parts.Goals as goal

pub returns-in_err-encode-clause-writes : goal.returns-in_err-encode-clause-writes
returns-in_err-encode-clause-writes g c = part_refused _ _ _ _ _ _ _ _ (optional_refused _ _ _ _ c.in_err-encode.ensures.refused) c.in_err-encode.ensures.err c.from_residual.ensures.1

pub returns-clause-writes : goal.returns-clause-writes
returns-clause-writes g c = part_appended _ _ _ _ _ _ _ _ (optional_encoded _ _ _ _ c.in_ok-encode.ensures.ok) c.encode_parts.ensures.writes

pub returns-clause-errors : goal.returns-clause-errors
returns-clause-errors g c = later_errors _ _ _ _ _ _ (g.R.EncodeParts.errors c.args.self.1) _ (optional_encoded {key = first_tags} _ _ _ _ c.in_ok-encode.ensures.ok) c.encode_parts.ensures.errors
