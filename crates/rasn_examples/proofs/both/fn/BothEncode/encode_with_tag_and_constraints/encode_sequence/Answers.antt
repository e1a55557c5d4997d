use Rattle.std.proofs.Common.{rules}
use Rattle.rasn_enc.proofs.OwnTypes.Sequence.{part_refused, part_appended, last_part}
use Rattle.rasn_examples.proofs.both.fn.BothEncode.encode_with_tag_and_constraints.encode_sequence.Goals as goal

pub returns-in_err-encode : goal.returns-in_err-encode
returns-in_err-encode g c = record { writes = part_refused _ _ _ _ _ _ _ _ c.in_err-encode.ensures.refused c.in_err-encode.ensures.err c.from_residual.ensures.1; rules = search rules }

pub returns : goal.returns
returns g c = record { writes = part_appended _ _ _ _ _ _ _ _ c.in_ok-encode.ensures.ok (last_part _ _ _ _ _ c.encode-2.ensures.ok c.encode-2.ensures.err c.encode-2.ensures.refused); rules = search rules }
