use Rattle.std.proofs.Common.{Some}
use Rattle.rasn_lint.proofs.Reader.{refused_header}
use Rattle.rasn_lint.proofs.header.length_fault_after.Goals as goal

pub returns-then-is_of_length : goal.returns-then-is_of_length
returns-then-is_of_length c =
    (refused_header c.args.tag c.args.octets.now _ _ _ c.in-Err.error c.decoder_of-decoder.ensures c.sequence.ensures c.in-Err.ensures.exact, c.if-is_of_length.ensures)

pub returns-else-is_of_length : goal.returns-else-is_of_length
returns-else-is_of_length c = (
  Some c.in-Err.error,
  refused_header c.args.tag c.args.octets.now _ _ _ c.in-Err.error c.decoder_of-decoder.ensures c.sequence.ensures c.in-Err.ensures.exact,
  c.if-is_of_length.ensures,
)
