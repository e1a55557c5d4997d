use Rattle.std.proofs.Common.{[]}
use Rattle.rasn_enc.proofs.OwnTypes.Sequence.{appended-nil}
use Rattle.rasn_tests.proofs.set.outputs.fn.an_empty_scope_has_no_octets_by_der.encode_scope.Goals as goal

pub returns : goal.returns
returns c = record { octets = []; tags = []; appended = appended-nil _ }
