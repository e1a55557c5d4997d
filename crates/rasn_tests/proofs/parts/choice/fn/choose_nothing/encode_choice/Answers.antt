use Rattle.std.proofs.Common.{[], ◌∙◌}
use Rattle.rasn_types.specs.Trees.{unconstrained}
use Rattle.rasn_enc.proofs.OwnTypes.Sequence.{appended-nil}
use Rattle.rasn_tests.proofs.parts.choice.fn.choose_nothing.encode_choice.Goals as goal

pub returns-in_err-encode_bool : goal.returns-in_err-encode_bool
returns-in_err-encode_bool c = record { octets = []; tags = []; appended = c.in_err-encode_bool.ensures.err ∙ appended-nil _ }

pub returns : goal.returns
returns c =
    let put = c.in_ok-encode_bool.ensures.ok unconstrained in
    record { octets = put.octets; tags = put.tags; appended = put.appended }
