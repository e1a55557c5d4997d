use Rattle.std.proofs.Common.{subst}
use Rattle.rasn_json.specs.Refusals.{IsRefusedAt, OrMemory}
use Rattle.rasn_json.proofs.Refused.{refused_json}
use Rattle.rasn_json.proofs.entry.put_whole.Goals as goal

pub returns-in-Err-clause-err : goal.returns-in-Err-clause-err
returns-in-Err-clause-err g c =
    let e = c.put_at.new.error in
    refused_json c.args.schema.now.types.items 18446744073709551615 512 c.args.id.0 c.args.value.now e
    (subst (λ ts. OrMemory (IsRefusedAt ts 18446744073709551615 512 c.args.id.0 c.args.value.now) e) c.types.ensures.types c.in-Err.ensures.err)
