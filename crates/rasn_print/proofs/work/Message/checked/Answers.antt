use Rattle.std.proofs.Common.{None, subst}
use Rattle.rasn_types.specs.Errors.{IsOutOfMemory}
use Rattle.rasn_types.specs.Truth.{IsWhether}
use Rattle.rasn_lint.specs.Lint.{IsFirstDeparture}
use Rattle.rasn_lint.proofs.Clean.{if_then}
use Rattle.rasn_print.specs.Verdicts.{opens_of}
use Rattle.rasn_print.proofs.Verdicts.{found, refuses}
use Rattle.rasn_print.proofs.work.Message.checked.Goals as goal

pub returns-in-Ok : goal.returns-in-Ok
returns-in-Ok c =
    let m = c.args.self.now.wanted.now in
    subst (λ z. IsFirstDeparture z m.schema.now.types.items m.root.0 c.args.self.now.octets.now None) c.open_types.ensures c.in-Ok.ensures

pub returns-in-Err-2 : goal.returns-in-Err-2
returns-in-Err-2 c =
    let m = c.args.self.now.wanted.now in
    let opens = opens_of m.holds_open c.args.self.now.context.now.call.now.open_types in
    let not = subst (λ b. IsWhether b (IsOutOfMemory c.in-Err.departure.refusal.error.kind)) c.if-is_out_of_memory.false c.is_out_of_memory.ensures in
    let at = found c.open_types.result opens m c.args.self.now.octets.now c.in-Err.departure c.open_types.ensures not c.in-Err.ensures in
    if_then c.departed.result (refuses opens m c.args.self.now.octets.now at) c.departed.ensures
