use Rattle.rasn_c.specs.Finding.{IsNoPath}
use Rattle.rasn_c.specs.declared.status.Status.TheVariants.{UnknownPath}
use Rattle.rasn_c.proofs.Ends.{by_status}
use Rattle.rasn_c.proofs.Found.{no_part}
use Rattle.rasn_c.proofs.finding.indices_of.Goals as goal

pub returns-in-Ok-None-path_named : goal.returns-in-Ok-None-path_named
returns-in-Ok-None-path_named c =
    let schema = c.args.asked.now.schema in
    let root = c.args.asked.now.root in
    let path = c.args.path.now in
    let of_text = rw c.in-Ok-Some.field-0-is at c.in-Ok-Some.ensures in
    let missing = rw c.in-Ok-None-path_named.field-0-is at c.in-Ok-None-path_named.ensures in
    by_status (IsNoPath schema root path) c.stop_of-in-Ok-None-path_named.result UnknownPath c.stop_of-in-Ok-None-path_named.ensures (no_part schema root path c.in-Ok.text.now c.in-Ok-Some.steps.items c.as_slice.result.now c.in-Ok.ensures.cases.0 of_text c.as_slice.ensures.value missing) tt
