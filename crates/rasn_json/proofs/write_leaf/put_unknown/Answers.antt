use Rattle.std.proofs.Common.{length, ap, arith}
use Rattle.rasn_schema.proofs.Lists.{split, nothing_left}
use Rattle.rasn_json.specs.Json.{OpenJson}
use Rattle.rasn_json.specs.Refusals.{HasOpen, IsRefusedOpen}
use Rattle.rasn_json.proofs.Appended.{on_ok, array_more, array_end}
use Rattle.rasn_json.proofs.Refused.{element_written, element_refused, has_json}
use Rattle.rasn_json.proofs.write_leaf.put_unknown.Goals as goal

pub loop-left-preserved : goal.loop-left-preserved
loop-left-preserved g c =
    let at = split c.loop-left.left.now _ c.in-len1-up.len_at_least c.value-item.is in (
      omega (arith, c.loop-left.invariant.0, ap length at),
      array_more OpenJson _ _ _ c.value-item.result _ _ _ c.loop-left.invariant.1 at c.in-Ok.ensures.ok,
      element_written HasOpen IsRefusedOpen _ _ _ _ _ c.loop-left.invariant.2 at (has_json (OpenJson c.value-item.result) _ _ c.in-Ok.ensures.ok),
    )

pub returns-clause-ok : goal.returns-clause-ok
returns-clause-ok g c = on_ok c.put-2.result _ _ (array_end OpenJson _ _ _ _ _ c.loop-left.invariant.1 (nothing_left _ c.in_default.len_below)) c.put-2.ensures.ok

pub returns-in-Err-clause-err : goal.returns-in-Err-clause-err
returns-in-Err-clause-err g c =
    let at = split c.loop-left.left.now _ c.in-len1-up.len_at_least c.value-item.is in
    element_refused HasOpen IsRefusedOpen _ _ _ _ _ c.loop-left.invariant.2 at c.in-Err.error _ c.in-Err.ensures.err c.in_element.ensures
