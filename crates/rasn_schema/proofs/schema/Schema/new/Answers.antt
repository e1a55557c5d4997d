use Rattle.std.proofs.Common.{◌+◌, arith}
use Rattle.rasn_schema.proofs.Broken.{no_schema, fault_of, default_fault_of, schema_from}
use Rattle.rasn_schema.proofs.schema.Schema.new.Goals as goal

pub returns-in-Some : goal.returns-in-Some
returns-in-Some c =
    let f = fault_of c.args.types.items c.as_slice.result.now (c.len-levels.result + 1) c.as_slice.ensures.value (let n = c.len-levels.ensures in omega (arith, n)) c.in-Some.fault c.in-Some.ensures in
    record { ok = tt; names = tt; fault = f; exact = no_schema c.args.types.items c.in-Some.fault f }

pub returns-in-Some-first_other_fault : goal.returns-in-Some-first_other_fault
returns-in-Some-first_other_fault c =
    let f = fault_of c.args.types.items c.as_slice-2.result.now (c.len-levels.result + 1) c.as_slice-2.ensures.value (let n = c.len-levels.ensures in omega (arith, n)) c.in-Some-first_other_fault.fault c.in-Some-first_other_fault.ensures in
    record { ok = tt; names = tt; fault = f; exact = no_schema c.args.types.items c.in-Some-first_other_fault.fault f }

pub returns-in-Some-first_unfit_default : goal.returns-in-Some-first_unfit_default
returns-in-Some-first_unfit_default c =
    let f = default_fault_of c.args.types.items c.as_slice-3.result.now c.as_slice-3.ensures.value c.in-Some-first_unfit_default.fault c.in-Some-first_unfit_default.ensures in
    record { ok = tt; names = tt; fault = f; exact = no_schema c.args.types.items c.in-Some-first_unfit_default.fault f }

pub invariant_of-result : goal.invariant_of-result
invariant_of-result c = record {
  lawful = schema_from c.args.types.items c.as_slice.result.now c.as_slice-2.result.now c.as_slice-3.result.now (c.len-levels.result + 1) c.as_slice.ensures.value c.as_slice-2.ensures.value c.as_slice-3.ensures.value
      (let n = c.len-levels.ensures in omega (arith, n)) c.in_default.ensures c.in_default-first_other_fault.ensures c.in_default-first_unfit_default.ensures;
}
