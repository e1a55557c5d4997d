use Rattle.std.proofs.Common.{rules, FitsSigned}
use Rattle.std.specs.Int.{w128}
use Rattle.std.proofs.lemmas.Int.{to_z-of_z}
use Rattle.rasn_types.proofs.Integer.Texts.{shown_signed, shown_unsigned, shown_long}
use Rattle.rasn_types.proofs.types.integer.unbounded.IntegerDisplay.fmt.Goals as goal

pub returns-in-Some-clause-writes : goal.returns-in-Some-clause-writes
returns-in-Some-clause-writes g c =
    let fits : FitsSigned w128 c.in-Some.number = search rules in
    rw (← c.self.view_is, ← c.as_slice-octets.ensures, ← c.in-Some.ensures, shown_signed c.in-Some.number fits, ← to_z-of_z w128 c.in-Some.number fits) c.write.ensures.writes

pub returns-in-Some-unsigned_u128-clause-writes : goal.returns-in-Some-unsigned_u128-clause-writes
returns-in-Some-unsigned_u128-clause-writes g c =
    rw (← c.self.view_is, ← c.as_slice-octets.ensures, ← c.in-Some-unsigned_u128.ensures, shown_unsigned c.in-Some-unsigned_u128.number (search rules)) c.write-in-Some-unsigned_u128.ensures.writes

pub returns-in-None-clause-writes : goal.returns-in-None-clause-writes
returns-in-None-clause-writes g c =
    rw (← c.self.view_is, ← c.as_slice-octets.ensures, shown_long c.as_slice-octets.result.now (rw c.as_slice-octets.ensures c.self.invariant.0) (rw c.as_slice-octets.ensures c.self.invariant.1) c.in_default.ensures c.in-None.ensures) c.write-in-None.ensures.writes
