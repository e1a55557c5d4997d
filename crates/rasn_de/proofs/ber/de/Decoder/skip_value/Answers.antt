use Rattle.std.proofs.Common.{refl}
use Rattle.rasn_de.proofs.Any.Reads.{skipped_at}
use Rattle.rasn_de.proofs.Leaves.Memory.{skips_plain}
use Rattle.rasn_de.proofs.ber.de.Decoder.skip_value.Goals as goal

pub returns-in-Ok-clause-exact : goal.returns-in-Ok-clause-exact
returns-in-Ok-clause-exact c = skipped_at c.args.self.now _ c.in-Ok.turns c.in-Ok.rest.now (rw (← c.self.view_is) c.in-Ok.ensures.exact) c.advance.ensures

pub returns-in-Err-clause-exact : goal.returns-in-Err-clause-exact
returns-in-Err-clause-exact c = (c.in-Err.fault, rw (← c.self.view_is) c.in-Err.ensures.exact, c.error.ensures, refl)

pub returns-in-Err-clause-memory : goal.returns-in-Err-clause-memory
returns-in-Err-clause-memory c = skips_plain c.args.self.now _ _ (returns-in-Err-clause-exact c)
