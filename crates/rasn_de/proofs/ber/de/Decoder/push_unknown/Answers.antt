use Rattle.std.proofs.Common.{inl, []}
use Rattle.rasn_de.proofs.Any.Unknown.{pushed, not_pushed}
use Rattle.rasn_de.proofs.Leaves.Returns.{residual}
use Rattle.rasn_de.proofs.ber.de.Decoder.push_unknown.Goals.{in-Ok, in-Err}
use Rattle.rasn_de.proofs.ber.de.Decoder.push_unknown.Goals as goal

pub returns-in_err-value-clause-exact : goal.returns-in_err-value-clause-exact
returns-in_err-value-clause-exact c = rw (residual _ c.from_residual.ensures.1) (inl c.in_err-value.ensures.exact)

pub returns-clause-exact : goal.returns-clause-exact
returns-clause-exact c = elim c.match-push.branch [
  | in-Ok w ↦ rw w.result-is (pushed _ _ _ _ _ c.in_ok-value.ensures.exact w.in-Ok.ensures.items)
  | in-Err w ↦ rw w.result-is (not_pushed _ _ [] [] _ _ c.in_ok-value.ensures.exact w.error.ensures)
]
