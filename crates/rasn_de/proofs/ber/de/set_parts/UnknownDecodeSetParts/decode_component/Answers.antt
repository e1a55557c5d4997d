use Rattle.std.proofs.Common.{inl, map, rules}
use Rattle.rasn_de.specs.SetPartTypes.{text}
use Rattle.rasn_de.proofs.Leaves.Returns.{residual}
use Rattle.rasn_de.proofs.OwnTypes.SetPartTypes.{unknown_placed, unknown_refused, unknown_not_kept}
use Rattle.rasn_de.proofs.ber.de.set_parts.UnknownDecodeSetParts.decode_component.Goals as goal
use Rattle.rasn_de.proofs.ber.de.set_parts.UnknownDecodeSetParts.decode_component.Goals.{in-Ok, in-Err}

pub returns-in_err-value-clause-reads : goal.returns-in_err-value-clause-reads
returns-in_err-value-clause-reads c = rw (residual _ c.from_residual.ensures.1) (unknown_refused _ _ _ c.requires.next _ c.in_err-value.ensures.exact)

pub returns-in_err-value-clause-fails : goal.returns-in_err-value-clause-fails
returns-in_err-value-clause-fails c = rw (residual _ c.from_residual.ensures.1) (inl c.in_err-value.ensures.exact)

pub returns-clause-reads : goal.returns-clause-reads
returns-clause-reads c = elim c.match-push.branch [
  | in-Ok w ↦ rw w.result-is (unknown_placed _ _ _ c.requires.next c.in_ok-value.value c.in_ok-value.ensures.exact (map text c.args._names.now) _ _ (search rules))
  | in-Err w ↦ rw w.result-is (unknown_not_kept _ _ _ c.requires.next c.in_ok-value.value c.in_ok-value.ensures.exact _ w.error.ensures)
]
