use Rattle.std.proofs.Common.{inl, inr}
use Rattle.rasn_dynamic.proofs.entry.write_error.Goals as goal

pub returns-then-fits-clause-fails : goal.returns-then-fits-clause-fails
returns-then-fits-clause-fails c = elim (c.requires.fails c.if-fits.ensures) [
  | inl m ↦ inl m
  | inr n ↦ inr (c.if-fits.ensures, n)
]
