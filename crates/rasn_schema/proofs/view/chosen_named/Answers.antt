use Rattle.std.proofs.Common.{refl, sym}
use Rattle.rasn_schema.proofs.Parts.{not_none, other_alternative}
use Rattle.rasn_schema.proofs.view.chosen_named.Goals as goal

pub returns-in_err-alternative : goal.returns-in_err-alternative
returns-in_err-alternative c = rw (c.from_residual.ensures, c.in-Chosen.is) (λ id part p. not_none p.0.0 _ c.in_err-alternative.ensures p.0.1)

pub returns-then-has_name : goal.returns-then-has_name
returns-then-has_name c = rw c.in-Chosen.is ((c.in_ok-alternative.alternative.now, c.in_ok-alternative.ensures, c.if-has_name.ensures, refl), sym c.deref.ensures)

pub returns-else-has_name : goal.returns-else-has_name
returns-else-has_name c = rw c.in-Chosen.is (λ id part p. other_alternative c.args.alternatives.now c.args.name.now c.in-Chosen.index c.in_ok-alternative.alternative.now c.in_ok-alternative.ensures c.if-has_name.ensures id p.0)
