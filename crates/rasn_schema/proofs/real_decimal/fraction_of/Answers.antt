use Rattle.std.proofs.Common.{inl, inr}
use Rattle.rasn_schema.proofs.RealDecimals.{fraction_made}
use Rattle.rasn_schema.proofs.real_decimal.fraction_of.Goals as goal
use Rattle.rasn_schema.proofs.real_decimal.fraction_of.Goals.{else-mark-ne46-via-then-mark-ne46+else-mark-ne44, else-mark-ne46-via-else-mark-ne46}

pub returns-clause-is : goal.returns-clause-is
returns-clause-is c =
    fraction_made c.args.text.now c.leading_digits.result.0.now c.leading_digits.result.1.now c.in-len1-up.len_at_least
    (elim c.else-mark-ne46.branch [ else-mark-ne46-via-then-mark-ne46+else-mark-ne44 w ↦ inr w.if-mark-ne44.false | else-mark-ne46-via-else-mark-ne46 w ↦ inl w.if-mark-ne46.false ]) c.leading_digits.ensures.is
