use Rattle.std.proofs.Common.{◌≡◌, ℕ, ◌%◌, ◌/◌, length, refl, sym, inl, ap, ◌∙◌, subst}
use Rattle.rasn_types.proofs.CharacterString.Texts.{units_only}
use Rattle.rasn_de.specs.CharacterString.{IsWithinSize}
use Rattle.rasn_de.proofs.Strings.Checks.{units_checked}
use Rattle.rasn_de.proofs.ber.de.character_string.check_units.Goals as goal

pub returns-then-len-ne0 : goal.returns-then-len-ne0
returns-then-len-ne0 c l e = inl ((λ ns h. c.if-len-ne0.true (ap (λ (n : ℕ). n % 2) e ∙ (units_only l ns h).0)), refl)

pub returns : goal.returns
returns c l e =
    units_checked c.args.constraints.now l c.check_size.result (ap (λ (n : ℕ). n % 2) (sym e) ∙ c.if-len-ne0.false) (subst (λ (n : ℕ). IsWithinSize c.args.constraints.now (n / 2) c.check_size.result) e c.check_size.ensures)
