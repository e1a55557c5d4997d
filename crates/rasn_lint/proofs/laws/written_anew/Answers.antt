use Rattle.rasn_lint.proofs.Anew.{normal_is_clean, clean_if_formed, closed_is_clean, clean_is_normal}
use Rattle.rasn_lint.proofs.laws.written_anew.Goals as goal

pub returns-clause-clean : goal.returns-clause-clean
returns-clause-clean c = normal_is_clean

pub returns-clause-formed : goal.returns-clause-formed
returns-clause-formed c = clean_if_formed

pub returns-clause-closed : goal.returns-clause-closed
returns-clause-closed c = closed_is_clean

pub returns-clause-unchanged : goal.returns-clause-unchanged
returns-clause-unchanged c = clean_is_normal
