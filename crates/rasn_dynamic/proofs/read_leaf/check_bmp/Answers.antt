use Rattle.std.proofs.Common.{List, ℕ}
use Rattle.rasn_de.specs.Checks.{IsAnyEncoding}
use Rattle.rasn_de.specs.CharacterString.{ByUnits}
use Rattle.rasn_dynamic.proofs.LeafErrors.{borrowed_fails}
use Rattle.rasn_dynamic.proofs.read_leaf.check_bmp.Goals as goal

pub returns-in-Err-clause-fails : goal.returns-in-Err-clause-fails
returns-in-Err-clause-fails c = borrowed_fails (λ (l : List ℕ). l) IsAnyEncoding (ByUnits c.args.bounds.now.size) c.args.tag c.args.decoder.now _ _ c.in-Err.ensures.exact
