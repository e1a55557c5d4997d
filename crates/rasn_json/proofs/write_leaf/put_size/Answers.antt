use Rattle.std.proofs.Common.{◌≡◌, ◌≢◌, ◌++◌, ◌∷◌, [], ℕ, List, refl, sym, ap, ◌∙◌, subst, arith, inl, inr, Option, Some, None, Result, Ok, Err, string_bytes}
use Rattle.json.specs.Print.{IsNumber}
use Rattle.json.proofs.Printed.Decimals.{IsNumber-decimal}
use Rattle.rasn_json.proofs.write_leaf.put_size.Goals as goal

pub put-requires : goal.put-requires
put-requires g c = subst IsNumber (sym c.format.ensures.text) (IsNumber-decimal c.args.size c.ranges.size.fits)
