use Rattle.std.proofs.Common.{◌∷◌}
use Rattle.rasn_types.proofs.Integer.TwosComplement.{are_octets}
use Rattle.rasn_schema.proofs.RealViews.{canonical_parts}
use Rattle.rasn_schema.proofs.real_binary.binary_view.Goals as goal

pub returns : goal.returns
returns c = canonical_parts (c.args.first ∷ c.args.after.now) c.in-Some.parts (c.ranges.first.fits, are_octets c.args.after.now c.type_inv.after) c.in-Some.ensures c.if-not-is_canonical.ensures
