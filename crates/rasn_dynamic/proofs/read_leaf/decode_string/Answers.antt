use Rattle.std.specs.Cow.{cow_slice_items}
use Rattle.rasn_de.specs.CharacterString.{ByAlphabet}
use Rattle.rasn_de.specs.OctetString.{IsBorrowedIfPrimitive}
use Rattle.rasn_de.proofs.Leaves.Returns.{residual}
use Rattle.rasn_dynamic.proofs.LeafErrors.{borrowed_fails}
use Rattle.rasn_dynamic.proofs.read_leaf.decode_string.Goals as goal

pub returns-in_err-octets-clause-fails : goal.returns-in_err-octets-clause-fails
returns-in_err-octets-clause-fails c =
    rw (residual _ c.from_residual.ensures.1) (borrowed_fails cow_slice_items IsBorrowedIfPrimitive (ByAlphabet c.args.alphabet c.args.constraints.now.size) c.args.tag c.args.decoder.now _ _ c.in_err-octets.ensures.exact)
