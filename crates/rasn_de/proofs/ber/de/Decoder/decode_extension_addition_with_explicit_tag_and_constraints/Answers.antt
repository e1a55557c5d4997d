use Rattle.rasn_de.proofs.Leaves.Returns.{residual}
use Rattle.rasn_de.proofs.ber.de.Decoder.decode_extension_addition_with_explicit_tag_and_constraints.Goals as goal

pub returns-in_err-value-clause-exact : goal.returns-in_err-value-clause-exact
returns-in_err-value-clause-exact g c = rw (residual _ c.from_residual.ensures.1) c.in_err-value.ensures.exact
