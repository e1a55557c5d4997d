use Rattle.std.proofs.Common.{refl}
use Rattle.rasn_de.proofs.Leaves.Errors.{indefinite_refused, header_refused}
use Rattle.rasn_de.proofs.Leaves.Returns.{residual}
use Rattle.rasn_de.proofs.ber.de.Decoder.contents.Goals as goal

pub returns-in_err-value-clause-exact : goal.returns-in_err-value-clause-exact
returns-in_err-value-clause-exact c =
    rw (residual _ c.from_residual.ensures.1) (header_refused c.args.tag c.args.self.now _ _ _ refl c.in_err-value.ensures.exact)

pub returns-in-Indefinite-clause-exact : goal.returns-in-Indefinite-clause-exact
returns-in-Indefinite-clause-exact c =
    let t = c.in_ok-value.ensures.exact in
    indefinite_refused c.args.tag c.args.self.now _ _ _ _ refl t.0 c.in-Indefinite.is t.1 c.error.ensures
