use Rattle.rasn_de.proofs.Any.Reads.{encoding_open, encoding_refused}
use Rattle.rasn_de.proofs.Leaves.Returns.{residual}
use Rattle.rasn_de.proofs.ber.de.parser.skipping.read_encoding.Goals as goal

pub returns-in_err-after : goal.returns-in_err-after
returns-in_err-after c =
    rw (residual _ c.from_residual.ensures.1) (encoding_refused c.args.rule c.args.input.now _ c.in_err-after.ensures.exact)

pub returns : goal.returns
returns c = rw c.split_at.ensures.front (encoding_open c.args.rule c.args.input.now _ c.in_ok-after.after.now c.in_ok-after.ensures.exact)
