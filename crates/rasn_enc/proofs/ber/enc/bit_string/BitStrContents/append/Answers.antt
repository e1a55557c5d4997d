use Rattle.rasn_enc.proofs.Leaves.BitString.{bits_appended}
use Rattle.rasn_enc.proofs.ber.enc.bit_string.BitStrContents.append.Goals as goal

pub returns-clause-ok : goal.returns-clause-ok
returns-clause-ok c =
    bits_appended c.append_to.result c.args.self.now c.unused.result c.args.octets.now.items _ _ c.unused.ensures.few c.unused.ensures.whole c.in_ok-push.ensures.items c.append_to.ensures.ok c.append_to.ensures.octets
