use Rattle.std.proofs.Common.{ap, ◌∙◌, length}
use Rattle.rasn_enc.proofs.Leaves.Time.{length-utc}
use Rattle.rasn_enc.proofs.ber.enc.time.UtcTimeContents.count.Goals as goal

pub returns : goal.returns
returns c = λ l w. ap length w.0 ∙ length-utc c.args.self.now
