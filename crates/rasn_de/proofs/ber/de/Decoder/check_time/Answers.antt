use Rattle.std.proofs.Common.{Err, subst}
use Rattle.rasn_de.specs.State.{State}
use Rattle.rasn_de.specs.Time.{DecodesTime}
use Rattle.rasn_de.proofs.Strings.SeenTimes.{short_time_none}
use Rattle.rasn_de.proofs.ber.de.Decoder.check_time.Goals as goal

pub returns-clause-exact : goal.returns-clause-exact
returns-clause-exact g c =
    let P : State → Type 0 = λ s. DecodesTime (g.T.TimeText.means s.rule) c.args.tag s (Err c.in-Err.error) c.read.new.input in
    subst P c.if-take_time.ensures.exact.0 c.in-Err.ensures.exact

pub returns-clause-memory : goal.returns-clause-memory
returns-clause-memory g c =
    short_time_none g.T.TimeText.means c.args.tag c.args.self.now _ _ c.in-Err.error c.if-take_time.ensures.exact c.in-Err.ensures.exact
