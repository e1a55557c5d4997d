use Rattle.rasn_types.specs.Calendar.{Moment}
use Rattle.rasn_types.specs.Grammar.{UtcText}
use Rattle.rasn_types.specs.Shapes.{leaf, utc_time, instant}
use Rattle.rasn_de.specs.Time.{AtAnyOffset, DecodesTime}
use Rattle.rasn_de.proofs.Strings.SeenTimes.{shape_checked}
use Rattle.rasn_de.proofs.Strings.Time.{utc_decodes}
use Rattle.rasn_de.proofs.ber.de.Decoder.check_utc_time.Goals as goal

pub returns-clause-reads : goal.returns-clause-reads
returns-clause-reads c b =
    let e = c.check_time.ensures in
    shape_checked (DecodesTime (AtAnyOffset (UtcText c.args.self.now.rule)) c.args.tag) (leaf utc_time c.args.tag b) (λ (m : Moment). instant m) c.args.self.now _
    (λ r g. utc_decodes c.args.tag c.args.self.now _ r e.octets g b) _ e.exact
