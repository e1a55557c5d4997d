use Rattle.rasn_types.specs.Calendar.{Stamp}
use Rattle.rasn_types.specs.Grammar.{GeneralizedText}
use Rattle.rasn_types.specs.Shapes.{leaf, generalized_time, instant}
use Rattle.rasn_de.specs.Time.{DecodesTime}
use Rattle.rasn_de.proofs.Strings.SeenTimes.{shape_checked}
use Rattle.rasn_de.proofs.Strings.Time.{generalized_decodes}
use Rattle.rasn_de.proofs.ber.de.Decoder.check_generalized_time.Goals as goal

pub returns-clause-reads : goal.returns-clause-reads
returns-clause-reads c b =
    let e = c.check_time.ensures in
    shape_checked (DecodesTime (GeneralizedText c.args.self.now.rule) c.args.tag) (leaf generalized_time c.args.tag b) (λ (s : Stamp). instant s.moment) c.args.self.now _
    (λ r g. generalized_decodes c.args.tag c.args.self.now _ r e.octets g b) _ e.exact
