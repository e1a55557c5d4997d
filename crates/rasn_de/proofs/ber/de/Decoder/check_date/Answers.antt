use Rattle.rasn_types.specs.Calendar.{Day}
use Rattle.rasn_types.specs.Time.{DateText}
use Rattle.rasn_types.specs.Shapes.{leaf, date, on_day}
use Rattle.rasn_de.specs.Time.{DecodesTime}
use Rattle.rasn_de.proofs.Strings.SeenTimes.{shape_checked}
use Rattle.rasn_de.proofs.Strings.Time.{date_decodes}
use Rattle.rasn_de.proofs.ber.de.Decoder.check_date.Goals as goal

pub returns-clause-reads : goal.returns-clause-reads
returns-clause-reads c b =
    let e = c.check_time.ensures in
    shape_checked (DecodesTime DateText c.args.tag) (leaf date c.args.tag b) (λ (d : Day). on_day d) c.args.self.now _
    (λ r g. date_decodes c.args.tag c.args.self.now _ r e.octets g b) _ e.exact
