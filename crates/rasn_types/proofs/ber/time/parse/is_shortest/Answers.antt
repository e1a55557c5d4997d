use Rattle.rasn_types.proofs.Time.ShortestTexts.{last_told}
use Rattle.rasn_types.proofs.ber.time.parse.is_shortest.Goals as goal

pub returns-then-text-le25 : goal.returns-then-text-le25
returns-then-text-le25 c = λ t d. last_told c.args.text.now t d c.if-text-eq15.false c.if-text-le25.true
