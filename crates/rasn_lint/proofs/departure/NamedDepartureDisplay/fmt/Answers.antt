use Rattle.std.specs.Prelude.{codes}
use Rattle.rasn_lint.specs.Shown.{shown_place, rule_text}
use Rattle.rasn_lint.proofs.Shown.{shown_then}
use Rattle.rasn_lint.proofs.departure.NamedDepartureDisplay.fmt.Goals as goal

pub returns-clause-writes : goal.returns-clause-writes
returns-clause-writes g c =
    let place = c.args.self.now.place in
    shown_then g.W.Write.write_str_gives c.args.f.now c.write.new.self c.write_rule.new.f (shown_place place) (codes " ") (rule_text place.departure.now) c.in_ok-write.field-0 c.write_rule.result c.in_ok-write.ensures.writes c.write_rule.ensures
