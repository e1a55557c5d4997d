use Rattle.std.proofs.Common.{ap}
use Rattle.rasn_de.specs.ParserViews.{extent, header}
use Rattle.rasn_de.proofs.Any.Reads.{tagged_definite, tagged_closed, tagged_unparsable, tagged_refused}
use Rattle.rasn_de.proofs.Leaves.Returns.{residual}
use Rattle.rasn_de.proofs.ber.de.parser.skipping.read_tagged.Goals as goal

pub returns-in_err-value : goal.returns-in_err-value
returns-in_err-value c =
    rw (residual _ c.from_residual.ensures.1) (tagged_refused c.args.rule c.args.tag c.args.input.now c.read_value.ensures.octets _ (rw (← c.of_rule.ensures, ← c.as_written-expected.ensures) c.in_err-value.ensures.exact))

pub returns-in-Definite : goal.returns-in-Definite
returns-in-Definite c =
    tagged_definite c.args.rule c.args.tag c.args.input.now c.read_value.ensures.octets (header (c.in_ok-value.value, c.in_ok-value.rest)) (rw (← c.of_rule.ensures, ← c.as_written-expected.ensures) c.in_ok-value.ensures.exact) c.in-Definite.contents.now (ap extent c.in-Definite.is)

pub returns-in_err-after-in-Indefinite : goal.returns-in_err-after-in-Indefinite
returns-in_err-after-in-Indefinite c =
    rw (residual _ c.from_residual-in_err-after-in-Indefinite.ensures.1) (tagged_unparsable c.args.rule c.args.tag c.args.input.now c.read_value.ensures.octets (header (c.in_ok-value.value, c.in_ok-value.rest)) (rw (← c.of_rule.ensures, ← c.as_written-expected.ensures) c.in_ok-value.ensures.exact)
    (ap extent c.in-Indefinite.is) _ c.in_err-after-in-Indefinite.ensures.exact)

pub returns-in_ok-after-in-Indefinite : goal.returns-in_ok-after-in-Indefinite
returns-in_ok-after-in-Indefinite c =
    rw c.split_at.ensures.front (tagged_closed c.args.rule c.args.tag c.args.input.now c.read_value.ensures.octets (header (c.in_ok-value.value, c.in_ok-value.rest)) (rw (← c.of_rule.ensures, ← c.as_written-expected.ensures) c.in_ok-value.ensures.exact)
    (ap extent c.in-Indefinite.is) _ c.in_ok-after-in-Indefinite.after.now c.in_ok-after-in-Indefinite.ensures.exact).0
