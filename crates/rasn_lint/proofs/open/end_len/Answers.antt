use Rattle.std.proofs.Common.{Ok, subst}
use Rattle.rasn_de.specs.Any.{SkipsValue}
use Rattle.rasn_lint.proofs.Opened.{no_end, nothing_skipped}
use Rattle.rasn_lint.proofs.open.end_len.Goals as goal

pub returns-in_default : goal.returns-in_default
returns-in_default c = nothing_skipped c.args.octets.now c.reader_of-decoder.result c.skip_value.new.self c.reader_of-decoder.ensures c.in_default.field-0 c.in_default.ensures.exact

pub returns-then-steps-eq0 : goal.returns-then-steps-eq0
returns-then-steps-eq0 c = no_end c.args.octets.now c.reader_of-decoder.result c.skip_value.new.self c.reader_of-decoder.ensures
    (subst (λ n. SkipsValue c.reader_of-decoder.result (Ok n) c.skip_value.new.self) c.if-steps-eq0.true c.in-Ok.ensures.exact)
