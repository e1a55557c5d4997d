use Rattle.rasn_lint.proofs.Contents.{unused_told}
use Rattle.rasn_lint.proofs.der.contents.is_bit_string.Goals as goal

pub returns-then-unused-lt8 : goal.returns-then-unused-lt8
returns-then-unused-lt8 c = unused_told c.args.contents.now c.in-len2-up.len_at_least c.if-unused-lt8.true
