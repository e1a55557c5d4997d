use Rattle.std.proofs.Common.{sym, arith}
use Rattle.std.proofs.lemmas.List.{length-take-le, take_all}
use Rattle.rasn_lint.proofs.header.length_octets.Goals as goal

pub slice_bounds-result-end : goal.slice_bounds-result-end
slice_bounds-result-end c = sym (length-take-le 127 c.args.octets.now (omega arith))

pub returns-then-octets-le127 : goal.returns-then-octets-le127
returns-then-octets-le127 c = sym (take_all 127 c.args.octets.now (omega arith))
