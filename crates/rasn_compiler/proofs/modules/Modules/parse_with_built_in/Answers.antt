use Rattle.std.proofs.Common.{get_or, refl, sym, arith}
use Rattle.std.proofs.lemmas.Option.{slice_get-get_or}
use Rattle.rasn_compiler.proofs.modules.Modules.parse_with_built_in.Goals as goal

pub loop-index-preserved : goal.loop-index-preserved
loop-index-preserved c =
    let sources = c.args.sources.now in
    let index = c.loop-index.index in
    c.in_ok-read.ensures sources
    (index, get_or sources index _, sym (slice_get-get_or sources index _ (let n = c.loop-index-test.true in omega arith)), refl)
    c.loop-index.invariant
