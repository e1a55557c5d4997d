use Rattle.rasn_text.proofs.PemContents.{first_rest, goes_on, not_dashes}
use Rattle.rasn_text.proofs.pem.contents_of.Goals as goal

pub loop-rest-preserved : goal.loop-rest-preserved
loop-rest-preserved c =
    goes_on c.args.lines.now c.loop-rest.rest.now _ _ c.loop-rest.symbols.items c.push_symbols.new.symbols.items (first_rest c.loop-rest.rest.now _ c.in-len1-up.len_at_least)
    (not_dashes _ _ c.starts_with.ensures.value c.if-starts_with.false) c.in_ok-push_symbols.ensures c.loop-rest.invariant
