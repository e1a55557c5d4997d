use Rattle.std.proofs.Common.{arith}
use Rattle.std.proofs.lemmas.List.{length-map}
use Rattle.rasn_text.proofs.PemBlocks.{all_found, found_at, line_and_rest}
use Rattle.rasn_text.proofs.pem.blocks_in.Goals as goal

pub loop-place-preserved : goal.loop-place-preserved
loop-place-preserved c =
    found_at c.args.lines.now c.in_ok-block.more.now c.loop-place.place _ _ _ c.push_block.new.blocks.items c.in_ok-block.block
    (omega arith) (line_and_rest c.args.lines.now c.loop-place.place _ (omega arith)) c.loop-place.invariant.1 c.in_ok-block.ensures.block c.in_ok-push_block.ensures

pub returns : goal.returns
returns c = all_found _ _ c.loop-place.place _ (omega (arith, length-map c.args.lines.now (λ x. x.now))) c.loop-place.invariant.1
