use Rattle.rasn_c.proofs.Placed.{answered, held}
use Rattle.rasn_c.proofs.blocks.put_block.Goals as goal

pub returns : goal.returns
returns c =
    answered c.args.text.now c.args.index c.place_of.result c.in-Some.block.now.contents c.args.buffer.now c.put_contents.new.buffer c.put_contents.new.needed c.put_contents.result
    (held c.args.text.now c.in-Ok.found.items c.as_slice.result.now c.args.index c.in-Some.block.now c.place_of.result c.in-Ok.ensures c.as_slice.ensures.value c.in-Some.ensures.lookup.3.0 c.in-Some.ensures.lookup.1
    c.place_of.ensures.label c.place_of.ensures.length c.place_of.ensures.line) c.put_contents.ensures
