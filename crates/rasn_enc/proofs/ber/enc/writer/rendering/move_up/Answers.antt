use Rattle.std.proofs.Common.{◌≡◌, length, arith}
use Rattle.rasn_enc.specs.Buffer.Moves.{Moves}
use Rattle.rasn_enc.proofs.Buffer.Moves.{moves-then, moves-paste}
use Rattle.rasn_enc.proofs.ber.enc.writer.rendering.move_up.Goals as goal

pub returns : goal.returns
returns c =
    let a = c.move_blocks-left in
    let b = c.move_blocks-left-2 in
    let l : length a.new.buffer ≡ length c.args.buffer.now = a.auto.buffer in
    let rest : Moves b.new.buffer c.copy_within.new.self c.args.at b.result c.args.by = rw (c.copy_within.ensures.after) (moves-paste b.new.buffer c.args.at b.result c.args.by b.ensures.left.0) in
    let both : Moves a.new.buffer c.copy_within.new.self c.args.at a.result c.args.by =
    moves-then _ _ _ c.args.at b.result a.result c.args.by b.ensures.left.0 b.ensures.left.1 (omega (arith, l, a.ensures.left.1, c.requires.within)) b.ensures.moved rest in
    moves-then _ _ _ c.args.at a.result c.args.end c.args.by a.ensures.left.0 a.ensures.left.1 c.requires.within a.ensures.moved both
