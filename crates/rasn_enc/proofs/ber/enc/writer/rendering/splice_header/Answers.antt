use Rattle.std.proofs.Common.{◌+◌, ◌-◌, ◌++◌, ◌≡◌, ◌∙◌, ap, arith, length, take, drop}
use Rattle.rasn_enc.specs.Buffer.DeferredHeaders.{deferred_octets}
use Rattle.rasn_enc.proofs.Buffer.Steps.{turned}
use Rattle.rasn_enc.proofs.ber.enc.writer.rendering.splice_header.Goals as goal

pub returns-clause-moved : goal.returns-clause-moved
returns-clause-moved c =
    let n : length c.as_slice-rest.result.now ≡ length (deferred_octets c.args.header) = ap length c.as_slice-rest.ensures in
    let o = c.requires.order in
    let w = c.requires.within in
    let r = c.requires.room in
    let place : c.args.header.at + (c.args.to - c.args.from) ≡ c.args.to - (c.args.from - c.args.header.at) = omega (arith, o, r) in
    let end : c.args.from + (c.args.to - c.args.from) ≡ c.args.to = omega (arith, r) in
    let d = c.args.to - (c.args.from - c.args.header.at) in
    let same : c.args.to - (c.args.from - c.args.header.at + length c.as_slice-rest.result.now) ≡ d - length c.as_slice-rest.result.now = omega arith in
    let put = c.write_at.ensures ∙ ap (λ x. take (d - length c.as_slice-rest.result.now) c.move_up.new.buffer ++ (x ++ drop (d - length c.as_slice-rest.result.now + length x) c.move_up.new.buffer)) c.as_slice-rest.ensures in
    rw same (turned c.args.buffer.now c.move_up.new.buffer c.write_at.new.buffer (deferred_octets c.args.header) (drop c.args.header.at (take c.args.from c.args.buffer.now)) d (length c.as_slice-rest.result.now) c.args.to (omega (arith, n, o, r)) (omega arith) (omega (arith, w)) n (rw (place, end) at c.move_up.ensures.is) put)
