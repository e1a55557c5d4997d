use Rattle.std.proofs.Common.{◌<◌, ◌^◌, [], length, chars, arith}
use Rattle.rasn_de.proofs.Leaves.Returns.{residual}
use Rattle.rasn_de.proofs.Strings.Checks.{by_utf8}
use Rattle.rasn_de.proofs.Strings.Seen.{check_unseen, check_passed, check_failed, octets_fit}
use Rattle.rasn_de.proofs.Strings.SeenText.{no_text}
use Rattle.rasn_de.proofs.ber.de.Decoder.check_utf8_segments.Goals as goal

pub returns-in_err-see_segments : goal.returns-in_err-see_segments
returns-in_err-see_segments c =
    rw (residual _ c.from_residual.ensures.1)
    (check_unseen (by_utf8 c.args.constraints.now) c.args.tag c.args.self.now _ c.see_segments.ensures.octets _ c.in_err-see_segments.ensures.exact c.in_err-see_segments.ensures.memory)

pub returns-in-Ok : goal.returns-in-Ok
returns-in-Ok c =
    let t = c.in_ok-see_segments.ensures.exact in
    let k = octets_fit c.args.self.now.rule c.args.self.now.depth c.args.tag c.args.self.now.rest c.see_segments.ensures.octets t.0 _ t.1 in
    let n : length t.0 < 2 ^ 64 = omega (arith, k, c.see_segments.ensures.bounded) in
    check_passed (by_utf8 c.args.constraints.now) c.args.tag c.args.self.now _ c.see_segments.ensures.octets t.0 t.1 t.2 (chars t.0) (c.in-Ok.ensures t.0 n (t.3 [] no_text))

pub returns-in-Err : goal.returns-in-Err
returns-in-Err c =
    let t = c.in_ok-see_segments.ensures.exact in
    let k = octets_fit c.args.self.now.rule c.args.self.now.depth c.args.tag c.args.self.now.rest c.see_segments.ensures.octets t.0 _ t.1 in
    let n : length t.0 < 2 ^ 64 = omega (arith, k, c.see_segments.ensures.bounded) in
    check_failed (by_utf8 c.args.constraints.now) c.args.tag c.args.self.now _ c.see_segments.ensures.octets t.0 t.1 t.2 c.in-Err.fault _ (c.in-Err.ensures t.0 n (t.3 [] no_text)) c.error.ensures
