use Rattle.std.proofs.Common.{◌≡◌, ◌<◌, ◌^◌, length, refl, ◌∙◌, arith}
use Rattle.rasn_types.specs.BitString.{significant}
use Rattle.rasn_de.proofs.Leaves.Returns.{residual}
use Rattle.rasn_de.proofs.Strings.SeenNamed.{named_counted, too_long, named_unseen, named_wide, named_passed, named_failed}
use Rattle.rasn_de.proofs.ber.de.Decoder.check_named_bits.Goals as goal

pub returns-in_err-see_segments : goal.returns-in_err-see_segments
returns-in_err-see_segments c =
    rw (residual _ c.from_residual.ensures.1) (named_unseen c.args.tag c.args.constraints.now c.args.self.now _ c.see_segments.ensures.octets _ c.in_err-see_segments.ensures.exact c.in_err-see_segments.ensures.memory)

pub returns-in_default : goal.returns-in_default
returns-in_default c =
    let t = c.in_ok-see_segments.ensures.exact in
    let n = named_counted c.args.self.now c.see_segments.new.self c.args.tag _ _ c.see_segments.new.seen.len c.see_segments.new.seen.size c.see_segments.ensures.octets c.see_segments.ensures.bounded t refl refl in
    named_wide c.args.tag c.args.constraints.now c.args.self.now _ c.see_segments.ensures.octets t.0 t.1 t.2 _ (too_long t.0 c.see_segments.new.seen.len c.see_segments.new.seen.size n.0 n.1 c.in_default.ensures) c.error.ensures

pub returns-in-Ok : goal.returns-in-Ok
returns-in-Ok c =
    let t = c.in_ok-see_segments.ensures.exact in
    let n = named_counted c.args.self.now c.see_segments.new.self c.args.tag _ _ c.see_segments.new.seen.len c.see_segments.new.seen.size c.see_segments.ensures.octets c.see_segments.ensures.bounded t refl refl in
    let k : c.in-Some.len ≡ length t.0 = c.in-Some.ensures.1 ∙ n.0 in
    let w : length t.0 < 2 ^ 64 = omega (arith, k, c.in-Some.ensures.2) in
    named_passed c.args.tag c.args.constraints.now c.args.self.now _ c.see_segments.ensures.octets t.0 t.1 t.2 w (rw (← c.codec-rules.ensures) (c.in-Ok.ensures t.0 (c.in-Some.ensures.0 ∙ n.1 w) k))

pub returns-in-Err : goal.returns-in-Err
returns-in-Err c =
    let t = c.in_ok-see_segments.ensures.exact in
    let n = named_counted c.args.self.now c.see_segments.new.self c.args.tag _ _ c.see_segments.new.seen.len c.see_segments.new.seen.size c.see_segments.ensures.octets c.see_segments.ensures.bounded t refl refl in
    let k : c.in-Some.len ≡ length t.0 = c.in-Some.ensures.1 ∙ n.0 in
    let w : length t.0 < 2 ^ 64 = omega (arith, k, c.in-Some.ensures.2) in
    named_failed c.args.tag c.args.constraints.now c.args.self.now _ c.see_segments.ensures.octets t.0 t.1 t.2 w c.in-Err.fault _ (rw (← c.codec-rules.ensures) (c.in-Err.ensures t.0 (c.in-Some.ensures.0 ∙ n.1 w) k)) c.error-in-Err.ensures
