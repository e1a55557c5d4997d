use Rattle.std.proofs.Common.{◌≤◌, ◌<◌, ◌^◌, ◌≡◌, ℕ, length, refl, ◌∙◌, subst, arith}
use Rattle.rasn_types.specs.Shapes.{Admits}
use Rattle.rasn_de.specs.CharacterString.{IsOutOfSize}
use Rattle.rasn_de.proofs.Leaves.Returns.{residual}
use Rattle.rasn_de.proofs.Strings.SeenBits.{bits_counted, bits_unseen, bits_wide, bits_passed, bits_failed}
use Rattle.rasn_de.proofs.ber.de.Decoder.check_bit_string.Goals as goal

pub returns-in_err-see_segments : goal.returns-in_err-see_segments
returns-in_err-see_segments c =
    rw (residual _ c.from_residual.ensures.1) (bits_unseen c.args.tag c.args.constraints.now c.args.self.now _ c.see_segments.ensures.octets _ c.in_err-see_segments.ensures.exact c.in_err-see_segments.ensures.memory)

pub returns-in_default : goal.returns-in_default
returns-in_default c =
    let t = c.in_ok-see_segments.ensures.exact in
    let n = bits_counted c.args.self.now c.see_segments.new.self c.args.tag _ _ c.see_segments.ensures.octets c.see_segments.ensures.bounded t refl in
    let w : 2 ^ 64 ≤ length t.0 = omega (arith, n, c.in_default.ensures) in
    bits_wide c.args.tag c.args.constraints.now c.args.self.now _ c.see_segments.ensures.octets t.0 t.1 t.2 _ w c.error.ensures

pub returns-in-Ok : goal.returns-in-Ok
returns-in-Ok c =
    let t = c.in_ok-see_segments.ensures.exact in
    let n = bits_counted c.args.self.now c.see_segments.new.self c.args.tag _ _ c.see_segments.ensures.octets c.see_segments.ensures.bounded t refl in
    let k : c.in-Some.size ≡ length t.0 = c.in-Some.ensures.0 ∙ n in
    let w : length t.0 < 2 ^ 64 = omega (arith, k, c.in-Some.ensures.1) in
    bits_passed c.args.tag c.args.constraints.now c.args.self.now _ c.see_segments.ensures.octets t.0 t.1 t.2 w (subst (λ (m : ℕ). Admits ◌≤◌ c.args.constraints.now.size m) k c.in-Ok.ensures)

pub returns-in-Err : goal.returns-in-Err
returns-in-Err c =
    let t = c.in_ok-see_segments.ensures.exact in
    let n = bits_counted c.args.self.now c.see_segments.new.self c.args.tag _ _ c.see_segments.ensures.octets c.see_segments.ensures.bounded t refl in
    let k : c.in-Some.size ≡ length t.0 = c.in-Some.ensures.0 ∙ n in
    let w : length t.0 < 2 ^ 64 = omega (arith, k, c.in-Some.ensures.1) in
    bits_failed c.args.tag c.args.constraints.now c.args.self.now _ c.see_segments.ensures.octets t.0 t.1 t.2 c.in-Err.fault _ w (subst (λ (m : ℕ). IsOutOfSize c.args.constraints.now.size m c.in-Err.fault) k c.in-Err.ensures) c.error-in-Err.ensures
