use Rattle.std.proofs.Common.{◌≤◌, ℕ, refl, subst}
use Rattle.rasn_types.specs.Shapes.{Admits}
use Rattle.rasn_de.specs.CharacterString.{IsOutOfSize}
use Rattle.rasn_de.proofs.Leaves.Returns.{residual}
use Rattle.rasn_de.proofs.Strings.Checks.{by_size}
use Rattle.rasn_de.proofs.Strings.Seen.{check_unseen, check_passed, check_failed, octets_counted}
use Rattle.rasn_de.proofs.ber.de.Decoder.check_octet_string.Goals as goal

pub returns-in_err-see_segments : goal.returns-in_err-see_segments
returns-in_err-see_segments c =
    rw (residual _ c.from_residual.ensures.1)
    (check_unseen (by_size c.args.constraints.now) c.args.tag c.args.self.now _ c.see_segments.ensures.octets _ c.in_err-see_segments.ensures.exact c.in_err-see_segments.ensures.memory)

pub returns-in-Ok : goal.returns-in-Ok
returns-in-Ok c =
    let t = c.in_ok-see_segments.ensures.exact in
    let n = octets_counted c.args.self.now c.see_segments.new.self c.args.tag _ _ c.see_segments.ensures.octets c.see_segments.ensures.bounded t refl in
    check_passed (by_size c.args.constraints.now) c.args.tag c.args.self.now _ c.see_segments.ensures.octets t.0 t.1 t.2 t.0 (refl, subst (λ (k : ℕ). Admits ◌≤◌ c.args.constraints.now.size k) n c.in-Ok.ensures)

pub returns-in-Err : goal.returns-in-Err
returns-in-Err c =
    let t = c.in_ok-see_segments.ensures.exact in
    let n = octets_counted c.args.self.now c.see_segments.new.self c.args.tag _ _ c.see_segments.ensures.octets c.see_segments.ensures.bounded t refl in
    check_failed (by_size c.args.constraints.now) c.args.tag c.args.self.now _ c.see_segments.ensures.octets t.0 t.1 t.2 c.in-Err.fault _ (subst (λ (k : ℕ). IsOutOfSize c.args.constraints.now.size k c.in-Err.fault) n c.in-Err.ensures) c.error.ensures
