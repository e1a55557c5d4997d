use Rattle.std.proofs.Common.{refl}
use Rattle.rasn_types.specs.CharacterString.{units_of}
use Rattle.rasn_de.proofs.Leaves.Returns.{residual}
use Rattle.rasn_de.proofs.Strings.Checks.{by_units}
use Rattle.rasn_de.proofs.Strings.Seen.{check_unseen, check_passed, check_failed, octets_counted}
use Rattle.rasn_de.proofs.ber.de.Decoder.check_bmp_string.Goals as goal

pub returns-in_err-see_segments : goal.returns-in_err-see_segments
returns-in_err-see_segments c =
    rw (residual _ c.from_residual.ensures.1)
    (check_unseen (by_units c.args.constraints.now) c.args.tag c.args.self.now _ c.see_segments.ensures.octets _ c.in_err-see_segments.ensures.exact c.in_err-see_segments.ensures.memory)

pub returns-in-Ok : goal.returns-in-Ok
returns-in-Ok c =
    let t = c.in_ok-see_segments.ensures.exact in
    let n = octets_counted c.args.self.now c.see_segments.new.self c.args.tag _ _ c.see_segments.ensures.octets c.see_segments.ensures.bounded t refl in
    check_passed (by_units c.args.constraints.now) c.args.tag c.args.self.now _ c.see_segments.ensures.octets t.0 t.1 t.2 (units_of t.0) (c.in-Ok.ensures t.0 n)

pub returns-in-Err : goal.returns-in-Err
returns-in-Err c =
    let t = c.in_ok-see_segments.ensures.exact in
    let n = octets_counted c.args.self.now c.see_segments.new.self c.args.tag _ _ c.see_segments.ensures.octets c.see_segments.ensures.bounded t refl in
    check_failed (by_units c.args.constraints.now) c.args.tag c.args.self.now _ c.see_segments.ensures.octets t.0 t.1 t.2 c.in-Err.fault _ (c.in-Err.ensures t.0 n) c.error.ensures
