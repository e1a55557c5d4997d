use Rattle.std.proofs.Common.{◌≡◌, refl, arith}
use Rattle.rasn_types.specs.Truth.{IsWhether}
use Rattle.rasn_schema.proofs.Lists.{read_at}
use Rattle.rasn_json.specs.Reading.{IsNameOfBits}
use Rattle.rasn_json.proofs.MemberNames.{one_new, all_new}
use Rattle.rasn_json.proofs.bits.check_names.Goals as goal

pub loop-position-preserved : goal.loop-position-preserved
loop-position-preserved c =
    let ms = c.args.members.now in
    let i = c.loop-position.position in
    let m = c.index-members-position.result in
    one_new IsNameOfBits ms _ i m c.loop-position.invariant (read_at ms i m (omega arith) c.index-members-position.is) (rw c.in_ok-check_member.ensures.known at c.is_name_of_bits-is_known.ensures) refl c.in_ok-check_member.ensures.first

pub returns : goal.returns
returns c = all_new IsNameOfBits c.args.members.now c.loop-position.position (omega arith) c.loop-position.invariant
