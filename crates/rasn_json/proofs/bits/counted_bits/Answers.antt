use Rattle.std.proofs.Common.{◌≡◌, sym, ap, ◌∙◌, subst}
use Rattle.json.specs.Value.{value_view, members_view}
use Rattle.json.proofs.Trees.{view-Object}
use Rattle.rasn_json.specs.Reading.{AreNames, IsNameOfBits, names_of}
use Rattle.rasn_json.proofs.Levels.{if_ok}
use Rattle.rasn_json.proofs.MemberNames.{names_seen}
use Rattle.rasn_json.proofs.bits.counted_bits.Goals as goal

pub returns-in-Ok-size_of : goal.returns-in-Ok-size_of
returns-in-Ok-size_of c =
    let l = c.in-Object.members.items in
    let names = subst (AreNames IsNameOfBits) (sym (names_seen l)) (subst (λ x. AreNames IsNameOfBits (names_of x)) c.as_slice.ensures.value c.in_ok-check_names.ensures) in
    if_ok _ _ c.bits_in.result (λ b h. (
      members_view l,
      ap value_view c.in-Object.is ∙ view-Object c.in-Object.members,
      names,
      (value_view c.in_ok-value.value.now, value_view c.in_ok-length.length.now, c.in-Ok-size_of.len, c.in_ok-value.ensures, c.in_ok-length.ensures, c.in-Ok-size_of.ensures, (c.in-Ok.octets.items, c.in-Ok.ensures, h)),
    )) c.bits_in.ensures
