use Rattle.std.proofs.Common.{rules}
use Rattle.rasn_json.specs.Reals.{SpecialRead}
use Rattle.rasn_json.proofs.RealTexts.{special_found}
use Rattle.rasn_json.proofs.reals.text_octets.Goals.{in-text, in-INF, in-text-2, in-NaN}
use Rattle.rasn_json.proofs.reals.text_octets.Goals as goal

pub returns : goal.returns
returns c =
    let told : SpecialRead c.args.text.now c.in_ok-from_slice.field-0.items = elim c.match-text.branch [
      | in-text w ↦ search rules
      | in-INF w ↦ search rules
      | in-text-2 w ↦ search rules
      | in-NaN w ↦ search rules
    ] in
    special_found c.args.text.now c.in_ok-from_slice.field-0.items told
