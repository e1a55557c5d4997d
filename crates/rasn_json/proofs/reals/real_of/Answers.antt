use Rattle.std.proofs.Common.{sym, ap, ◌∙◌, subst}
use Rattle.std.specs.Prelude.{IfOk, IfSome}
use Rattle.json.specs.Value.{value_view}
use Rattle.rasn_json.specs.Reals.{IsFoundReal}
use Rattle.rasn_json.proofs.Levels.{handed}
use Rattle.rasn_json.proofs.RealTexts.{view_string}
use Rattle.rasn_json.proofs.reals.real_of.Goals.{in-Number, in-String, in-Object}
use Rattle.rasn_json.proofs.reals.real_of.Goals as goal

pub returns-in-Some-clause-reads : goal.returns-in-Some-clause-reads
returns-in-Some-clause-reads c =
    let j = value_view c.args.json.now in
    let told : IfOk c.match-json.octets (λ found. IfSome found (λ v. IsFoundReal j v.items)) = elim c.match-json.branch [
      | in-Number w ↦ subst (λ r. IfOk r (λ found. IfSome found (λ v. IsFoundReal j v.items))) (sym w.octets-is) w.number_octets-octets.ensures
      | in-String w ↦ subst (λ r. IfOk r (λ found. IfSome found (λ v. IsFoundReal j v.items))) (sym w.octets-is)
          (subst (λ x. IfOk w.text_octets-octets.result (λ found. IfSome found (λ v. IsFoundReal x v.items))) (sym (ap value_view w.in-String.is ∙ view_string _ w.in-String.text)) w.text_octets-octets.ensures)
      | in-Object w ↦ subst (λ r. IfOk r (λ found. IfSome found (λ v. IsFoundReal j v.items))) (sym w.octets-is) w.decimal_octets-octets.ensures
    ] in
    let some = handed (λ found. IfSome found (λ v. IsFoundReal j v.items)) c.match-json.octets c.or_memory.result c.in_ok-octets.field-0 c.or_memory.ensures.ok c.in_ok-octets.was told in
    (subst (λ found. IfSome found (λ v. IsFoundReal j v.items)) c.in-Some.is some).1
