use Rattle.std.proofs.Common.{◌≡◌, refl, sym, ◌∙◌, arith}
use Rattle.rasn_schema.proofs.Lists.{read_at}
use Rattle.rasn_json.specs.Reading.{IsComponentName}
use Rattle.rasn_json.proofs.Levels.{passed}
use Rattle.rasn_json.proofs.MemberNames.{one_new, all_new, component_named}
use Rattle.rasn_json.proofs.reader.check_names.Goals as goal

pub loop-position-preserved : goal.loop-position-preserved
loop-position-preserved c =
    let ms = c.args.members.now in
    let i = c.loop-position.position in
    let m = c.index-members-position.result in
    let known = passed _ c.check_member-outcome.result c.kept.result c.in_ok-kept.field-0 c.kept.ensures.ok c.in_ok-kept.was c.check_member-outcome.ensures.known in
    let first = passed _ c.check_member-outcome.result c.kept.result c.in_ok-kept.field-0 c.kept.ensures.ok c.in_ok-kept.was c.check_member-outcome.ensures.first in
    one_new (IsComponentName c.args.components.now) ms _ i m c.loop-position.invariant (read_at ms i m (omega arith) c.index-members-position.is)
    (component_named c.args.components.now m.0.now c.index_named.result _ _ (sym c.is_some-is_known.ensures ∙ known) c.index_named.ensures) refl first

pub returns : goal.returns
returns c = all_new (IsComponentName c.args.components.now) c.args.members.now c.loop-position.position (omega arith) c.loop-position.invariant
