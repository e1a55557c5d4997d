use Rattle.std.proofs.lemmas.Grind.{common_steps}
use Rattle.std.proofs.Common.{ap, ◌<◌, ◌≡◌, ◌∷◌, length, drop, get_or, min, ◌-◌, ◌*◌, ◌/◌, ◌≤◌, ◌∙◌, arith}
use Rattle.rasn_schema.proofs.LeafTexts.{relative_none, relative_dotted, relative_long, relative_held}
use Rattle.rasn_schema.proofs.relative.RelativeOid.parse.Goals as goal

pub returns-in_default : goal.returns-in_default
returns-in_default c = relative_none c.args.text.now c.deref.result.now c.in_ok-all.field-0 (c.deref.ensures ∙ c.in_ok-format.ensures.ok) c.in_ok-all.ensures c.in_default.is

pub returns-in_default-arcs : goal.returns-in_default-arcs
returns-in_default-arcs c = λ x r.
    let d = relative_dotted c.args.text.now c.deref.result.now c.in_ok-all.field-0 c.in-Some.all (c.deref.ensures ∙ c.in_ok-format.ensures.ok) c.in_ok-all.ensures c.in-Some.is in
    let long : 3 ≤ length c.in-Some.all = relative_long c.args.text.now c.in-Some.all d in
    let a : c.arcs.result.now ≡ c.in-Some.all = c.arcs.ensures.arcs in
    let l : length c.arcs.result.now < 3 = c.in_default-arcs.len_below in
    absurd (omega (arith, ap length a))

pub returns : goal.returns
returns c =
    let arcs = c.in-Some.all in
    let d = relative_dotted c.args.text.now c.deref.result.now c.in_ok-all.field-0 c.in-Some.all (c.deref.ensures ∙ c.in_ok-format.ensures.ok) c.in_ok-all.ensures c.in-Some.is in
    let top : c.min-top.result ≡ min (get_or arcs 2 0 / 40) 2 = grind (arith, common_steps) in
    let items : c.extend_from_slice.new.self.items ≡ c.min-top.result ∷ (get_or arcs 2 0 - 40 * c.min-top.result) ∷ drop 3 arcs = grind (arith, common_steps) in
    relative_held c.args.text.now arcs c.extend_from_slice.new.self.items c.new.result c.min-top.result d top items c.new.ensures
