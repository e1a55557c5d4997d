use Rattle.std.proofs.Common.{◌≡◌, map, Some, None, Err, subst, rules, ◌∙◌}
use Rattle.rasn_de.specs.NamedErrors.{IsNamedError, IsDuplicateField}
use Rattle.rasn_de.specs.SetPartTypes.{text}
use Rattle.rasn_de.proofs.Leaves.Returns.{residual}
use Rattle.rasn_de.proofs.OwnTypes.SetPartTypes.{ReadTo, read_rules, none_read, untold, next_fails, next_passes, all_made, made_twice, all_once, one_twice, made_named, untold_named, named_fails}
use Rattle.rasn_de.proofs.Constructed.Beyond.{none_kept, more_kept, all_kept}
use Rattle.rasn_de.proofs.Leaves.Rules.{order_rules}
use Rattle.std.specs.Prelude.{IfErr}
use Rattle.rasn_de.proofs.ber.de.Decoder.set_parts.Goals as goal

pub loop-last-init : goal.loop-last-init
loop-last-init g c = record {
  read = none_read g.P.DecodeSetParts.extensible g.P.DecodeSetParts.parts (map text c.args.names.now) _ _ _ c.empty-slots.ensures.empty c.empty-slots.ensures.none;
  kept = none_kept g.P.DecodeSetParts.extensible g.P.DecodeSetParts.parts g.P.DecodeSetParts.kept c.args.self.now _ c.empty-slots.ensures.kept;
}

pub returns-in_err-last-clause-exact : goal.returns-in_err-last-clause-exact
returns-in_err-last-clause-exact g c =
    let at = c.loop-last in
    rw (residual _ c.from_residual.ensures.1) (untold g.P.DecodeSetParts.extensible g.P.DecodeSetParts.parts _ c.args.self.now at.self at.last at.twice _ _ at.invariant.read g.P.DecodeSetParts.tree c.loop-last-test.ensures _ c.in_err-last.ensures)

pub returns-in_err-next-clause-exact : goal.returns-in_err-next-clause-exact
returns-in_err-next-clause-exact g c =
    let at = c.loop-last in
    rw (residual _ c.from_residual-in_err-next.ensures.1)
    (next_fails g.P.DecodeSetParts.extensible g.P.DecodeSetParts.parts _ c.args.self.now at.self at.last at.twice _ _ at.invariant.read g.P.DecodeSetParts.tree c.loop-last-test.ensures _ c.in_ok-last.ensures _ _ (g.P.DecodeSetParts.held at.slots) (g.P.DecodeSetParts.others at.slots) c.in_err-next.ensures.exact)

pub loop-last-preserved : goal.loop-last-preserved
loop-last-preserved g c =
    let at = c.loop-last in
    let ps = g.P.DecodeSetParts.parts in
    record {
      read = rw c.or-twice.ensures (next_passes g.P.DecodeSetParts.extensible ps _ c.args.self.now at.self at.last at.twice _ _ at.invariant.read c.loop-last-test.ensures _ c.in_ok-last.ensures _ _ _ _ c.in_ok-next.ensures.exact);
      kept = more_kept g.P.DecodeSetParts.extensible ps g.P.DecodeSetParts.kept c.args.self.now at.self at.slots _ at.invariant.kept (at.invariant.read.0, at.invariant.read.1, at.invariant.read.2) c.in_ok-next.ensures.kept;
    }

pub returns-in-Some-clause-exact : goal.returns-in-Some-clause-exact
returns-in-Some-clause-exact g c =
    let at = c.loop-last in
    let names = map text c.args.names.now in
    let h : at.twice ≡ Some c.in-Some.part = search rules in
    one_twice g.P.DecodeSetParts.extensible g.P.DecodeSetParts.parts names g.P.DecodeSetParts.tree c.args.self.now at.self at.last (g.P.DecodeSetParts.held at.slots) (g.P.DecodeSetParts.others at.slots) c.loop-last-test.ensures c.in-Some.part
    (subst (λ z. ReadTo g.P.DecodeSetParts.extensible g.P.DecodeSetParts.parts names c.args.self.now at.self at.last z (g.P.DecodeSetParts.held at.slots) (g.P.DecodeSetParts.others at.slots)) h at.invariant.read) _
    (subst (λ z. IsNamedError (IsDuplicateField (text c.in-Some.part)) z c.duplicate_field.result) c.codec.ensures c.duplicate_field.ensures)

pub returns-clause-exact : goal.returns-clause-exact
returns-clause-exact g c =
    let at = c.loop-last in
    let names = map text c.args.names.now in
    let h : at.twice ≡ None = search rules in
    all_once g.P.DecodeSetParts.extensible g.P.DecodeSetParts.parts names g.P.DecodeSetParts.tree c.args.self.now at.self at.last (g.P.DecodeSetParts.held at.slots) (g.P.DecodeSetParts.others at.slots) c.loop-last-test.ensures
    (subst (λ z. ReadTo g.P.DecodeSetParts.extensible g.P.DecodeSetParts.parts names c.args.self.now at.self at.last z (g.P.DecodeSetParts.held at.slots) (g.P.DecodeSetParts.others at.slots)) h at.invariant.read) _ c.gather.ensures.makes c.gather.ensures.memory

pub returns-in_err-last-clause-rules : goal.returns-in_err-last-clause-rules
returns-in_err-last-clause-rules g c = rw (residual _ c.from_residual.ensures.1) ((order_rules _ c.loop-last.self _ c.in_err-last.ensures) ∙ (read_rules g.P.DecodeSetParts.extensible g.P.DecodeSetParts.parts _ _ _ _ _ _ _ c.loop-last.invariant.read))

pub returns-in_err-next-clause-rules : goal.returns-in_err-next-clause-rules
returns-in_err-next-clause-rules g c = rw (residual _ c.from_residual-in_err-next.ensures.1) (c.in_err-next.ensures.rules ∙ (read_rules g.P.DecodeSetParts.extensible g.P.DecodeSetParts.parts _ _ _ _ _ _ _ c.loop-last.invariant.read))

pub returns-in-Some-clause-rules : goal.returns-in-Some-clause-rules
returns-in-Some-clause-rules g c = (c.duplicate_field.ensures.0 ∙ c.codec.ensures) ∙ (read_rules g.P.DecodeSetParts.extensible g.P.DecodeSetParts.parts _ _ _ _ _ _ _ c.loop-last.invariant.read)

pub returns-clause-rules : goal.returns-clause-rules
returns-clause-rules g c = subst (λ z. IfErr c.gather.result (λ e. e.codec ≡ z)) (read_rules g.P.DecodeSetParts.extensible g.P.DecodeSetParts.parts _ _ _ _ _ _ _ c.loop-last.invariant.read) c.gather.ensures.rules

pub returns-in_err-last-clause-fails : goal.returns-in_err-last-clause-fails
returns-in_err-last-clause-fails g c =
    let at = c.loop-last in
    rw (residual _ c.from_residual.ensures.1) (untold_named g.P.DecodeSetParts.extensible g.P.DecodeSetParts.parts g.P.DecodeSetParts.tree _ _ g.P.DecodeSetParts.errors c.args.self.now at.self at.last at.twice _ _ at.invariant.read c.loop-last-test.ensures _ c.in_err-last.ensures)

pub returns-in_err-next-clause-fails : goal.returns-in_err-next-clause-fails
returns-in_err-next-clause-fails g c =
    let at = c.loop-last in
    rw (residual _ c.from_residual-in_err-next.ensures.1)
    (named_fails g.P.DecodeSetParts.extensible g.P.DecodeSetParts.parts g.P.DecodeSetParts.tree _ _ g.P.DecodeSetParts.errors c.args.self.now at.self at.last at.twice _ _ at.invariant.read c.loop-last-test.ensures _ c.in_ok-last.ensures _ _ c.in_err-next.ensures.fails)

pub returns-in-Some-clause-fails : goal.returns-in-Some-clause-fails
returns-in-Some-clause-fails g c =
    let at = c.loop-last in
    let names = map text c.args.names.now in
    let h : at.twice ≡ Some c.in-Some.part = search rules in
    made_named g.P.DecodeSetParts.extensible g.P.DecodeSetParts.parts g.P.DecodeSetParts.tree c.args.name.now names g.P.DecodeSetParts.errors c.args.self.now at.self (Err c.duplicate_field.result) (made_twice g.P.DecodeSetParts.extensible g.P.DecodeSetParts.parts names g.P.DecodeSetParts.tree c.args.self.now at.self at.last (g.P.DecodeSetParts.held at.slots) (g.P.DecodeSetParts.others at.slots) c.loop-last-test.ensures c.in-Some.part
    (subst (λ z. ReadTo g.P.DecodeSetParts.extensible g.P.DecodeSetParts.parts names c.args.self.now at.self at.last z (g.P.DecodeSetParts.held at.slots) (g.P.DecodeSetParts.others at.slots)) h at.invariant.read) _
    (subst (λ z. IsNamedError (IsDuplicateField (text c.in-Some.part)) z c.duplicate_field.result) c.codec.ensures c.duplicate_field.ensures))

pub returns-clause-fails : goal.returns-clause-fails
returns-clause-fails g c =
    let at = c.loop-last in
    let names = map text c.args.names.now in
    let h : at.twice ≡ None = search rules in
    made_named g.P.DecodeSetParts.extensible g.P.DecodeSetParts.parts g.P.DecodeSetParts.tree c.args.name.now names g.P.DecodeSetParts.errors c.args.self.now at.self c.gather.result (all_made g.P.DecodeSetParts.extensible g.P.DecodeSetParts.parts names g.P.DecodeSetParts.tree c.args.self.now at.self at.last (g.P.DecodeSetParts.held at.slots) (g.P.DecodeSetParts.others at.slots) c.loop-last-test.ensures
    (subst (λ z. ReadTo g.P.DecodeSetParts.extensible g.P.DecodeSetParts.parts names c.args.self.now at.self at.last z (g.P.DecodeSetParts.held at.slots) (g.P.DecodeSetParts.others at.slots)) h at.invariant.read) _ c.gather.ensures.makes c.gather.ensures.memory)

pub returns-clause-beyond : goal.returns-clause-beyond
returns-clause-beyond g c =
    all_kept g.P.DecodeSetParts.extensible g.P.DecodeSetParts.parts g.P.DecodeSetParts.kept c.args.self.now g.P.DecodeSetParts.beyond c.loop-last.slots c.gather.result c.loop-last.self c.loop-last.invariant.kept c.gather.ensures.beyond
