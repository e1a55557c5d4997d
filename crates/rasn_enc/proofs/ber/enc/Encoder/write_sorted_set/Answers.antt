use Rattle.std.proofs.Common.{OnOk, subst}
use Rattle.std.proofs.lemmas.Result.{err_from_is_err_and}
use Rattle.rasn_types.specs.Contents.{joined_lists}
use Rattle.rasn_types.specs.Bytes.{ConstructedEncoding}
use Rattle.rasn_enc.specs.Primitive.{Appends}
use Rattle.rasn_enc.specs.SortedSet.{octets_in, HoldsParts, FailsAtComponents}
use Rattle.rasn_enc.proofs.OwnTypes.SortedSet.{sorted_ok, sorted_refused}
use Rattle.rasn_enc.proofs.ber.enc.Encoder.write_sorted_set.Goals as goal

pub returns-in_err-components-clause-refused : goal.returns-in_err-components-clause-refused
returns-in_err-components-clause-refused g c = let p = err_from_is_err_and c.from_residual.result c.from_residual.ensures.1 in rw (p.1, p.2)
    (sorted_refused g.P.EncodeSetParts.extensible c.args.tag g.P.EncodeSetParts.parts (g.P.EncodeSetParts.tree c.args.parts) c.args.self.now _
    (subst (λ r. FailsAtComponents g.P.EncodeSetParts.extensible g.P.EncodeSetParts.parts (g.P.EncodeSetParts.tree c.args.parts) r c.in_err-components.field-0.0) c.codec.ensures c.in_err-components.ensures.refused))

pub returns-clause-ok : goal.returns-clause-ok
returns-clause-ok g c = sorted_ok g.P.EncodeSetParts.extensible c.args.tag g.P.EncodeSetParts.parts (g.P.EncodeSetParts.tree c.args.parts) c.args.self.now c.in_ok-components.components.items _ _
    (subst (λ r. HoldsParts g.P.EncodeSetParts.extensible g.P.EncodeSetParts.parts (g.P.EncodeSetParts.tree c.args.parts) r c.in_ok-components.components.items) c.codec.ensures c.in_ok-components.ensures.ok)
    (subst (λ l. OnOk c.append_set.result (Appends (ConstructedEncoding c.args.self.now.rule c.args.tag (joined_lists (octets_in l))) c.args.tag c.args.self.now c.append_set.new.self)) c.deref.ensures.value c.append_set.ensures.ok)
