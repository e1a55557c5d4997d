use Rattle.std.proofs.Common.{[], ap, ◌∙◌}
use Rattle.rasn_types.specs.Contents.{joined_lists}
use Rattle.rasn_enc.specs.View.{appended}
use Rattle.rasn_enc.proofs.Constructed.Unknown.{unknown_encoded, unknown_none, none_kept}
use Rattle.rasn_enc.proofs.ber.enc.Encoder.encode_unknown.Goals as goal

pub returns-then-not-some_have_octets-clause-ok : goal.returns-then-not-some_have_octets-clause-ok
returns-then-not-some_have_octets-clause-ok c =
    unknown_none c.args.values.now.values.items c.args.self.now (none_kept _ _ _ c.some_have_octets.ensures c.deref-values.ensures.value c.if-not-some_have_octets.true)

pub returns-in-Ok-clause-ok : goal.returns-in-Ok-clause-ok
returns-in-Ok-clause-ok c = unknown_encoded c.args.values.now.values.items c.args.self.now _ (λ h. c.if-keeps_tags.ensures)
    (c.in-Ok.ensures.ok ∙ ap (λ l. appended c.args.self.now (joined_lists l) []) c.deref-values.ensures.value)
