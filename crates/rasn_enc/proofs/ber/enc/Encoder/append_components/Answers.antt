use Rattle.std.proofs.Common.{[], ap, ◌∙◌}
use Rattle.rasn_enc.specs.View.{appended}
use Rattle.rasn_enc.specs.SortedSet.{octets_in}
use Rattle.rasn_enc.proofs.Constructed.SequenceOf.{split_values}
use Rattle.rasn_enc.proofs.Constructed.Unknown.{values_more}
use Rattle.rasn_enc.proofs.ber.enc.Encoder.append_components.Goals as goal

pub loop-rest-preserved : goal.loop-rest-preserved
loop-rest-preserved c = values_more _ _ _ _ _ _ _ c.loop-rest.invariant (ap octets_in (split_values c.loop-rest.rest.now _ c.in-len1-up.len_at_least c.component-item.is)) (c.in_ok-append_encoded.ensures.ok ∙ ap (λ l. appended c.loop-rest.self l []) c.deref.ensures.value)
