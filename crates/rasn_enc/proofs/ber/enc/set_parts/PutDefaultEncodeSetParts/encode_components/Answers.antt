use Rattle.rasn_types.proofs.Time.Spellings.{both_true}
use Rattle.rasn_enc.specs.SortedSet.{HasOwn}
use Rattle.rasn_enc.proofs.OwnTypes.SortedSet.{own_of, held_alone, fails_alone, errors_alone}
use Rattle.rasn_enc.proofs.ber.enc.set_parts.PutDefaultEncodeSetParts.encode_components.Goals as goal

pub with_part-requires : goal.with_part-requires
with_part-requires g c = (both_true _ _ c.requires).1

pub returns-clause-ok : goal.returns-clause-ok
returns-clause-ok g c = held_alone _ _ _ (HasOwn c.TAG.result) _ _ _ _ (own_of g.V.Value.AsnType.shape c.TAG.result _ g.R.EncodeSetParts.tags_known c.requires c.TAG.ensures) _ c.with_part.ensures.ok

pub returns-clause-refused : goal.returns-clause-refused
returns-clause-refused g c = fails_alone _ _ _ (HasOwn c.TAG.result) _ _ _ _ (own_of g.V.Value.AsnType.shape c.TAG.result _ g.R.EncodeSetParts.tags_known c.requires c.TAG.ensures) _ c.with_part.ensures.refused

pub returns-clause-errors : goal.returns-clause-errors
returns-clause-errors g c = errors_alone _ _ _ (HasOwn c.TAG.result) _ _ _ (own_of g.V.Value.AsnType.shape c.TAG.result _ g.R.EncodeSetParts.tags_known c.requires c.TAG.ensures) _ c.with_part.ensures.errors
