use Rattle.std.proofs.Common.{Some, ap, sym}
use Rattle.rasn_enc.specs.SortedSet.{HasOwn}
use Rattle.rasn_enc.proofs.OwnTypes.SortedSet.{held_alone, fails_alone, errors_alone}
use Rattle.rasn_enc.proofs.ber.enc.set_parts.PutDefaultExplicitEncodeSetParts.encode_components.Goals as goal

pub returns-clause-ok : goal.returns-clause-ok
returns-clause-ok g c = held_alone _ _ _ (HasOwn c.TAG.result) _ _ _ _ (ap Some (sym c.TAG.ensures)) _ c.with_part.ensures.ok

pub returns-clause-refused : goal.returns-clause-refused
returns-clause-refused g c = fails_alone _ _ _ (HasOwn c.TAG.result) _ _ _ _ (ap Some (sym c.TAG.ensures)) _ c.with_part.ensures.refused

pub returns-clause-errors : goal.returns-clause-errors
returns-clause-errors g c = errors_alone _ _ _ (HasOwn c.TAG.result) _ _ _ (ap Some (sym c.TAG.ensures)) _ c.with_part.ensures.errors
