use Rattle.rasn_enc.proofs.OwnTypes.SortedSet.{unknown_held, unknown_fails}
use Rattle.rasn_enc.proofs.ber.enc.set_parts.RefUnknownEncodeSetParts.encode_components.Goals as goal

pub returns-clause-ok : goal.returns-clause-ok
returns-clause-ok c = unknown_held _ c.args.self.now.values.items _ c.args.rule c.deref.ensures.value c.unknown_components.ensures.ok

pub returns-clause-refused : goal.returns-clause-refused
returns-clause-refused c = unknown_fails _ c.args.self.now.values.items _ c.args.rule c.deref.ensures.value c.unknown_components.ensures.refused
