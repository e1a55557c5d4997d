use Rattle.std.proofs.Common.{ap, length}
use Rattle.rasn_de.proofs.OwnTypes.Parts.{call_keeps}
use Rattle.rasn_dynamic.proofs.Faults.{unknown_named}
use Rattle.rasn_dynamic.proofs.Listed.{unknown_listed}
use Rattle.rasn_dynamic.proofs.reader.decode_unknown_component.Goals as goal

pub returns-in-Ok-clause-listed : goal.returns-in-Ok-clause-listed
returns-in-Ok-clause-listed c =
    unknown_listed c.args.levels c.args.id c.args.index _ _ _ c.args.decoder.now _ _ _ _ c.remaining-start.ensures.value c.remaining.ensures.value c.note-place.ensures c.finish.ensures (call_keeps c.in-Ok.ensures.reads)

pub returns-in-Err-clause-told : goal.returns-in-Err-clause-told
returns-in-Err-clause-told c = λ types u.
    unknown_named types c.args.levels c.args.id c.args.index _ c.args.decoder.now _ _ _ c.mark_part.ensures.0 _ c.requires.clear c.mark_part.ensures.1 c.mark_part.ensures.2 (ap length c.remaining-start.ensures.value) c.in-Err.ensures.reads.exact u c.requires.more c.in-Err.ensures.fails
