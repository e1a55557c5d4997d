use Rattle.std.proofs.Common.{sym, rules}
use Rattle.std.specs.Char.{encode_utf8}
use Rattle.std.proofs.Output.{has_written_append, has_written_of_eq}
use Rattle.rasn_schema.proofs.LeafTexts.{mark_after}
use Rattle.rasn_schema.proofs.time_text.write_before.Goals as goal

pub returns : goal.returns
returns g c = λ p ok.
    has_written_of_eq _ _ _ _ _ (sym (mark_after c.args.octets.now c.args.mark)) (has_written_append _ _ _ c.write_octets.new.f (encode_utf8 c.args.mark) _ (search rules) (search rules))
