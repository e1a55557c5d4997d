use Rattle.std.proofs.Common.{◌∷◌, ◌++◌, ◌/◌, ◌%◌, [], ap, ◌∙◌}
use Rattle.std.specs.Str.Iter.{chars_rest}
use Rattle.rasn_schema.proofs.Characters.{written_more, written_all}
use Rattle.rasn_schema.proofs.universal.universal_octets.Goals as goal

pub loop-character-preserved : goal.loop-character-preserved
loop-character-preserved c =
    written_more c.args.text.now c.loop-character.octets.items _ (chars_rest c.loop-character.character-iterator) (chars_rest c.next.new.self) c.in-Some.character c.loop-character.invariant c.in-Some.ensures.steps.0
    (c.in_ok-extend_from_slice.ensures.items ∙ ap (λ n. c.loop-character.octets.items ++ 0 ∷ n / 65536 ∷ n / 256 % 256 ∷ n % 256 ∷ []) c.from-number.ensures)

pub returns : goal.returns
returns c = written_all c.args.text.now c.loop-character.octets.items (chars_rest c.loop-character.character-iterator) c.loop-character.invariant c.in-None.ensures.steps.0.0
