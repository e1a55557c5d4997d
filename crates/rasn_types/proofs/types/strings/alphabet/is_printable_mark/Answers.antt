use Rattle.rasn_types.specs.CharacterString.{printable_marks}
use Rattle.rasn_types.proofs.Enumerated.Contained.{any_tells}
use Rattle.rasn_types.proofs.types.strings.alphabet.is_printable_mark.Goals as goal

pub returns : goal.returns
returns c = any_tells c.contains.result printable_marks c.args.octet c.contains.ensures.value
