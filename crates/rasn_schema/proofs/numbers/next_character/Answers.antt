use Rattle.std.proofs.Common.{◌∷◌, sym, ap, subst, ◌∙◌, IsUtf8}
use Rattle.std.specs.Prelude.{chars}
use Rattle.std.specs.Str.Iter.{chars_rest}
use Rattle.std.proofs.lemmas.Str.{chars_past_char}
use Rattle.rasn_schema.proofs.EqualLists.{no_chars}
use Rattle.rasn_schema.proofs.numbers.next_character.Goals as goal

pub returns-in-Some : goal.returns-in-Some
returns-in-Some c = ap chars (sym c.chars-characters.ensures.rest)
    ∙ (chars_past_char (chars_rest c.chars-characters.result) _ c.in-Some.character (subst IsUtf8 (sym c.chars-characters.ensures.rest) c.utf8.text) c.in-Some.ensures.steps.0
    ∙ ap (λ l. c.in-Some.character ∷ chars l) (sym c.as_str.ensures))

pub returns-in-None : goal.returns-in-None
returns-in-None c = ap chars (sym c.chars-characters.ensures.rest) ∙ no_chars (chars_rest c.chars-characters.result) c.in-None.ensures.steps.0.0
