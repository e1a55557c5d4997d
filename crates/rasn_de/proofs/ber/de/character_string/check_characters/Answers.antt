use Rattle.std.proofs.Common.{rules, ◌≡◌, ◌≤◌, length, chars, refl, sym, subst}
use Rattle.std.proofs.lemmas.Str.{chars_from_encodes}
use Rattle.rasn_types.specs.Shapes.{Admits}
use Rattle.rasn_de.proofs.Strings.Checks.{characters_checked}
use Rattle.rasn_de.proofs.ber.de.character_string.check_characters.Goals as goal

pub returns-in-None : goal.returns-in-None
returns-in-None c = ((c.utf8.text, refl), subst (λ s. Admits ◌≤◌ s (length (chars c.args.text.now))) (sym c.in-None.is) tt)

pub returns-in-Some : goal.returns-in-Some
returns-in-Some c =
    let n : c.count.result ≡ length (chars c.args.text.now) = search (rules, chars_from_encodes) in
    characters_checked c.args.constraints.now c.args.text.now c.count.result c.check_size.result c.utf8.text n c.check_size.ensures
