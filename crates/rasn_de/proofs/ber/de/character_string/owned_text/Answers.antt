use Rattle.std.proofs.Common.{◌≡◌, [], ap, sym, ◌∙◌}
use Rattle.std.specs.Cow.{cow_str_bytes}
use Rattle.std.specs.declared.alloc.Global.{Global}
use Rattle.std.proofs.Math.Utf8.{encodes}
use Rattle.std.proofs.lemmas.Str.{encodes-chars}
use Rattle.rasn_de.proofs.ber.de.character_string.owned_text.Goals as goal

-- Text without characters has no octets.
pub returns-clause-empty : goal.returns-clause-empty
returns-clause-empty c = λ none.
    let utf8 = rw c.as_str.ensures.value at c.as_str.utf8 in
    let empty : cow_str_bytes {Z = Global} c.args.text ≡ [] = sym (encodes-chars _ utf8) ∙ ap encodes none in
    let k = rw (c.as_str.ensures.value ∙ empty) at c.if-is_empty.ensures in
    cc
