use Rattle.std.proofs.Common.{rules, inr}
use Rattle.std.proofs.lemmas.Str.{chars_from_encodes}
use Rattle.rasn_enc.proofs.ber.enc.character_string.character_count.Goals as goal

pub returns-in-Some : goal.returns-in-Some
returns-in-Some c = inr (search (rules, chars_from_encodes))
