use Rattle.std.proofs.Common.{◌≡◌, ◌+◌, ◌++◌, ◌∷◌, [], ℕ, List, take, get_or, refl, sym, ap, ◌∙◌, subst, arith, string_bytes}
use Rattle.std.specs.Prelude.{encode_utf8_all, encode_utf8}
use Rattle.std.proofs.lemmas.List.{take_more}
use Rattle.rasn_json.proofs.Spelled.{one_more_character}
use Rattle.rasn_json.proofs.characters.text_of.Goals as goal

one_more : (text after l : List ℕ) (i c : ℕ) → text ≡ encode_utf8_all (take i l) → after ≡ text ++ encode_utf8 c → c ≡ get_or l i 0 → take (i + 1) l ≡ take i l ++ get_or l i 0 ∷ [] → after ≡ encode_utf8_all (take (i + 1) l)
one_more text after l i c e f g t = f ∙ (ap (λ x. x ++ encode_utf8 c) e ∙ (sym (one_more_character (take i l) c) ∙ (ap (λ x. encode_utf8_all (take i l ++ x ∷ [])) g ∙ ap encode_utf8_all (sym t))))

pub loop-octet-preserved : goal.loop-octet-preserved
loop-octet-preserved c = one_more (string_bytes c.loop-octet.text) _ c.args.octets.now c.loop-octet.octet-index _ c.loop-octet.invariant c.in_ok-push.ensures.bytes c.from.ensures (take_more c.args.octets.now c.loop-octet.octet-index 0 (omega arith))
