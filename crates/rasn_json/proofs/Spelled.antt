-- Texts of characters, one after the other.
use Rattle.std.proofs.Common.{◌≡◌, ℕ, List, [], ◌∷◌, ◌++◌, refl, sym, ap, ◌∙◌, append_assoc}
use Rattle.std.specs.Prelude.{encode_utf8_all, encode_utf8}
use Rattle.std.proofs.lemmas.List.{append-nil}

pub one_more_character : (cs : List ℕ) (c : ℕ) → encode_utf8_all (cs ++ c ∷ []) ≡ encode_utf8_all cs ++ encode_utf8 c
one_more_character [] c = append-nil (encode_utf8 c)
one_more_character (d ∷ cs) c = ap (λ l. encode_utf8 d ++ l) (one_more_character cs c) ∙ sym (append_assoc (encode_utf8 d) (encode_utf8_all cs) (encode_utf8 c))

-- One more character is read from the front of what is left.
pub one_more_octet : (octets new rest after text : List ℕ) (o c : ℕ) → encode_utf8_all octets ++ rest ≡ text → rest ≡ encode_utf8 c ++ after → new ≡ octets ++ o ∷ [] → o ≡ c → encode_utf8_all new ++ after ≡ text
one_more_octet octets new rest after text o c e s n same =
    ap (λ l. encode_utf8_all l ++ after) (n ∙ ap (λ x. octets ++ x ∷ []) same)
    ∙ (ap (λ l. l ++ after) (one_more_character octets c) ∙ (append_assoc (encode_utf8_all octets) (encode_utf8 c) after ∙ (ap (λ l. encode_utf8_all octets ++ l) (sym s) ∙ e)))
