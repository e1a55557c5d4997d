-- The characters of a text that is shown, one after the other.
use Rattle.std.proofs.Common.{◌≡◌, ℕ, List, [], ◌∷◌, ◌++◌, length, sym, ap, ◌∙◌, append_assoc, arith}
use Rattle.std.specs.Prelude.{chars, IsUtf8, encode_utf8, flat_map}
use Rattle.std.proofs.lemmas.Str.{chars-nil}
use Rattle.std.proofs.lemmas.List.{append-nil}
use Rattle.rasn_text.proofs.Escaped.{first_of}

-- What is written, and what the characters that are left add to it.
pub one_more_shown : (f : ℕ → List ℕ) (old after whole : List ℕ) (c : ℕ) (bs rest : List ℕ) → IsUtf8 bs → bs ≡ encode_utf8 c ++ rest → after ≡ old ++ f c
    → old ++ flat_map f (chars bs) ≡ whole → IsUtf8 rest × (after ++ flat_map f (chars rest) ≡ whole)
one_more_shown f old after whole c bs rest u e a w =
    let o = first_of bs rest c u e in (
      o.0,
      ap (λ l. l ++ flat_map f (chars rest)) a ∙ (append_assoc old (f c) (flat_map f (chars rest)) ∙ (ap (λ l. old ++ flat_map f l) (sym o.1) ∙ w)),
    )

pub all_shown : (f : ℕ → List ℕ) (old whole rest : List ℕ) → length rest ≡ 0 → old ++ flat_map f (chars rest) ≡ whole → old ≡ whole
all_shown f old whole [] e w = sym (append-nil old) ∙ (ap (λ l. old ++ flat_map f l) (sym chars-nil) ∙ w)
all_shown f old whole (b ∷ rest) e w = absurd (omega arith)
