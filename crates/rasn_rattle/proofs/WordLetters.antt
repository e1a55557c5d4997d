-- Names in snake case and in camel case, as letters are added.
use Rattle.std.proofs.Common.{◌≡◌, ℕ, ◌<◌, true, List, [], ◌∷◌, ◌++◌, arith, ◌∙◌}
use Rattle.std.proofs.lemmas.Grind.{common_steps}
use Rattle.std.proofs.lemmas.List.Folds.{list_all-append}
use Rattle.std.proofs.lemmas.Str.{encode_ascii}
use Rattle.std.specs.Char.{encode_utf8}
use Rattle.rasn_rattle.specs.Words.{is_name, is_name_letter, is_word, is_word_letter}

letter_ascii : (c : ℕ) → is_word_letter c ≡ true → c < 128
letter_ascii c h = grind (arith, common_steps)

-- Words after one another are a word.
pub word_append : (xs ys : List ℕ) → is_word xs ≡ true → is_word ys ≡ true → is_word (xs ++ ys) ≡ true
word_append xs ys h k = list_all-append is_word_letter xs ys ∙ simp (h, k)

-- A word and a letter are a word.
pub word_push : (xs : List ℕ) (c : ℕ) → is_word xs ≡ true → is_word_letter c ≡ true → is_word (xs ++ encode_utf8 c) ≡ true
word_push xs c h k = rw (encode_ascii c (letter_ascii c k)) (word_append xs (c ∷ []) h (simp k))

name_letter_ascii : (c : ℕ) → is_name_letter c ≡ true → c < 128
name_letter_ascii c h = grind (arith, common_steps)

-- Names after one another are a name.
pub name_append : (xs ys : List ℕ) → is_name xs ≡ true → is_name ys ≡ true → is_name (xs ++ ys) ≡ true
name_append xs ys h k = list_all-append is_name_letter xs ys ∙ simp (h, k)

-- A name and a letter are a name.
pub name_push : (xs : List ℕ) (c : ℕ) → is_name xs ≡ true → is_name_letter c ≡ true → is_name (xs ++ encode_utf8 c) ≡ true
name_push xs c h k = rw (encode_ascii c (name_letter_ascii c k)) (name_append xs (c ∷ []) h (simp k))
