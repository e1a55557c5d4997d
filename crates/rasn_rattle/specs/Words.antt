-- The names of files.
use Rattle.std.specs.Prelude.{ℕ, Bool, ◌||◌, List, nat_eq}
use Rattle.std.specs.Char.{is_ascii_alphanumeric, is_ascii_lowercase, is_ascii_digit}
use Rattle.std.specs.List.{list_all}

-- A letter of a name in snake case: a small letter, a digit or `_`.
abbrev pub is_word_letter : ℕ → Bool
is_word_letter c = is_ascii_lowercase c || is_ascii_digit c || nat_eq c 95

-- A name in snake case.
abbrev pub is_word : List ℕ → Bool
is_word letters = list_all is_word_letter letters

-- A letter of a name in camel case: a letter, a digit or `_`.
abbrev pub is_name_letter : ℕ → Bool
is_name_letter c = is_ascii_alphanumeric c || nat_eq c 95

-- A name in camel case.
abbrev pub is_name : List ℕ → Bool
is_name letters = list_all is_name_letter letters
