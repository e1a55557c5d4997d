-- Why a message is refused, in a line.
use Rattle.std.specs.Prelude.{◌≡◌, ℕ, List, [], ◌∷◌, ◌++◌, Option, Some, None, String, string_bytes, codes}
use Rattle.std.specs.Global.{Global}
use Rattle.std.specs.Fmt.{decimal}
use Rattle.rasn_print.specs.declared.reason.Reason.{Reason}

-- It is a reason of something that is in no place and seems to be of no type.
pub record IsOfNoPlace (r : Reason) : Type 0 where
  pub guess : r.guess ≡ None
  pub path : string_bytes r.path ≡ []
  pub byte : r.byte ≡ None

-- the type that the message seems to be of
abbrev pub guess_text : Option (String Global) → List ℕ
guess_text None = []
guess_text (Some name) = codes "looks like " ++ string_bytes name ++ codes ": "

-- the names on the way to the part
abbrev pub path_text : List ℕ → List ℕ
path_text [] = []
path_text (c ∷ cs) = (c ∷ cs) ++ codes ", "

-- where the part begins
abbrev pub byte_text : Option ℕ → List ℕ
byte_text None = []
byte_text (Some n) = codes "byte " ++ decimal n ++ codes ": "

-- how the type of a message is named, where it was guessed
abbrev pub advice_text : Option (String Global) → List ℕ
advice_text None = []
advice_text (Some name) = codes "; --type TYPE reads other types, which `soqavise types` prints; dump shows any BER"

abbrev pub line_of : Reason → List ℕ
line_of r = guess_text r.guess ++ path_text (string_bytes r.path) ++ byte_text r.byte ++ string_bytes r.text ++ advice_text r.guess
