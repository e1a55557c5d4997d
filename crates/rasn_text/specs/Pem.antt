-- Blocks of PEM in a text (RFC 7468).
use Rattle.std.specs.Prelude.{◌≡◌, ◌≢◌, ◌+◌, ◌-◌, ℕ, length, take, Bool, not, ◌||◌, ◌==◌, List, [], ◌∷◌, ◌++◌, codes, Vec, Option, Some, None, Result, Ok, Err}
use Rattle.std.specs.Global.{Global}
use Rattle.std.specs.List.{All, filter, flat_map, suffix_len}
use Rattle.std.specs.Char.{is_ascii_whitespace}
use Rattle.base64.specs.Engines.{standard}
use Rattle.base64.specs.GeneralPurpose.{IsBytes, encode_of}
use Rattle.rasn_text.specs.declared.pem.Block.{Block}
use Rattle.rasn_text.specs.declared.pem.PemError.{PemError}
use Rattle.rasn_text.specs.declared.pem.PemError.TheVariants.{End, Base64}

-- white space: horizontal tab to carriage return, and space
abbrev pub is_space : ℕ → Bool
is_space c = (c == 32) || (c == 9) || (c == 10) || (c == 11) || (c == 12) || (c == 13)

abbrev pub is_symbol : ℕ → Bool
is_symbol c = not (is_space c)

abbrev pub dashes : List ℕ
dashes = codes "-----"

abbrev pub begin : List ℕ
begin = codes "-----BEGIN "

abbrev pub end : List ℕ
end = codes "-----END "

-- The lines of a text: a line feed ends each but the last, and none has one.
pub record AreLines (text : List ℕ) (lines : List (List ℕ)) : Type 0 where
  pub front : List (List ℕ)
  pub last : List ℕ
  pub are : lines ≡ front ++ last ∷ []
  pub text_is : text ≡ flat_map (λ l. l ++ 10 ∷ []) front ++ last
  pub none_has : All (All (λ c. c ≢ 10)) lines

-- The text begins with these lines, each with its line feed.
pub record AreBefore (text : List ℕ) (front : List (List ℕ)) (rest : List ℕ) : Type 0 where
  pub text_is : text ≡ flat_map (λ l. l ++ 10 ∷ []) front ++ rest
  pub none_has : All (All (λ c. c ≢ 10)) front

-- a line without white space at its end
abbrev pub trimmed : List ℕ → List ℕ
trimmed line = take (length line - suffix_len is_ascii_whitespace line) line

-- The line is such words, a label and dashes, except for white space at its end.
abbrev pub IsBoundary : List ℕ → List ℕ → List ℕ → Type 0
IsBoundary words label line = trimmed line ≡ words ++ (label ++ dashes)

abbrev pub IsNoBoundary : List ℕ → List ℕ → Type 0
IsNoBoundary words line = (label : List ℕ) → IsBoundary words label line → ⊥

-- A line of a block between the first and the last: it doesn't begin with dashes.
abbrev pub IsInside : List ℕ → Type 0
IsInside line = (rest : List ℕ) → line ≢ dashes ++ rest

-- The lines without their white space are the base64 of the octets.
abbrev pub Encode : List (List ℕ) → List ℕ → Type 0
Encode body octets = filter is_symbol (flat_map (λ l. l) body) ≡ encode_of standard octets

-- The lines after the first line of a block with this label: its body, its last line, and those after it. Or there is no last line before a
-- line of dashes.
abbrev pub IsEnded : List ℕ → List (List ℕ) → List (List ℕ) → List (List ℕ) → Type 0
IsEnded label lines body after = (last : List ℕ) × (lines ≡ body ++ last ∷ after) × All IsInside body × IsBoundary end label last

abbrev pub IsContents : List ℕ → List (List ℕ) → Result (Vec ℕ Global) PemError → List (List ℕ) → Type 0
IsContents label lines (Ok octets) after = (body : List (List ℕ)) × IsEnded label lines body after × Encode body octets.items
IsContents label lines (Err (Base64 e)) after = (body : List (List ℕ)) × IsEnded label lines body after × ((octets : List ℕ) → IsBytes octets → Encode body octets → ⊥)
IsContents label lines (Err End) after = (body : List (List ℕ)) × (lines ≡ body ++ after) × All IsInside body
    × ((last : List ℕ) (more : List (List ℕ)) → after ≡ last ∷ more → (IsInside last → ⊥) × (IsBoundary end label last → ⊥))

-- The block that begins in the line with this number, with the lines after it; or the line begins none.
abbrev pub IsNextBlock : ℕ → List ℕ → List (List ℕ) → Option Block → List (List ℕ) → Type 0
IsNextBlock number line more None after = IsNoBoundary begin line × (after ≡ more)
IsNextBlock number line more (Some b) after = IsBoundary begin b.label.now line × IsContents b.label.now more b.contents after × (b.line ≡ number)

-- The blocks that begin in the last lines of `count`, in their order: each with what is in it, and with the number of its first line, which
-- is that of all lines without those after it.
abbrev pub AreBlocks : ℕ → List (List ℕ) → List Block → Type 0
AreBlocks count lines [] = All (IsNoBoundary begin) lines
AreBlocks count lines (b ∷ bs) = (before : List (List ℕ)) × (first : List ℕ) × (more : List (List ℕ)) × (after : List (List ℕ)) × (lines ≡ before ++ first ∷ more)
    × All (IsNoBoundary begin) before × IsBoundary begin b.label.now first × IsContents b.label.now more b.contents after × (b.line + length more ≡ count) × AreBlocks count after bs

-- The blocks of a text.
abbrev pub AreBlocksOf : List ℕ → List Block → Type 0
AreBlocksOf text bs = (lines : List (List ℕ)) × AreLines text lines × AreBlocks (length lines) lines bs

-- The symbols are the base64 of the octets, or of none.
abbrev pub IsDecoded : List ℕ → Result (Vec ℕ Global) PemError → Type 0
IsDecoded symbols (Ok octets) = symbols ≡ encode_of standard octets.items
IsDecoded symbols (Err (Base64 e)) = (octets : List ℕ) → IsBytes octets → symbols ≢ encode_of standard octets
IsDecoded symbols (Err End) = ⊥
