-- UTF8Strings in segments, of which a check keeps only the last octets.
use Rattle.std.specs.Prelude.{◌≡◌, ◌<◌, ◌≤◌, ◌+◌, ◌-◌, ◌^◌, ◌⊎◌, min, ℕ, Bool, true, false, List, [], ◌∷◌, ◌++◌, length, take, Result, chars, IsUtf8}
use Rattle.rasn_types.specs.declared.types.constraints.Constraints.{Constraints}
use Rattle.rasn_de.specs.declared.ber.de.parser.ParseError.{ParseError}
use Rattle.rasn_de.specs.declared.ber.de.parser.text_scan.Held.{Held}
use Rattle.rasn_de.specs.declared.ber.de.parser.text_scan.Held.TheVariants.{Nothing, One, Two, Three, Unfit}
use Rattle.rasn_de.specs.CharacterString.{ByUtf8, ChecksString}
use Rattle.rasn_de.specs.ParserViews.{SeesMore}

-- No front of the octets is a text, except the empty one.
abbrev pub BeginsNoText : List ℕ → Type 0
BeginsNoText l = (m : ℕ) → 0 < m → m ≤ length l → IsUtf8 (take m l) → ⊥

-- Octets are a text, whose characters are counted, followed by some that no text begins. The count is right if there are
-- fewer than 2 ^ 64 octets.
pub record HasText (count : ℕ) (held seen : List ℕ) : Type 0 where
  pub front : List ℕ
  pub is : seen ≡ front ++ held
  pub text : IsUtf8 front
  pub counted : length front < 2 ^ 64 → count ≡ length (chars front)
  pub none : BeginsNoText held

-- What is known of octets that were seen: no further octets make a text of unfit ones.
abbrev pub ScansText : ℕ → Held → List ℕ → Type 0
ScansText count Nothing seen = HasText count [] seen
ScansText count (One a) seen = HasText count (a ∷ []) seen
ScansText count (Two a b) seen = HasText count (a ∷ b ∷ []) seen
ScansText count (Three a b c) seen = HasText count (a ∷ b ∷ c ∷ []) seen
ScansText count Unfit seen = (more : List ℕ) → IsUtf8 (seen ++ more) → ⊥

-- The characters of a text are added to a count.
abbrev pub CountsMore : List ℕ → ℕ → ℕ → Type 0
CountsMore octets old new = new ≡ min (old + length (chars octets)) (2 ^ 64 - 1)

-- The octets are a text, which is counted; or they are not, and next is held.
abbrev pub SettlesText : List ℕ → Held → ℕ → ℕ → Held → Type 0
SettlesText octets next old new held =
    (IsUtf8 octets × (held ≡ Nothing) × CountsMore octets old new) ⊎ ((IsUtf8 octets → ⊥) × (held ≡ next) × (new ≡ old))

-- Nothing is held, and octets that are a text are counted; or nothing changes.
abbrev pub TakesText : List ℕ → ℕ → Held → ℕ → Held → Bool → Type 0
TakesText octets old held new kept true = (held ≡ Nothing) × (kept ≡ Nothing) × IsUtf8 octets × CountsMore octets old new
TakesText octets old held new kept false = (new ≡ old) × (kept ≡ held)

-- The octets that were seen are accepted or refused, if they are fewer than 2 ^ 64.
abbrev pub ChecksScannedText : Constraints → ℕ → Held → Result (Unit {0}) ParseError → Type 0
ChecksScannedText bounds count held result = (seen : List ℕ) → length seen < 2 ^ 64 → ScansText count held seen → ChecksString (ByUtf8 bounds.size) seen (chars seen) result
