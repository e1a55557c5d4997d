-- The texts of string types, by alphabet and by units.
use Rattle.std.proofs.Common.{◌≡◌, ℕ, ◌+◌, ◌*◌, ◌/◌, List, [], ◌∷◌, length, Bool, nat_eq, refl, ap, subst, ◌∙◌, arith}
use Rattle.std.specs.Bool.{one_answer}
use Rattle.std.specs.Cmp.Lexicographic.{pointwise, bytes_decides}
use Rattle.rasn_types.proofs.Encoding.Determined.{units_once}
use Rattle.rasn_types.specs.Framing.{AreOctets}
use Rattle.rasn_types.specs.declared.types.codec.Codec.{Codec}
use Rattle.rasn_types.specs.declared.types.strings.alphabet.Alphabet.{Alphabet}
use Rattle.rasn_types.specs.declared.types.strings.alphabet.Alphabet.TheVariants.{Numeric, Printable, Visible, Ia5, Every}
use Rattle.rasn_types.specs.Shapes.{Tree, numbers}
use Rattle.rasn_types.specs.Grammar.{Text, units, family, text_family, measure, by_size}
use Rattle.rasn_types.specs.Bytes.{WritesText}
use Rattle.rasn_types.specs.CharacterString.{AreAdmitted, string_kind, ArePaired, units_of}

-- The string types with an alphabet.
pub alphabet_family : (a : Alphabet) → family (string_kind a) ≡ text_family
alphabet_family Numeric = refl
alphabet_family Printable = refl
alphabet_family Visible = refl
alphabet_family Ia5 = refl
alphabet_family Every = refl

pub alphabet_measure : (a : Alphabet) → measure (string_kind a) ≡ by_size
alphabet_measure Numeric = refl
alphabet_measure Printable = refl
alphabet_measure Visible = refl
alphabet_measure Ia5 = refl
alphabet_measure Every = refl

pub alphabet_text : (a : Alphabet) (rule : Codec) (l : List ℕ) → AreAdmitted a l → Text rule (string_kind a) l (numbers l)
alphabet_text Numeric rule l h = (refl, h)
alphabet_text Printable rule l h = (refl, h)
alphabet_text Visible rule l h = (refl, h)
alphabet_text Ia5 rule l h = (refl, h)
alphabet_text Every rule l h = refl

pub alphabet_only : (a : Alphabet) (rule : Codec) (l : List ℕ) (t : Tree) → Text rule (string_kind a) l t → (t ≡ numbers l) × AreAdmitted a l
alphabet_only Numeric rule l t h = h
alphabet_only Printable rule l t h = h
alphabet_only Visible rule l t h = h
alphabet_only Ia5 rule l t h = h
alphabet_only Every rule l t h = (h, λ k d i. tt)

pub alphabet_writes : (a : Alphabet) (l : List ℕ) → AreAdmitted a l → WritesText (string_kind a) l (numbers l)
alphabet_writes Numeric l h = (refl, h)
alphabet_writes Printable l h = (refl, h)
alphabet_writes Visible l h = (refl, h)
alphabet_writes Ia5 l h = (refl, h)
alphabet_writes Every l h = refl

-- 16-bit units.
pub units_there : (l : List ℕ) → ArePaired l → units l (units_of l)
units_there [] h = refl
units_there (a ∷ []) h = absurd (omega arith)
units_there (a ∷ b ∷ l) h = (units_of l, refl, units_there l (omega arith))

pub units_only : (l us : List ℕ) → units l us → ArePaired l × (us ≡ units_of l)
units_only [] us h = (refl, h)
units_only (a ∷ []) us h = absurd h
units_only (a ∷ b ∷ l) us (vs, e, h) =
    let k = units_only l vs h in
    let p = k.0 in
    (omega arith, e ∙ ap (λ z. (256 * a + b) ∷ z) k.1)

pub length-units_of : (l : List ℕ) → length (units_of l) ≡ length l / 2
length-units_of [] = refl
length-units_of (a ∷ []) = refl
length-units_of (a ∷ b ∷ l) = let k = length-units_of l in omega arith

-- Strings of whole units are equal exactly if their units are.
pub units_told : (k l : List ℕ) (r : Bool) → ArePaired k → ArePaired l → AreOctets k → AreOctets l → r ≡ pointwise nat_eq k l → r ≡ pointwise nat_eq (units_of k) (units_of l)
units_told k l r p q o u e = e ∙ one_answer (pointwise nat_eq k l) (pointwise nat_eq (units_of k) (units_of l)) (bytes_decides k l) (
  (λ f. units_once k l (units_of l) o u (subst (units k) ((bytes_decides (units_of k) (units_of l)).0 f) (units_there k p)) (units_there l q)),
  (λ f. (bytes_decides (units_of k) (units_of l)).1 (ap units_of f)),
)
