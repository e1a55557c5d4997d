-- What a frame begins with.
use Rattle.std.proofs.Common.{◌≡◌, ℕ, ◌+◌, ◌*◌, ◌<◌, ◌≤◌, ◌⊎◌, inl, inr, Bool, true, List, [], ◌∷◌, ◌++◌, length, sym, ◌∙◌, arith, length-append}
use Rattle.rasn_types.specs.declared.types.tag.Tag.{Tag}
use Rattle.rasn_types.specs.declared.types.tag.Class.TheVariants.{Universal}
use Rattle.rasn_types.specs.Tags.{Form, rank, eoc}
use Rattle.rasn_types.specs.Framing.{bit_of, Spells128, SpellsIdentifier, SpellsLength, Extent, indefinite, Frame, with_length, without_length}
use Rattle.rasn_types.proofs.Headers.Frames.{rank_one}
use Rattle.rasn_de.proofs.Headers.Identifiers.{tag_is}

id_not_zero : (a x y : List ℕ) (s : Tag) (b : Bool) → SpellsIdentifier a s b → a ++ x ≡ 0 ∷ y → ⊥
id_not_zero [] x y s b i e = i.spells
id_not_zero (i ∷ a) x y s b j e = j.is_one (go j.spells.number)
  where
    zero_first : i ≡ 0
    zero_first = cc

    leads : 0 ≡ 64 * rank s.class + (32 * bit_of b + j.spells.low)
    leads = let f = j.spells.leading in let g = zero_first in cc

    go : ((j.spells.low < 31) × (a ≡ []) × (s.value ≡ j.spells.low)) ⊎ ((j.spells.low ≡ 31) × Spells128 a s.value) → s ≡ eoc
    go (inl (p, q, r)) = let f = leads in tag_is s eoc (rank_one s.class Universal (omega arith)) (omega arith)
    go (inr (p, q)) = let f = leads in absurd (omega arith)

-- A header begins with no zero.
pub frame_not_zero : {spelling : Form} {input : List ℕ} {s : Tag} {b : Bool} {rest : List ℕ} {m : Extent} (y : List ℕ) → Frame spelling input s b rest m → input ≡ 0 ∷ y → ⊥
frame_not_zero {s = s} {b = b} y (with_length id len contents p q strict e) f = id_not_zero id _ y s b p (sym e ∙ f)
frame_not_zero {s = s} {b = b} y (without_length id p q r e) f = id_not_zero id _ y s b p (sym e ∙ f)

pub frame_bit : {spelling : Form} {input : List ℕ} {tag : Tag} {bit : Bool} {rest : List ℕ} → Frame spelling input tag bit rest indefinite → bit ≡ true
frame_bit (without_length id s b h e) = b

id_length : (id : List ℕ) (tag : Tag) (bit : Bool) → SpellsIdentifier id tag bit → 1 ≤ length id
id_length [] tag bit h = absurd h.spells
id_length (b ∷ l) tag bit h = omega arith

len_length : (len : List ℕ) (n : ℕ) → SpellsLength len n → 1 ≤ length len
len_length [] n h = absurd h
len_length (b ∷ l) n h = omega arith

pub frame_shorter : {spelling : Form} {input : List ℕ} {tag : Tag} {bit : Bool} {rest : List ℕ} {extent : Extent} → Frame spelling input tag bit rest extent → length rest + 2 ≤ length input
frame_shorter {tag = tag} {bit = bit} {rest = rest} (with_length id len contents s a strict e) =
    rw e (simp length-append (omega (arith, id_length id tag bit s, len_length len (length contents) a)))
frame_shorter {tag = tag} {bit = bit} {rest = rest} (without_length id s b h e) =
    rw e (simp length-append (omega (arith, id_length id tag bit s)))
