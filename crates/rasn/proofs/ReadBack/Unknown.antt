-- Octets that are kept are read back.
use Rattle.std.proofs.Common.{◌≡◌, ℕ, List, ◌++◌, Bool, refl, subst}
use Rattle.rasn_types.specs.Tags.{form, loose_form, loose}
use Rattle.rasn_types.specs.declared.types.codec.Codec.{Codec}
use Rattle.rasn_types.specs.declared.types.codec.Codec.TheVariants.{Ber, Cer, Der}
use Rattle.rasn_types.specs.declared.types.tag.Tag.{Tag}
use Rattle.rasn_types.specs.Framing.{NextTag, Frame, with_length, definite, CompleteEncoding, plain}
use Rattle.rasn_types.specs.Shapes.{Tree, numbers, chosen}
use Rattle.rasn_types.specs.Readings.{ReadsUnknown}
use Rattle.rasn_types.specs.Grammar.{ReadsAny}
use Rattle.rasn_types.specs.Carried.{IsOneEncoding, IsUnknownValue}
use Rattle.rasn.proofs.ReadBack.Parts.{next_more}

pub whole_frame : (rule : Codec) {input rest c : List ℕ} {s : Tag} {b : Bool} → Frame loose_form input s b rest (definite c) → Frame (loose rule) input s b rest (definite c)
whole_frame Ber (with_length id len c p q z e) = with_length id len c p q (λ h. absurd h) e
whole_frame Cer (with_length id len c p q z e) = with_length id len c p q (λ h. absurd h) e
whole_frame Der (with_length id len c p q z e) = with_length id len c p q (λ h. absurd h) e

pub whole_octets : (rule : Codec) (u : Tree) (b : List ℕ) → IsOneEncoding u → u ≡ numbers b → CompleteEncoding rule b
whole_octets rule u b m e = let h : m.octets ≡ b = let i = m.is in cc in subst (CompleteEncoding rule) h (plain m.tag m.bit m.contents (whole_frame rule m.frame))

-- An unknown value is read, whatever follows.
pub unknown_read : (rule : Codec) (P : Tag → Type 0) (k : ℕ) (u : Tree) (b : List ℕ) → IsUnknownValue rule P u → u ≡ numbers b → CompleteEncoding rule b → (rest : List ℕ) → ReadsUnknown rule P k (ReadsAny rule) (b ++ rest) (chosen k u) rest
unknown_read rule P k u b m e whole rest =
    let h : m.one.octets ≡ b = let i = m.one.is in cc in
    (u, refl, m.tag, next_more rest (subst (λ l. NextTag (form rule) l m.tag) h m.next), m.other, (b, e, whole, refl))
