-- Headers of short values, and values in one primitive encoding.
use Rattle.std.proofs.Common.{◌≡◌, ℕ, ◌+◌, ◌*◌, ◌<◌, ◌≢◌, inl, inr, List, [], ◌∷◌, ◌++◌, length, Bool, true, false, refl, ap, arith}
use Rattle.rasn_types.specs.Tags.{Form, eoc, in_universal, rank, IsStrict, tag_bit}
use Rattle.rasn_types.specs.declared.types.tag.Class.{Class}
use Rattle.rasn_types.specs.declared.types.tag.Class.TheVariants.{Universal, Context}
use Rattle.rasn_types.specs.declared.types.tag.Tag.{Tag}
use Rattle.rasn_types.specs.Framing.{bit_of, SpellsAnyIdentifier, SpellsIdentifier, HasIndefinite, Frame, with_length, without_length, definite, indefinite, Begins, Ended, NextTag}
use Rattle.rasn_types.specs.Bytes.{DefiniteForm, IndefiniteForm}
use Rattle.rasn_types.specs.declared.types.codec.Codec.{Codec}
use Rattle.rasn_types.specs.Shapes.{Tree, Kind}
use Rattle.rasn_types.specs.Contents.{Contents, IsShortest, ReadsString, primitive, ReadsBitSegment, OctetSegment}
use Rattle.rasn_types.specs.Grammar.{plain_family, ReadsIn}
use Rattle.rasn_types.proofs.Headers.Frames.{not_ended, rank_small, bit_small}
use Rattle.rasn.specs.WorkedShapes.{contextual}

pub no_eoc : (n : ℕ) → 0 < n → in_universal n ≢ eoc
no_eoc n h e = let f : n ≡ 0 = ap (λ (t : Tag). t.value) e in omega arith

pub short_id : (n : ℕ) (bit : Bool) → 0 < n → n < 31 → SpellsIdentifier ((32 * bit_of bit + n) ∷ []) (in_universal n) bit
short_id n bit h k = record { spells = record { low = n; leading = omega arith; number = inl (k, refl, refl) }; is_one = no_eoc n h }

pub short : {spelling : Form} (n : ℕ) (bit : Bool) (contents rest : List ℕ) → 0 < n → n < 31 → length contents < 128
    → Frame spelling ((32 * bit_of bit + n) ∷ length contents ∷ (contents ++ rest)) (in_universal n) bit rest (definite contents)
short n bit contents rest h k l =
    with_length ((32 * bit_of bit + n) ∷ []) (length contents ∷ []) contents (short_id n bit h k) (inl (l, refl, refl)) (λ s. (tt, tt)) refl

pub without : {spelling : Form} (n : ℕ) (rest : List ℕ) → HasIndefinite spelling → 0 < n → n < 31
    → Frame spelling ((32 + n) ∷ 128 ∷ rest) (in_universal n) true rest indefinite
without n rest has h k = without_length ((32 + n) ∷ []) (short_id n true h k) refl has refl

-- Contents that begin with an octet that isn't 0 haven't ended.
pub going : (closing : Bool) (b : ℕ) (l : List ℕ) → 0 < b → Ended closing (b ∷ l) → ⊥
going closing b l h (inl e) = cc
going closing b l h (inr e) = let f = e.2 in let g : b ≡ 0 = cc in omega arith

pub short_written : (n : ℕ) (bit : Bool) (contents : List ℕ) → n < 31 → length contents < 128
    → DefiniteForm (in_universal n) bit contents ((32 * bit_of bit + n) ∷ length contents ∷ contents)
short_written n bit contents k l = record {
  id = (32 * bit_of bit + n) ∷ [];
  len = length contents ∷ [];
  id_spells = record { low = n; leading = omega arith; number = inl (k, refl, refl) };
  id_shortest = tt;
  id_octets = (first_octet bit, tt);
  len_spells = inl (l, refl, refl);
  len_shortest = tt;
  len_octets = (omega arith, tt);
  is = refl;
}
  where
    first_octet : (bit : Bool) → 32 * bit_of bit + n < 256
    first_octet true = omega arith
    first_octet false = omega arith

pub closed_written : (n : ℕ) (contents : List ℕ) → n < 31 → IndefiniteForm (in_universal n) contents ((32 + n) ∷ 128 ∷ (contents ++ (0 ∷ 0 ∷ [])))
closed_written n contents k = record {
  id = (32 + n) ∷ [];
  id_spells = record { low = n; leading = omega arith; number = inl (k, refl, refl) };
  id_shortest = tt;
  id_octets = (omega arith, tt);
  is = refl;
}

-- A value of a plain kind, whose contents are the shortest where they have to be.
pub plain_read : (rule : Codec) (kind : Kind) (n : ℕ) (contents rest : List ℕ) (t : Tree) (depth : ℕ) → 0 < n → n < 31 → length contents < 128
    → Contents rule kind contents t → (IsStrict rule → (false ≡ tag_bit (in_universal n)) × IsShortest kind contents) → ReadsIn plain_family rule kind (in_universal n) depth ((32 * bit_of false + n) ∷ length contents ∷ (contents ++ rest)) t rest
plain_read rule kind n contents rest t depth h k l c s = (false, contents, short n false contents rest h k l, c, s)

-- A primitive string of octets.
pub octets_read : (rule : Codec) (n : ℕ) (contents rest : List ℕ) (depth : ℕ) → 0 < n → n < 31 → length contents < 128
    → ReadsString rule OctetSegment (in_universal 4) depth (in_universal n) ((32 * bit_of false + n) ∷ length contents ∷ (contents ++ rest)) contents rest
octets_read rule n contents rest depth h k l = primitive contents (short n false contents rest h k l) refl

-- A primitive piece of bits.
pub bits_read : (rule : Codec) (n : ℕ) (contents rest : List ℕ) (bs : List Bool) (depth : ℕ) → 0 < n → n < 31 → length contents < 128 → ReadsBitSegment rule contents bs
    → ReadsString rule (ReadsBitSegment rule) (in_universal 3) depth (in_universal n) ((32 * bit_of false + n) ∷ length contents ∷ (contents ++ rest)) bs rest
bits_read rule n contents rest bs depth h k l s = primitive contents (short n false contents rest h k l) s

pub no_next : (spelling : Form) (tag : Tag) → NextTag spelling (0 ∷ 0 ∷ []) tag → ⊥
no_next spelling tag h = not_ended true (0 ∷ 0 ∷ []) tag h (inr (refl, [], refl))

-- Headers of one octet and a short length, in any class.
pub spelled : (c : Class) (n : ℕ) (bit : Bool) → n < 31 → SpellsAnyIdentifier ((64 * rank c + (32 * bit_of bit + n)) ∷ []) (record { class = c; value = n }) bit
spelled c n bit h = record { low = n; leading = refl; number = inl (h, refl, refl) }

pub first_octet : (c : Class) (n : ℕ) (bit : Bool) → n < 31 → 64 * rank c + (32 * bit_of bit + n) < 256
first_octet c n bit h = omega (arith, rank_small c, bit_small bit)

pub tag_begins : (c : Class) (n : ℕ) (bit : Bool) (rest : List ℕ) → n < 31 → Begins ((64 * rank c + (32 * bit_of bit + n)) ∷ rest) (record { class = c; value = n })
tag_begins c n bit rest h = record { id = (64 * rank c + (32 * bit_of bit + n)) ∷ []; bit = bit; more = rest; spells = spelled c n bit h; is = refl }

pub tag_written : (c : Class) (n : ℕ) (bit : Bool) (contents : List ℕ) → n < 31 → length contents < 128
    → DefiniteForm (record { class = c; value = n }) bit contents ((64 * rank c + (32 * bit_of bit + n)) ∷ length contents ∷ contents)
tag_written c n bit contents h l = record {
  id = (64 * rank c + (32 * bit_of bit + n)) ∷ [];
  len = length contents ∷ [];
  id_spells = spelled c n bit h;
  id_shortest = tt;
  id_octets = (first_octet c n bit h, tt);
  len_spells = inl (l, refl, refl);
  len_shortest = tt;
  len_octets = (omega arith, tt);
  is = refl;
}

pub context_apart : (n : ℕ) → contextual n ≢ eoc
context_apart n e = let f : Context ≡ Universal = ap (λ (t : Tag). t.class) e in cc

pub context_frame : {spelling : Form} (n : ℕ) (bit : Bool) (contents rest : List ℕ) → n < 31 → length contents < 128
    → Frame spelling ((64 * 2 + (32 * bit_of bit + n)) ∷ length contents ∷ (contents ++ rest)) (contextual n) bit rest (definite contents)
context_frame n bit contents rest h l = with_length ((64 * 2 + (32 * bit_of bit + n)) ∷ []) (length contents ∷ []) contents
    (record { spells = spelled Context n bit h; is_one = context_apart n }) (inl (l, refl, refl)) (λ s. (tt, tt)) refl
