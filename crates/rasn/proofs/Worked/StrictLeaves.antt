-- Headers and contents that DER doesn't read.
use Rattle.std.proofs.Common.{◌≡◌, ℕ, ◌^◌, ◌<◌, ◌≢◌, inl, inr, List, [], ◌∷◌, length, Bool, true, false, pos, negsuc, Some, refl, sym, ap, subst, arith}
use Rattle.rasn_types.specs.Tags.{basic_form, der_form, loose_form, in_universal}
use Rattle.rasn_types.specs.declared.types.codec.Codec.TheVariants.{Ber, Der}
use Rattle.rasn_types.specs.declared.types.tag.Class.TheVariants.{Context}
use Rattle.rasn_types.specs.Framing.{number_in, AreOctets, SpellsIdentifier, Spells128, Frame, with_length, definite, IsShortestIdentifier, NextTag}
use Rattle.rasn_types.specs.Shapes.{number, bits, numbers, any, prefix, every, boolean, integer, object_identifier, bit_string, named_bits, octet_string}
use Rattle.rasn_types.specs.Readings.{definite_form}
use Rattle.rasn_types.specs.Contents.{primitive}
use Rattle.rasn_types.specs.Grammar.{Reads, parts_of}
use Rattle.rasn_types.specs.Bytes.{Bytes, fields_of}
use Rattle.rasn_types.specs.Carried.{IsWithinLimits, Carried}
use Rattle.rasn_types.specs.Lawful.{IsLawful}
use Rattle.rasn_types.proofs.Headers.Frames.{id_one}
use Rattle.rasn.specs.Worked.{IsLenient, plain, contextual}
use Rattle.rasn.proofs.ReadBack.Headers.{no_eoc, short_id, short, plain_read, bits_read, short_written, tag_written, context_frame, context_apart}
use Rattle.rasn.proofs.Worked.Lenient.{lenient}
use Rattle.rasn.proofs.Worked.Shapes.{bool_lawful, integer_lawful, octets_lawful}
use Rattle.rasn.proofs.Worked.Values.{one_arc, octets_written}

true_carried : Carried Der (plain boolean 1) (number (pos 1))
unfolding Bytes fields_of IsWithinLimits
true_carried = record {
  octets = 1 ∷ 1 ∷ 255 ∷ [];
  is = (tt, (255 ∷ [], record { is = (pos 1, refl, inr (refl, refl)); octets = (omega arith, tt); shortest = tt }, short_written 1 false (255 ∷ []) (omega arith) (omega arith)));
  within_limits = tt;
}

high_spells : SpellsIdentifier (31 ∷ 1 ∷ []) (in_universal 1) false
high_spells = record {
  spells = record { low = 31; leading = refl; number = inr (refl, record { chain = inl (omega arith, refl); is = refl; below = omega arith }) };
  is_one = no_eoc 1 (omega arith);
}

bool_refused : (bit : Bool) (input : List ℕ) → AreOctets input → Frame basic_form input (in_universal 1) bit [] (definite (255 ∷ [])) → 1 ∷ 1 ∷ 255 ∷ [] ≢ input → IsLenient (plain boolean 1) input (number (pos 1))
unfolding Reads parts_of true_carried
bool_refused bit input o f n = lenient (plain boolean 1) bool_lawful input o (number (pos 1))
    ((bit, 255 ∷ [], f, (pos 1, refl, (255, refl, inr ((λ e. omega arith), refl))), λ z. absurd z), tt) true_carried n

pub high_tag : IsLenient (plain boolean 1) (31 ∷ 1 ∷ 1 ∷ 255 ∷ []) (number (pos 1))
high_tag = bool_refused false (31 ∷ 1 ∷ 1 ∷ 255 ∷ []) (omega arith, (omega arith, (omega arith, (omega arith, tt))))
    (with_length (31 ∷ 1 ∷ []) (1 ∷ []) (255 ∷ []) high_spells (inl (omega arith, refl, refl)) (λ s. absurd s) refl) (λ e. cc)

pub high_tag_next : NextTag der_form (31 ∷ 1 ∷ 1 ∷ 255 ∷ []) (in_universal 1) → ⊥
high_tag_next n =
    let o = id_one n.begins.id (31 ∷ 1 ∷ []) n.begins.more (1 ∷ 255 ∷ []) (in_universal 1) (in_universal 1) n.begins.bit false n.begins.spells high_spells.spells (sym n.begins.is) in
    no_high n.begins.id o.octets (n.shortest tt)
  where
    no_high : (id : List ℕ) → id ≡ 31 ∷ 1 ∷ [] → IsShortestIdentifier id (in_universal 1) → ⊥
    no_high id e h = let k = subst (λ l. IsShortestIdentifier l (in_universal 1)) e h in omega (arith, k.0)

pub long_length : IsLenient (plain boolean 1) (1 ∷ 129 ∷ 1 ∷ 255 ∷ []) (number (pos 1))
long_length = bool_refused false (1 ∷ 129 ∷ 1 ∷ 255 ∷ []) (omega arith, (omega arith, (omega arith, (omega arith, tt))))
    (with_length (1 ∷ []) (129 ∷ 1 ∷ []) (255 ∷ []) (record { spells = record { low = 1; leading = refl; number = inl (omega arith, refl, refl) }; is_one = no_eoc 1 (omega arith) })
    (inr (refl, omega arith, omega arith, refl, omega arith)) (λ s. absurd s) refl) (λ e. cc)

pub built_bool : IsLenient (plain boolean 1) (33 ∷ 1 ∷ 255 ∷ []) (number (pos 1))
built_bool = bool_refused true (33 ∷ 1 ∷ 255 ∷ []) (omega arith, (omega arith, (omega arith, tt))) (short 1 true (255 ∷ []) [] (omega arith) (omega arith) (omega arith)) (λ e. cc)

five_carried : Carried Der (plain (integer every) 2) (number (pos 5))
unfolding Bytes fields_of IsWithinLimits
five_carried = record {
  octets = 2 ∷ 1 ∷ 5 ∷ [];
  is = (tt, (5 ∷ [], record { is = (refl, (λ e. cc), tt); octets = (omega arith, tt); shortest = tt }, short_written 2 false (5 ∷ []) (omega arith) (omega arith)));
  within_limits = tt;
}

pub padded_integer : IsLenient (plain (integer every) 2) (2 ∷ 2 ∷ 0 ∷ 5 ∷ []) (number (pos 5))
unfolding Reads parts_of five_carried
padded_integer = lenient (plain (integer every) 2) integer_lawful (2 ∷ 2 ∷ 0 ∷ 5 ∷ []) (omega arith, (omega arith, (omega arith, (omega arith, tt)))) (number (pos 5))
    (plain_read Ber (integer every) 2 (0 ∷ 5 ∷ []) [] (number (pos 5)) 128 (omega arith) (omega arith) (omega arith) (refl, (λ e. cc), tt) (λ z. absurd z), tt) five_carried (λ e. cc)

prefix_lawful : IsLawful (prefix (contextual 0) (plain (integer every) 2))
unfolding IsLawful
prefix_lawful = (context_apart 0, tt, integer_lawful)

pub primitive_prefix : IsLenient (prefix (contextual 0) (plain (integer every) 2)) (128 ∷ 3 ∷ 2 ∷ 1 ∷ 5 ∷ []) (number (pos 5))
unfolding Reads parts_of Bytes fields_of IsWithinLimits five_carried
primitive_prefix = lenient (prefix (contextual 0) (plain (integer every) 2)) prefix_lawful (128 ∷ 3 ∷ 2 ∷ 1 ∷ 5 ∷ [])
    (omega arith, (omega arith, (omega arith, (omega arith, (omega arith, tt))))) (number (pos 5)) (
      omega arith,
      false,
      (λ z. absurd z),
      definite_form (2 ∷ 1 ∷ 5 ∷ []) (context_frame 0 false (2 ∷ 1 ∷ 5 ∷ []) [] (omega arith) (omega arith))
          (plain_read Ber (integer every) 2 (5 ∷ []) [] (number (pos 5)) 127 (omega arith) (omega arith) (omega arith) (refl, (λ e. cc), tt) (λ z. absurd z), tt),
    )
    (record { octets = 160 ∷ 3 ∷ 2 ∷ 1 ∷ 5 ∷ []; is = (2 ∷ 1 ∷ 5 ∷ [], five_carried.is, tag_written Context 0 true (2 ∷ 1 ∷ 5 ∷ []) (omega arith) (omega arith)); within_limits = (omega arith, tt) }) (λ e. omega (arith, ap (λ l. number_in 256 l) e))

open_lawful : IsLawful (any (Some (contextual 0)))
unfolding IsLawful
open_lawful = context_apart 0

pub primitive_open : IsLenient (any (Some (contextual 0))) (128 ∷ 2 ∷ 5 ∷ 0 ∷ []) (numbers (5 ∷ 0 ∷ []))
unfolding Reads parts_of Bytes fields_of IsWithinLimits
primitive_open = lenient (any (Some (contextual 0))) open_lawful (128 ∷ 2 ∷ 5 ∷ 0 ∷ []) (omega arith, (omega arith, (omega arith, (omega arith, tt)))) (numbers (5 ∷ 0 ∷ []))
    (false, 5 ∷ 0 ∷ [], refl, (λ z. absurd z), inl (context_frame 0 false (5 ∷ 0 ∷ []) [] (omega arith) (omega arith)))
    (record {
      octets = 160 ∷ 2 ∷ 5 ∷ 0 ∷ [];
      is = (5 ∷ 0 ∷ [], refl, inr ((λ e. cc), tag_written Context 0 true (5 ∷ 0 ∷ []) (omega arith) (omega arith)));
      within_limits = record { octets = 5 ∷ 0 ∷ []; is = refl; tag = in_universal 5; bit = false; contents = []; frame = short {spelling = loose_form} 5 false [] [] (omega arith) (omega arith) (omega arith) };
    }) (λ e. omega (arith, ap (λ l. number_in 256 l) e))

padded_one : Spells128 (128 ∷ 1 ∷ []) 1
padded_one = record { chain = inr (omega arith, inl (omega arith, refl)); is = refl; below = omega arith }

pub padded_arc : IsLenient (plain object_identifier 6) (6 ∷ 3 ∷ 42 ∷ 128 ∷ 1 ∷ []) (numbers (1 ∷ 2 ∷ 1 ∷ []))
unfolding Reads parts_of Bytes fields_of IsWithinLimits IsLawful
padded_arc = lenient (plain object_identifier 6) (no_eoc 6 (omega arith), tt) (6 ∷ 3 ∷ 42 ∷ 128 ∷ 1 ∷ []) (omega arith, (omega arith, (omega arith, (omega arith, (omega arith, tt)))))
    (numbers (1 ∷ 2 ∷ 1 ∷ [])) (
      plain_read Ber object_identifier 6 (42 ∷ 128 ∷ 1 ∷ []) [] (numbers (1 ∷ 2 ∷ 1 ∷ [])) 128 (omega arith) (omega arith) (omega arith)
          (1 ∷ 2 ∷ 1 ∷ [], refl, (42, 1 ∷ [], (42 ∷ [], 128 ∷ 1 ∷ [], one_arc 42 (omega arith), refl, (128 ∷ 1 ∷ [], [], padded_one, refl, refl)), refl)) (λ z. absurd z),
      tt,
    )
    (record {
      octets = 6 ∷ 2 ∷ 42 ∷ 1 ∷ [];
      is = (
        tt,
        (
          42 ∷ 1 ∷ [],
          record {
            is = (1 ∷ 2 ∷ 1 ∷ [], refl, (42, 1 ∷ [], (42 ∷ [], 1 ∷ [], one_arc 42 (omega arith), refl, (1 ∷ [], [], one_arc 1 (omega arith), refl, refl)), refl));
            octets = (omega arith, (omega arith, tt));
            shortest = (42 ∷ 1 ∷ [], (42 ∷ [], 1 ∷ [], one_arc 42 (omega arith), (λ e. omega arith), refl, (1 ∷ [], [], one_arc 1 (omega arith), (λ e. omega arith), refl, refl)));
          },
          short_written 6 false (42 ∷ 1 ∷ []) (omega arith) (omega arith),
        ),
      );
      within_limits = tt;
    }) (λ e. cc)

-- three bits, and unused ones
three : List Bool
three = true ∷ true ∷ true ∷ []

pub set_bits : IsLenient (plain bit_string 3) (3 ∷ 2 ∷ 5 ∷ 255 ∷ []) (bits (true ∷ true ∷ true ∷ []))
unfolding Reads parts_of Bytes fields_of IsWithinLimits IsLawful three
set_bits = lenient (plain bit_string 3) (no_eoc 3 (omega arith), refl) (3 ∷ 2 ∷ 5 ∷ 255 ∷ []) (omega arith, (omega arith, (omega arith, (omega arith, tt)))) (bits three) (
  (
    three,
    refl,
    omega arith,
    bits_read Ber 3 (5 ∷ 255 ∷ []) [] three 128 (omega arith) (omega arith) (omega arith)
        (record { octets = 255 ∷ []; unused = true ∷ true ∷ true ∷ true ∷ true ∷ []; is = refl; few = omega arith; all = refl }, λ z. absurd z),
  ),
  tt,
)
    (record {
      octets = 3 ∷ 2 ∷ 5 ∷ 224 ∷ [];
      is = (
        tt,
        (
          three,
          refl,
          inl (
            (λ z. absurd z),
            5 ∷ 224 ∷ [],
            record {
              is = record { octets = 224 ∷ []; unused = false ∷ false ∷ false ∷ false ∷ false ∷ []; is = refl; few = omega arith; all = refl };
              zeros = (refl, (refl, (refl, (refl, (refl, tt)))));
              octets = (omega arith, (omega arith, tt));
            },
            short_written 3 false (5 ∷ 224 ∷ []) (omega arith) (omega arith),
          ),
        ),
      );
      within_limits = λ bs e. (few bs e, λ z. absurd z);
    }) (λ e. omega (arith, ap (λ l. number_in 256 l) e))
  where
    few : (bs : List Bool) → bits three ≡ bits bs → length bs < 2 ^ 64
    few bs e = let f : length three ≡ length bs = cc in omega arith

pub trailing_zero : IsLenient (plain named_bits 3) (3 ∷ 2 ∷ 6 ∷ 128 ∷ []) (bits (true ∷ []))
unfolding Reads parts_of Bytes fields_of IsWithinLimits IsLawful
trailing_zero = lenient (plain named_bits 3) (no_eoc 3 (omega arith), refl) (3 ∷ 2 ∷ 6 ∷ 128 ∷ []) (omega arith, (omega arith, (omega arith, (omega arith, tt)))) (bits (true ∷ [])) (
  (
    true ∷ false ∷ [],
    refl,
    omega arith,
    bits_read Ber 3 (6 ∷ 128 ∷ []) [] (true ∷ false ∷ []) 128 (omega arith) (omega arith) (omega arith)
        (record { octets = 128 ∷ []; unused = false ∷ false ∷ false ∷ false ∷ false ∷ false ∷ []; is = refl; few = omega arith; all = refl }, λ z. absurd z),
    λ z. absurd z,
  ),
  (0, tt),
)
    (record {
      octets = 3 ∷ 2 ∷ 7 ∷ 128 ∷ [];
      is = (
        (0, tt),
        (
          true ∷ [],
          refl,
          refl,
          inl (
            (λ z. absurd z),
            7 ∷ 128 ∷ [],
            record {
              is = record { octets = 128 ∷ []; unused = false ∷ false ∷ false ∷ false ∷ false ∷ false ∷ false ∷ []; is = refl; few = omega arith; all = refl };
              zeros = (refl, (refl, (refl, (refl, (refl, (refl, (refl, tt)))))));
              octets = (omega arith, (omega arith, tt));
            },
            short_written 3 false (7 ∷ 128 ∷ []) (omega arith) (omega arith),
          ),
        ),
      );
      within_limits = λ bs e. (few bs e, λ z. absurd z);
    }) (λ e. omega (arith, ap (λ l. number_in 256 l) e))
  where
    few : (bs : List Bool) → bits (true ∷ []) ≡ bits bs → length bs < 2 ^ 64
    few bs e = let f : 1 ≡ length bs = cc in omega arith

pub padded_negative : IsLenient (plain (integer every) 2) (2 ∷ 2 ∷ 255 ∷ 128 ∷ []) (number (negsuc 127))
unfolding Reads parts_of Bytes fields_of IsWithinLimits
padded_negative = lenient (plain (integer every) 2) integer_lawful (2 ∷ 2 ∷ 255 ∷ 128 ∷ []) (omega arith, (omega arith, (omega arith, (omega arith, tt)))) (number (negsuc 127))
    (plain_read Ber (integer every) 2 (255 ∷ 128 ∷ []) [] (number (negsuc 127)) 128 (omega arith) (omega arith) (omega arith) (refl, (λ e. cc), tt) (λ z. absurd z), tt) (record {
      octets = 2 ∷ 1 ∷ 128 ∷ [];
      is = (tt, (128 ∷ [], record { is = (refl, (λ e. cc), tt); octets = (omega arith, tt); shortest = tt }, short_written 2 false (128 ∷ []) (omega arith) (omega arith)));
      within_limits = tt;
    }) (λ e. cc)

pub long_octets : IsLenient (plain octet_string 4) (4 ∷ 129 ∷ 2 ∷ 161 ∷ 178 ∷ []) (numbers (161 ∷ 178 ∷ []))
unfolding Reads parts_of IsWithinLimits
long_octets = lenient (plain octet_string 4) octets_lawful (4 ∷ 129 ∷ 2 ∷ 161 ∷ 178 ∷ []) (omega arith, (omega arith, (omega arith, (omega arith, (omega arith, tt))))) (numbers (161 ∷ 178 ∷ [])) (
  (
    161 ∷ 178 ∷ [],
    primitive (161 ∷ 178 ∷ [])
        (with_length (4 ∷ []) (129 ∷ 2 ∷ []) (161 ∷ 178 ∷ []) (short_id 4 false (omega arith) (omega arith)) (inr (refl, omega arith, omega arith, refl, omega arith)) (λ s. absurd s) refl)
        refl,
    refl,
  ),
  tt,
) (record { octets = 4 ∷ 2 ∷ 161 ∷ 178 ∷ []; is = octets_written Der (161 ∷ 178 ∷ []) (omega arith, (omega arith, tt)) (omega arith); within_limits = (tt, λ l e z. absurd z) }) (λ e. omega (arith, ap (λ l. number_in 256 l) e))
