-- The fewest octets of a tag number and of a length, and one more.
use Rattle.std.proofs.Common.{◌≡◌, ◌≢◌, ℕ, inl, inr, List, [], ◌∷◌, length, pos, false, refl, sym, ap, arith, append-nil}
use Rattle.rasn_types.specs.declared.types.codec.Codec.{Codec}
use Rattle.rasn_types.specs.declared.types.codec.Codec.TheVariants.{Ber, Cer, Der}
use Rattle.rasn_types.specs.Framing.{SpellsIdentifier, SpellsLength, AreOctets, with_length}
use Rattle.rasn_types.specs.Shapes.{number, numbers, boolean, octet_string}
use Rattle.rasn_types.specs.Contents.{IsBool, primitive}
use Rattle.rasn_types.specs.Grammar.{Reads, parts_of}
use Rattle.rasn_types.specs.Bytes.{Bytes, fields_of}
use Rattle.rasn_types.specs.Carried.{IsWithinLimits, Carried}
use Rattle.rasn_types.specs.Lawful.{IsLawful}
use Rattle.rasn.specs.Worked.{IsReadAs, IsLenient, plain, contextual}
use Rattle.rasn.specs.WorkedShapes.{tagged}
use Rattle.rasn.specs.WorkedHeaders.{WorkedHeaders}
use Rattle.rasn.proofs.ReadBack.Headers.{context_apart, short_id}
use Rattle.rasn.proofs.Worked.Lenient.{lenient}
use Rattle.rasn.proofs.Worked.Shapes.{octets_lawful}

-- [31], as 9F 1F and as 9F 80 1F.
short_31 : SpellsIdentifier (159 ∷ 31 ∷ []) (contextual 31) false
short_31 = record { spells = record { low = 31; leading = refl; number = inr (refl, record { chain = inl (omega arith, refl); is = refl; below = omega arith }) }; is_one = context_apart 31 }

padded_31 : SpellsIdentifier (159 ∷ 128 ∷ 31 ∷ []) (contextual 31) false
padded_31 = record {
  spells = record { low = 31; leading = refl; number = inr (refl, record { chain = inr (omega arith, inl (omega arith, refl)); is = refl; below = omega arith }) };
  is_one = context_apart 31;
}

true_read : (rule : Codec) → IsBool rule (255 ∷ []) (pos 1)
true_read Ber = (255, refl, inr ((λ e. omega arith), refl))
true_read Cer = inr (refl, refl)
true_read Der = inr (refl, refl)

tag_31 : (rule : Codec) → IsReadAs rule (tagged boolean 31) (159 ∷ 31 ∷ 1 ∷ 255 ∷ []) (number (pos 1)) []
unfolding Reads parts_of
tag_31 rule = (
  (
    false,
    255 ∷ [],
    with_length (159 ∷ 31 ∷ []) (1 ∷ []) (255 ∷ []) short_31 (inl (omega arith, refl, refl)) (λ s. ((omega arith, λ e. omega arith), tt)) refl,
    (pos 1, refl, true_read rule),
    λ s. (refl, tt),
  ),
  tt,
)

tagged_lawful : IsLawful (tagged boolean 31)
unfolding IsLawful
tagged_lawful = (context_apart 31, tt)

tagged_carried : Carried Der (tagged boolean 31) (number (pos 1))
unfolding Bytes fields_of IsWithinLimits
tagged_carried = record {
  octets = 159 ∷ 31 ∷ 1 ∷ 255 ∷ [];
  is = (
    tt,
    (
      255 ∷ [],
      record { is = (pos 1, refl, inr (refl, refl)); octets = (omega arith, tt); shortest = tt },
      record {
        id = 159 ∷ 31 ∷ [];
        len = 1 ∷ [];
        id_spells = short_31.spells;
        id_shortest = (omega arith, λ e. omega arith);
        id_octets = (omega arith, (omega arith, tt));
        len_spells = inl (omega arith, refl, refl);
        len_shortest = tt;
        len_octets = (omega arith, tt);
        is = refl;
      },
    ),
  );
  within_limits = tt;
}

padded_tag_31 : IsLenient (tagged boolean 31) (159 ∷ 128 ∷ 31 ∷ 1 ∷ 255 ∷ []) (number (pos 1))
unfolding Reads parts_of tagged_carried
padded_tag_31 = lenient (tagged boolean 31) tagged_lawful (159 ∷ 128 ∷ 31 ∷ 1 ∷ 255 ∷ []) (omega arith, (omega arith, (omega arith, (omega arith, (omega arith, tt))))) (number (pos 1)) (
  (
    false,
    255 ∷ [],
    with_length (159 ∷ 128 ∷ 31 ∷ []) (1 ∷ []) (255 ∷ []) padded_31 (inl (omega arith, refl, refl)) (λ s. absurd s) refl,
    (pos 1, refl, true_read Ber),
    λ s. absurd s,
  ),
  tt,
) tagged_carried (λ e. cc)

-- 128 octets, after 81 80 and after 82 00 80.
length_128 : (octets : List ℕ) → length octets ≡ 128 → SpellsLength (129 ∷ 128 ∷ []) (length octets)
length_128 octets e = inr (refl, omega arith, omega arith, e, omega (arith, e))

padded_128 : (octets : List ℕ) → length octets ≡ 128 → SpellsLength (130 ∷ 0 ∷ 128 ∷ []) (length octets)
padded_128 octets e = inr (refl, omega arith, omega arith, e, omega (arith, e))

octets_128 : (rule : Codec) (octets : List ℕ) → length octets ≡ 128 → IsReadAs rule (plain octet_string 4) (4 ∷ 129 ∷ 128 ∷ octets) (numbers octets) []
unfolding Reads parts_of
octets_128 rule octets e = (
  (
    octets,
    primitive octets (with_length (4 ∷ []) (129 ∷ 128 ∷ []) octets (short_id 4 false (omega arith) (omega arith)) (length_128 octets e)
        (λ s. (tt, (omega (arith, e), λ z. omega arith))) (ap (λ l. 4 ∷ 129 ∷ 128 ∷ l) (sym (append-nil octets)))) refl,
    refl,
  ),
  tt,
)

octets_carried : (octets : List ℕ) → length octets ≡ 128 → AreOctets octets → (c : Carried Der (plain octet_string 4) (numbers octets)) × (c.octets ≡ 4 ∷ 129 ∷ 128 ∷ octets)
unfolding Bytes fields_of IsWithinLimits
octets_carried octets e o = (
  record {
    octets = 4 ∷ 129 ∷ 128 ∷ octets;
    is = (
      tt,
      (
        octets,
        refl,
        inl (
          (λ z. absurd z),
          octets,
          (refl, o),
          record {
            id = 4 ∷ [];
            len = 129 ∷ 128 ∷ [];
            id_spells = (short_id 4 false (omega arith) (omega arith)).spells;
            id_shortest = tt;
            id_octets = (omega arith, tt);
            len_spells = length_128 octets e;
            len_shortest = (omega (arith, e), λ z. omega arith);
            len_octets = (omega arith, (omega arith, tt));
            is = refl;
          },
        ),
      ),
    );
    within_limits = (tt, λ l w z. absurd z);
  },
  refl,
)

padded_octets_128 : (octets : List ℕ) → length octets ≡ 128 → AreOctets octets → IsLenient (plain octet_string 4) (4 ∷ 130 ∷ 0 ∷ 128 ∷ octets) (numbers octets)
unfolding Reads parts_of
padded_octets_128 octets e o =
    let c = octets_carried octets e o in
    lenient (plain octet_string 4) octets_lawful (4 ∷ 130 ∷ 0 ∷ 128 ∷ octets) (omega arith, (omega arith, (omega arith, (omega arith, o)))) (numbers octets) (
      (
        octets,
        primitive octets (with_length (4 ∷ []) (130 ∷ 0 ∷ 128 ∷ []) octets (short_id 4 false (omega arith) (omega arith)) (padded_128 octets e) (λ s. absurd s)
            (ap (λ l. 4 ∷ 130 ∷ 0 ∷ 128 ∷ l) (sym (append-nil octets)))) refl,
        refl,
      ),
      tt,
    ) c.0 (other c.0.octets c.1)
  where
    other : (l : List ℕ) → l ≡ 4 ∷ 129 ∷ 128 ∷ octets → l ≢ 4 ∷ 130 ∷ 0 ∷ 128 ∷ octets
    other l f g =
        let h : ◌≡◌ {A = List ℕ} (4 ∷ 129 ∷ 128 ∷ octets) (4 ∷ 130 ∷ 0 ∷ 128 ∷ octets) = cc in
        let i : ◌≡◌ {A = ℕ} 129 130 = cc in omega arith

pub worked : WorkedHeaders
worked = record {
  number_30 = tt;
  long_number_30 = λ h. omega (arith, h.0);
  number_31 = (omega arith, λ e. omega arith);
  padded_number_31 = λ h. h.1 refl;
  length_127 = tt;
  long_length_127 = λ h. omega (arith, h.0);
  length_128 = (omega arith, λ e. omega arith);
  padded_length_128 = λ h. h.1 refl;
  tag_31 = tag_31;
  padded_tag_31 = padded_tag_31;
  octets_128 = octets_128;
  padded_octets_128 = padded_octets_128;
}
