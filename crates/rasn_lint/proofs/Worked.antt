-- Encodings worked out by hand.
use Rattle.std.proofs.Common.{◌≡◌, ℕ, ◌+◌, ◌*◌, ◌<◌, inl, inr, List, [], ◌∷◌, ◌++◌, length, Bool, true, false, refl, ap, arith}
use Rattle.rasn_types.specs.declared.types.tag.Tag.{Tag}
use Rattle.rasn_types.specs.Tags.{der_form, in_universal}
use Rattle.rasn_types.specs.Framing.{bit_of, SpellsIdentifier, Frame, with_length, definite}
use Rattle.rasn_lint.specs.Universal.{rule_in}
use Rattle.rasn_lint.specs.WellFormed.{IsWellFormed, primitive, constructed, none, one_more, AreEncodings}
use Rattle.rasn_lint.proofs.Steps.{primitive_first, constructed_first}

pub universal_id : (n : ℕ) (bit : Bool) → 0 < n → n < 31 → SpellsIdentifier ((32 * bit_of bit + n) ∷ []) (in_universal n) bit
universal_id n bit p q = record {
  spells = record { low = n; leading = omega arith; number = inl (q, refl, refl) };
  is_one = λ e. let v : n ≡ 0 = ap (λ (t : Tag). t.value) e in omega (arith, v, p);
}

-- An encoding with a low universal tag and a short length.
framed : (n : ℕ) (bit : Bool) (c rest : List ℕ) → 0 < n → n < 31 → length c < 128
    → Frame der_form ((32 * bit_of bit + n) ∷ (length c) ∷ (c ++ rest)) (in_universal n) bit rest (definite c)
framed n bit c rest p q r = with_length ((32 * bit_of bit + n) ∷ []) (length c ∷ []) c (universal_id n bit p q) (inl (r, refl, refl)) (λ h. (tt, tt)) refl

boolean_frame : (b : ℕ) → Frame der_form (1 ∷ 1 ∷ b ∷ []) (in_universal 1) false [] (definite (b ∷ []))
boolean_frame b = framed 1 false (b ∷ []) [] (omega arith) (omega arith) (omega arith)

sequence_frame : (b : ℕ) → Frame der_form (48 ∷ 3 ∷ 1 ∷ 1 ∷ b ∷ []) (in_universal 16) true [] (definite (1 ∷ 1 ∷ b ∷ []))
sequence_frame b = framed 16 true (1 ∷ 1 ∷ b ∷ []) [] (omega arith) (omega arith) (omega arith)

pub boolean : IsWellFormed (1 ∷ 1 ∷ 255 ∷ [])
unfolding rule_in
boolean = primitive (in_universal 1) (255 ∷ []) (boolean_frame 255) (inr refl)

pub sequence : IsWellFormed (48 ∷ 3 ∷ 1 ∷ 1 ∷ 255 ∷ [])
unfolding rule_in
sequence = constructed (in_universal 16) ((1 ∷ 1 ∷ 255 ∷ []) ∷ []) (sequence_frame 255) tt (one_more boolean none)

no_booleans : AreEncodings (1 ∷ 1 ∷ 1 ∷ []) → ⊥
unfolding rule_in
no_booleans w = elim (primitive_first (boolean_frame 1) w).0 [ inl e ↦ cc | inr e ↦ cc ]

pub no_boolean : IsWellFormed (1 ∷ 1 ∷ 1 ∷ []) → ⊥
no_boolean h = no_booleans ((1 ∷ 1 ∷ 1 ∷ []) ∷ [], refl, one_more h none)

pub no_sequence : IsWellFormed (48 ∷ 3 ∷ 1 ∷ 1 ∷ 1 ∷ []) → ⊥
no_sequence h =
    let p = constructed_first (sequence_frame 1) ((48 ∷ 3 ∷ 1 ∷ 1 ∷ 1 ∷ []) ∷ [], refl, one_more h none) in
    no_booleans (p.parts, p.are, p.formed)
