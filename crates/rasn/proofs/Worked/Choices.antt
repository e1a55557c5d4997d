-- An optional CHOICE before another component, read by hand.
use Rattle.std.proofs.Common.{◌≡◌, inl, inr, [], ◌∷◌, true, false, pos, refl, ap, arith}
use Rattle.rasn_types.specs.Tags.{form, in_universal}
use Rattle.rasn_types.specs.declared.types.codec.Codec.{Codec}
use Rattle.rasn_types.specs.declared.types.tag.Tag.{Tag}
use Rattle.rasn_types.specs.Shapes.{number, items, chosen, absent, every, boolean, integer, IsFirst}
use Rattle.rasn_types.specs.Framing.{NextTag}
use Rattle.rasn_types.specs.Readings.{definite_form}
use Rattle.rasn_types.specs.Grammar.{Reads, parts_of, top}
use Rattle.rasn_types.proofs.Headers.Frames.{frame_next}
use Rattle.rasn_types.proofs.Lawful.{lawful}
use Rattle.rasn.specs.Worked.{IsReadAs}
use Rattle.rasn.specs.WorkedShapes.{truth_or_number, choice_before}
use Rattle.rasn.proofs.ReadBack.Headers.{short, going, plain_read}
use Rattle.rasn.proofs.OneReading.Shapes.{reads_one}
use Rattle.rasn.proofs.Worked.Parts.{full_true}

integer_isnt_first : IsFirst truth_or_number (in_universal 2) → ⊥
integer_isnt_first (inl e) = let v = ap (λ (x : Tag). x.value) e in cc
integer_isnt_first (inr (inl e)) = let v = ap (λ (x : Tag). x.value) e in cc
integer_isnt_first (inr (inr e)) = e

pub choice_absent : (rule : Codec) → IsReadAs rule choice_before (48 ∷ 3 ∷ 2 ∷ 1 ∷ 7 ∷ []) (items (absent ∷ number (pos 7) ∷ [])) []
unfolding Reads parts_of
choice_absent rule = (
  omega arith,
  definite_form (2 ∷ 1 ∷ 7 ∷ []) (short 16 true (2 ∷ 1 ∷ 7 ∷ []) [] (omega arith) (omega arith) (omega arith)) (
    absent ∷ number (pos 7) ∷ [],
    refl,
    inr (
      (λ b. b.0 (inr (inl refl))),
      (
        absent,
        number (pos 7) ∷ [],
        2 ∷ 1 ∷ 7 ∷ [],
        refl,
        inl (inr (in_universal 2, frame_next (short {spelling = form rule} 2 false (7 ∷ []) [] (omega arith) (omega arith) (omega arith)), integer_isnt_first), refl, refl),
        (
          number (pos 7),
          [],
          [],
          refl,
          (plain_read rule (integer every) 2 (7 ∷ []) [] (number (pos 7)) 127 (omega arith) (omega arith) (omega arith) (refl, (λ e. cc), tt) (λ z. (refl, tt)), tt),
          (refl, refl),
        ),
      ),
    ),
  ),
)

pub choice_present : (rule : Codec) → IsReadAs rule choice_before (48 ∷ 6 ∷ 1 ∷ 1 ∷ 255 ∷ 2 ∷ 1 ∷ 7 ∷ []) (items (chosen 0 (number (pos 1)) ∷ number (pos 7) ∷ [])) []
unfolding Reads parts_of
choice_present rule =
    let next : NextTag (form rule) (1 ∷ 1 ∷ 255 ∷ 2 ∷ 1 ∷ 7 ∷ []) (in_universal 1) =
    frame_next (short {spelling = form rule} 1 false (255 ∷ []) (2 ∷ 1 ∷ 7 ∷ []) (omega arith) (omega arith) (omega arith)) in (
      omega arith,
      definite_form (1 ∷ 1 ∷ 255 ∷ 2 ∷ 1 ∷ 7 ∷ []) (short 16 true (1 ∷ 1 ∷ 255 ∷ 2 ∷ 1 ∷ 7 ∷ []) [] (omega arith) (omega arith) (omega arith)) (
        chosen 0 (number (pos 1)) ∷ number (pos 7) ∷ [],
        refl,
        inr (
          (λ b. b.0 (inr (inl refl))),
          (
            chosen 0 (number (pos 1)),
            number (pos 7) ∷ [],
            2 ∷ 1 ∷ 7 ∷ [],
            refl,
            inr (
              (going false 1 _ (omega arith), in_universal 1, next, inl refl),
              inl (
                number (pos 1),
                refl,
                in_universal 1,
                next,
                refl,
                (plain_read rule boolean 1 (255 ∷ []) (2 ∷ 1 ∷ 7 ∷ []) (number (pos 1)) 127 (omega arith) (omega arith) (omega arith) (pos 1, refl, full_true rule) (λ z. (refl, tt)), tt),
                (λ z. tt),
              ),
            ),
            (
              number (pos 7),
              [],
              [],
              refl,
              (plain_read rule (integer every) 2 (7 ∷ []) [] (number (pos 7)) 127 (omega arith) (omega arith) (omega arith) (refl, (λ e. cc), tt) (λ z. (refl, tt)), tt),
              (refl, refl),
            ),
          ),
        ),
      ),
    )

pub choice_not_left_out : (rule : Codec) → IsReadAs rule choice_before (48 ∷ 6 ∷ 1 ∷ 1 ∷ 255 ∷ 2 ∷ 1 ∷ 7 ∷ []) (items (absent ∷ number (pos 7) ∷ [])) [] → ⊥
choice_not_left_out rule h =
    let e : items (chosen 0 (number (pos 1)) ∷ number (pos 7) ∷ []) ≡ items (absent ∷ number (pos 7) ∷ []) =
    (reads_one choice_before (lawful _ refl) rule 128 (top rule) _ _ _ _ _ (choice_present rule) h).0 in cc
