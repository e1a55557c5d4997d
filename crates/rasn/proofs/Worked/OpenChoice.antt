-- A CHOICE with an extension marker, with its octets.
use Rattle.std.proofs.Common.{◌≡◌, inl, inr, [], ◌∷◌, false, pos, refl, sym, ap, subst, arith}
use Rattle.rasn_types.specs.Tags.{Form, form, HasStrictForm, basic_form, der_form, loose_form, rank, in_universal}
use Rattle.rasn_types.specs.declared.types.codec.Codec.{Codec}
use Rattle.rasn_types.specs.declared.types.codec.Codec.TheVariants.{Ber, Der}
use Rattle.rasn_types.specs.declared.types.tag.Class.TheVariants.{Context}
use Rattle.rasn_types.specs.declared.types.tag.Tag.{Tag}
use Rattle.rasn_types.specs.Framing.{SpellsIdentifier, IsShortestIdentifier, Frame, with_length, definite, NextTag, plain as whole}
use Rattle.rasn_types.specs.Shapes.{Tree, number, numbers, chosen, boolean, choice, IsFirstOf}
use Rattle.rasn_types.specs.Grammar.{Reads, parts_of, top}
use Rattle.rasn_types.specs.Bytes.{Bytes, fields_of}
use Rattle.rasn_types.specs.Carried.{IsUnknownValue, IsWithinLimits, Carried}
use Rattle.rasn_types.proofs.Lawful.{lawful}
use Rattle.rasn_types.proofs.Headers.Frames.{frame_next, id_one, next_one}
use Rattle.rasn.specs.Worked.{IsCarriedAs, IsLenient, IsReadAs, IsRefusedBy}
use Rattle.rasn.specs.WorkedShapes.{contextual, known_alternatives, extensible_choice}
use Rattle.rasn.specs.WorkedValues.{WorkedOpenChoice}
use Rattle.rasn.proofs.ReadBack.Begins.{begins, chosen_is_next}
use Rattle.rasn.proofs.ReadBack.Headers.{short, short_written, plain_read, spelled, context_apart, context_frame}
use Rattle.rasn.proofs.ReadBack.Parts.{nothing_is_next, none_within}
use Rattle.rasn.proofs.Worked.Lenient.{lenient}

-- 01 01 FF
truth_next : NextTag der_form (1 ∷ 1 ∷ 255 ∷ []) (in_universal 1)
truth_next = frame_next (short {spelling = der_form} 1 false (255 ∷ []) [] (omega arith) (omega arith) (omega arith))

known_read : IsReadAs Der extensible_choice (1 ∷ 1 ∷ 255 ∷ []) (chosen 0 (number (pos 1))) []
unfolding Reads parts_of
known_read = inl (inl (
  number (pos 1),
  refl,
  in_universal 1,
  truth_next,
  refl,
  (plain_read Der boolean 1 (255 ∷ []) [] (number (pos 1)) 128 (omega arith) (omega arith) (omega arith) (pos 1, refl, inr (refl, refl)) (λ z. (refl, tt)), tt),
  λ z. tt,
))

-- 01 01 05
truth_framed : {spelling : Form} → Frame spelling (1 ∷ 1 ∷ 5 ∷ []) (in_universal 1) false [] (definite (5 ∷ []))
truth_framed = short 1 false (5 ∷ []) [] (omega arith) (omega arith) (omega arith)

known_in_ber : IsReadAs Ber extensible_choice (1 ∷ 1 ∷ 5 ∷ []) (chosen 0 (number (pos 1))) []
unfolding Reads parts_of
known_in_ber =
    inl (inl (number (pos 1), refl, in_universal 1, frame_next truth_framed, refl, ((false, 5 ∷ [], truth_framed, (pos 1, refl, (5, refl, inr ((λ e. omega arith), refl))), λ s. absurd s), tt), λ z. tt))

known_carried : Carried Der extensible_choice (chosen 0 (number (pos 1)))
unfolding Bytes fields_of IsWithinLimits
known_carried = record {
  octets = 1 ∷ 1 ∷ 255 ∷ [];
  is = inl (inl (
    number (pos 1),
    refl,
    (tt, (255 ∷ [], record { is = (pos 1, refl, inr (refl, refl)); octets = (omega arith, tt); shortest = tt }, short_written 1 false (255 ∷ []) (omega arith) (omega arith))),
  ));
  within_limits = inl (inl (number (pos 1), refl, tt));
}

known_refused : IsLenient extensible_choice (1 ∷ 1 ∷ 5 ∷ []) (chosen 0 (number (pos 1)))
unfolding known_carried
known_refused = lenient extensible_choice (lawful _ refl) (1 ∷ 1 ∷ 5 ∷ []) (omega arith, (omega arith, (omega arith, tt))) (chosen 0 (number (pos 1))) known_in_ber known_carried (λ e. cc)

-- 81 01 07
framed : {spelling : Form} → Frame spelling (129 ∷ 1 ∷ 7 ∷ []) (contextual 1) false [] (definite (7 ∷ []))
framed = context_frame 1 false (7 ∷ []) [] (omega arith) (omega arith)

unknown_tag : IsFirstOf known_alternatives (contextual 1) → ⊥
unknown_tag (inl e) = let f : rank (contextual 1).class ≡ rank (in_universal 1).class = ap (λ (t : Tag). rank t.class) e in omega (arith, f)
unknown_tag (inr (inl e)) = let f = ap (λ (t : Tag). t.value) e in omega (arith, f)
unknown_tag (inr (inr e)) = e

unknown_read : (rule : Codec) → IsReadAs rule extensible_choice (129 ∷ 1 ∷ 7 ∷ []) (chosen 2 (numbers (129 ∷ 1 ∷ 7 ∷ []))) []
unfolding Reads parts_of
unknown_read rule = inr (numbers (129 ∷ 1 ∷ 7 ∷ []), refl, contextual 1, frame_next framed, unknown_tag, (129 ∷ 1 ∷ 7 ∷ [], refl, whole (contextual 1) false (7 ∷ []) framed, refl))

no_marker : (rule : Codec) → IsRefusedBy rule (choice known_alternatives) (129 ∷ 1 ∷ 7 ∷ [])
no_marker rule t rest h =
    let b = begins (choice known_alternatives) (tt, (tt, tt)) tt rule 128 (top rule) (129 ∷ 1 ∷ 7 ∷ []) t rest h in
    unknown_tag (subst (IsFirstOf known_alternatives) (next_one (129 ∷ 1 ∷ 7 ∷ []) b.0 (contextual 1) b.1 (frame_next (framed {spelling = basic_form}))) b.2)

-- 9F 01 01 07
long_spells : SpellsIdentifier (159 ∷ 1 ∷ []) (contextual 1) false
long_spells = record {
  spells = record { low = 31; leading = refl; number = inr (refl, record { chain = inl (omega arith, refl); is = refl; below = omega arith }) };
  is_one = context_apart 1;
}

long_framed : Frame basic_form (159 ∷ 1 ∷ 1 ∷ 7 ∷ []) (contextual 1) false [] (definite (7 ∷ []))
long_framed = with_length (159 ∷ 1 ∷ []) (1 ∷ []) (7 ∷ []) long_spells (inl (omega arith, refl, refl)) (λ s. absurd s) refl

long_in_ber : IsReadAs Ber extensible_choice (159 ∷ 1 ∷ 1 ∷ 7 ∷ []) (chosen 2 (numbers (159 ∷ 1 ∷ 1 ∷ 7 ∷ []))) []
unfolding Reads parts_of
long_in_ber =
    inr (numbers (159 ∷ 1 ∷ 1 ∷ 7 ∷ []), refl, contextual 1, frame_next long_framed, unknown_tag, (159 ∷ 1 ∷ 1 ∷ 7 ∷ [], refl, whole (contextual 1) false (7 ∷ []) long_framed, refl))

no_long_tag : IsRefusedBy Der extensible_choice (159 ∷ 1 ∷ 1 ∷ 7 ∷ [])
no_long_tag t rest h = go (chosen_is_next Der known_alternatives 128 false (159 ∷ 1 ∷ 1 ∷ 7 ∷ []) t rest h)
  where
    go : (n : Tag) × NextTag der_form (159 ∷ 1 ∷ 1 ∷ 7 ∷ []) n → ⊥
    go (n, next) =
        let o = id_one next.begins.id (159 ∷ 1 ∷ []) next.begins.more (1 ∷ 7 ∷ []) n (contextual 1) next.begins.bit false next.begins.spells long_spells.spells (sym next.begins.is) in
        let k = subst (λ l. IsShortestIdentifier l n) o.octets (next.shortest tt) in
        let f = ap (λ (t : Tag). t.value) o.tag in
        omega (arith, k.0, f)

-- 81 81 01 07
length_framed : (spelling : Form) → (HasStrictForm spelling → ⊥) → Frame spelling (129 ∷ 129 ∷ 1 ∷ 7 ∷ []) (contextual 1) false [] (definite (7 ∷ []))
length_framed spelling lenient =
    with_length (129 ∷ []) (129 ∷ 1 ∷ []) (7 ∷ []) (record { spells = spelled Context 1 false (omega arith); is_one = context_apart 1 }) (inr (refl, omega arith, omega arith, refl, omega arith)) (λ s. absurd (lenient s)) refl

length_next : (spelling : Form) → NextTag spelling (129 ∷ 129 ∷ 1 ∷ 7 ∷ []) (contextual 1)
length_next spelling = record {
  begins = record { id = 129 ∷ []; bit = false; more = 129 ∷ 1 ∷ 7 ∷ []; spells = spelled Context 1 false (omega arith); is = refl };
  is_one = context_apart 1;
  shortest = λ s. tt;
}

long_length : IsReadAs Der extensible_choice (129 ∷ 129 ∷ 1 ∷ 7 ∷ []) (chosen 2 (numbers (129 ∷ 129 ∷ 1 ∷ 7 ∷ []))) []
unfolding Reads parts_of
long_length =
    inr (numbers (129 ∷ 129 ∷ 1 ∷ 7 ∷ []), refl, contextual 1, length_next der_form, unknown_tag, (129 ∷ 129 ∷ 1 ∷ 7 ∷ [], refl, whole (contextual 1) false (7 ∷ []) (length_framed loose_form (λ s. s)), refl))

no_value : (rule : Codec) → IsRefusedBy rule extensible_choice []
no_value rule t rest h = let n = chosen_is_next rule known_alternatives 128 (top rule) [] t rest h in nothing_is_next (form rule, n.0, n.1)

unknown_carried : IsCarriedAs Der extensible_choice (chosen 2 (numbers (129 ∷ 1 ∷ 7 ∷ []))) (129 ∷ 1 ∷ 7 ∷ [])
unfolding Bytes fields_of IsWithinLimits
unknown_carried = (
  record {
    octets = 129 ∷ 1 ∷ 7 ∷ [];
    is = inr refl;
    within_limits = inr (
      numbers (129 ∷ 1 ∷ 7 ∷ []),
      refl,
      record {
        one = record { octets = 129 ∷ 1 ∷ 7 ∷ []; is = refl; tag = contextual 1; bit = false; contents = 7 ∷ []; frame = framed };
        tag = contextual 1;
        next = frame_next framed;
        other = unknown_tag;
      },
    );
  },
  refl,
)

known_written : Bytes Der extensible_choice (chosen 2 (numbers (1 ∷ 1 ∷ 255 ∷ []))) (1 ∷ 1 ∷ 255 ∷ [])
unfolding Bytes fields_of
known_written = inr refl

known_not_carried : Carried Der extensible_choice (chosen 2 (numbers (1 ∷ 1 ∷ 255 ∷ []))) → ⊥
unfolding IsWithinLimits
known_not_carried c = none c.within_limits
  where
    known : (u : Tree) → u ≡ numbers (1 ∷ 1 ∷ 255 ∷ []) → IsUnknownValue Der (IsFirstOf known_alternatives) u → ⊥
    known u e m =
        let f : m.one.octets ≡ 1 ∷ 1 ∷ 255 ∷ [] = let i = m.one.is in cc in
        let g : m.tag ≡ in_universal 1 = next_one (1 ∷ 1 ∷ 255 ∷ []) m.tag (in_universal 1) (subst (λ l. NextTag der_form l m.tag) f m.next) truth_next in
        m.other (inl g)

    none : IsWithinLimits Der extensible_choice 128 (chosen 2 (numbers (1 ∷ 1 ∷ 255 ∷ []))) → ⊥
    none (inl m) = none_within Der known_alternatives 128 (chosen 2 (numbers (1 ∷ 1 ∷ 255 ∷ []))) (numbers (1 ∷ 1 ∷ 255 ∷ [])) refl m
    none (inr (u, e, m)) = let f : u ≡ numbers (1 ∷ 1 ∷ 255 ∷ []) = cc in known u f m

pub worked : WorkedOpenChoice
worked = record {
  known_read = known_read;
  known_refused = known_refused;
  unknown_read = unknown_read;
  no_marker = no_marker;
  long_tag = (long_in_ber, no_long_tag);
  long_length = long_length;
  no_value = no_value;
  unknown_carried = unknown_carried;
  known_written = known_written;
  known_not_carried = known_not_carried;
}
