-- The octets of a BOOLEAN, worked out by hand.
use Rattle.std.proofs.Common.{◌≡◌, inl, inr, ℕ, pos, List, [], ◌∷◌, Vec, Global, refl, sym, ap, ◌∙◌, subst, false, arith}
use Rattle.rasn_types.specs.declared.types.codec.Codec.TheVariants.{Der}
use Rattle.rasn_types.specs.declared.types.codec.Codec.{Codec}
use Rattle.rasn_types.specs.Framing.{definite}
use Rattle.rasn_types.specs.Tags.{der_form}
use Rattle.rasn_types.specs.Grammar.{Reads, parts_of, top}
use Rattle.rasn_types.specs.Shapes.{Tree, number, boolean}
use Rattle.rasn_types.proofs.Headers.Frames.{frame_one}
use Rattle.rasn.specs.WorkedShapes.{plain}
use Rattle.rasn.proofs.ReadBack.Headers.{short}
use Rattle.rasn_schema.specs.declared.types.NamedNumber.{NamedNumber}
use Rattle.rasn_schema.specs.declared.types.«Type».{«Type»}
use Rattle.rasn_schema.specs.Shapes.{shape_of_type}
use Rattle.rasn_dynamic.specs.Entry.{shape_of}
use Rattle.rasn_lint.specs.declared.departure.Departure.{Departure}
use Rattle.rasn_lint.specs.Lint.{IsDer, IsRefusal}
use Rattle.rasn_lint.specs.WorkedMessages.{a_boolean, short_true, long_true}
use Rattle.rasn_lint.proofs.WorkedMessages.{worked_messages}
use Rattle.rasn_print.specs.declared.types.MessageType.{MessageType}
use Rattle.rasn_print.specs.Reading.{IsMessage}
use Rattle.rasn_print.specs.Worked.{IsBoolean, IsOfNextOctet, WorkedVerdicts, followed_true}

-- The rules read the octets as a value of the type.
abbrev IsValueOf : List ℕ → Codec → List «Type» → ℕ → Type 0
IsValueOf octets rule types id = (tree : Tree) × Reads rule (shape_of types id) 128 (top rule) octets tree []

module _ (m : MessageType) (b : IsBoolean m) (octets : List ℕ) where
  types_are : IsDer (a_boolean b.names) 0 octets → IsDer m.schema.now.types.items m.root.0 octets
  types_are h = subst (λ z. IsValueOf octets Der z m.root.0) (sym b.types) (subst (λ z. IsValueOf octets Der (a_boolean b.names) z) (sym b.root) h)

  of_types : IsDer m.schema.now.types.items m.root.0 octets → IsDer (a_boolean b.names) 0 octets
  of_types h = subst (λ z. IsValueOf octets Der (a_boolean b.names) z) b.root (subst (λ z. IsValueOf octets Der z m.root.0) b.types h)

  message : IsDer (a_boolean b.names) 0 octets → IsMessage m octets
  message h = subst (λ z. IsValueOf octets z m.schema.now.types.items m.root.0) (sym b.rule) (types_are h)

  of_message : IsMessage m octets → IsDer (a_boolean b.names) 0 octets
  of_message h = of_types (subst (λ z. IsValueOf octets z m.schema.now.types.items m.root.0) b.rule h)

-- ---- an octet after the value

shape_is : (names : Vec NamedNumber Global) → shape_of (a_boolean names) 0 ≡ plain boolean 1
unfolding shape_of_type
shape_is names = refl

true_by_der : Reads Der (plain boolean 1) 128 false followed_true (number (pos 1)) (0 ∷ [])
unfolding Reads parts_of
true_by_der = ((false, 255 ∷ [], short 1 false (255 ∷ []) (0 ∷ []) (omega arith) (omega arith) (omega arith), (pos 1, refl, inr (refl, refl)), λ s. (refl, tt)), tt)

-- The octets after the contents are those after the value.
alone : (t : Tree) → Reads Der (plain boolean 1) 128 false followed_true t [] → ⊥
unfolding Reads parts_of
alone t ((bit, contents, frame, value, by), w) =
    let e : ◌≡◌ {A = List ℕ} (0 ∷ []) [] = (frame_one {rule = der_form} _ (short 1 false (255 ∷ []) (0 ∷ []) (omega arith) (omega arith) (omega arith)) frame).rest in
    cc

not_alone : (names : Vec NamedNumber Global) → IsDer (a_boolean names) 0 followed_true → ⊥
not_alone names (t, r) = alone t (subst (λ s. Reads Der s 128 false followed_true t []) (shape_is names) r)

refusal : (names : Vec NamedNumber Global) (d : Departure) → IsOfNextOctet d → IsRefusal (a_boolean names) 0 followed_true d
refusal names d o =
    let read = subst (λ s. Reads Der s 128 false followed_true (number (pos 1)) (0 ∷ [])) (sym (shape_is names)) true_by_der in
    (inr (number (pos 1), 0 ∷ [], read, record { extra = record { some = λ e. cc; told = o.error }; offset = o.offset; steps = o.steps }), o.inner, rw o.error o.aspect)

pub worked_verdicts : (m : MessageType) → IsBoolean m → WorkedVerdicts m
worked_verdicts m b =
    let w = worked_messages b.names in
    record {
      passed = λ text. message m b short_true w.read;
      not_refused = λ reason h. h (message m b short_true w.read);
      refused = λ reason h. w.not_read (of_message m b long_true h);
      not_passed = λ text h. w.not_read (of_message m b long_true h);
      der_passed = λ text. (types_are m b short_true w.read, tt);
      not_der_refused = λ reason h. h.1.0 (types_are m b short_true w.read);
      not_der_passed = λ text h. w.not_read (of_types m b long_true h.0);
      no_list = λ reasons h. h;
      no_der_list = λ reasons h. h;
      der_refused = λ d o reason. (d, (λ h. not_alone b.names (of_types m b followed_true h), subst (λ z. IsRefusal m.schema.now.types.items z followed_true d) (sym b.root) (subst (λ z. IsRefusal z 0 followed_true d) (sym b.types) (refusal b.names d o))));
      not_followed = λ text h. not_alone b.names (of_types m b followed_true h.0);
    }
