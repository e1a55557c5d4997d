-- Elements up to the end are decoded or refused if each element is.
use Rattle.std.proofs.Common.{◌≡◌, ℕ, zero, suc, ◌+◌, ◌<◌, ◌≤◌, ◌^◌, inl, inr, List, [], ◌∷◌, ◌++◌, length, Vec, None, Ok, refl, sym, ap, ◌∙◌, subst, arith, length-append}
use Rattle.std.specs.Global.{Global}
use Rattle.std.specs.Prelude.{vec_len}
use denote.RawPtr.{null_ptr}
use Rattle.rasn_types.specs.declared.types.codec.Codec.{Codec}
use Rattle.rasn_types.specs.declared.types.codec.Codec.TheVariants.{Ber, Cer, Der}
use Rattle.rasn_types.specs.declared.types.tag.Tag.{Tag}
use Rattle.rasn_types.specs.declared.types.constraints.Constraints.{Constraints}
use Rattle.rasn_types.specs.declared.types.unknown.Unknown.{Unknown}
use Rattle.rasn_types.specs.declared.error.decode.DecodeError.{DecodeError}
use Rattle.rasn_types.specs.Tags.{IsStrict, eoc}
use Rattle.rasn_types.specs.Order.{IsLess, AreAscending}
use Rattle.rasn_types.specs.Framing.{AreOctets, Ended}
use Rattle.rasn_types.specs.Shapes.{Tree, set_elements, numbers, any, Shape, list, set_of, unknown, constraint_of}
use Rattle.rasn_types.specs.Trees.{list_tree}
use Rattle.rasn_types.specs.declared.error.decode.DerDecodeErrorKind.TheVariants.{SetOfOutOfOrder}
use Rattle.rasn_de.specs.declared.ber.de.parser.ParseError.TheVariants.{SizeConstraintNotSatisfied, UnexpectedExtraData, Der as der_fault}
use Rattle.rasn_de.specs.Causes.{error_kind}
use Rattle.rasn_de.specs.State.{State, Call, at}
use Rattle.rasn_de.specs.Constructed.{list_header, DecodesInside}
use Rattle.rasn_de.specs.SequenceOf.{ReadsElements, ReadsSetElements, DecodesInTurn, DecodesElements, DecodesInTurnFrom, DecodesElementsInOrder, DecodesSized, DecodesSequenceOfBy, DecodesSetOfBy}
use Rattle.rasn_de.specs.Any.{DecodesOpenType}
use Rattle.rasn_de.specs.Unknown.{DecodesUnknown}
use Rattle.rasn_de.specs.Decodes.{Decodes}
use Rattle.rasn_de.specs.ValueErrors.{Errors, errors_of, DecodesOr}
use Rattle.rasn_de.proofs.Any.Reads.{open_decodes}
use Rattle.rasn_de.proofs.Any.Unknown.{unknown_decodes}
use Rattle.rasn_de.proofs.Constructed.NextElement.{passes_more}
use Rattle.rasn_de.proofs.Constructed.SetOfElements.{each_decodes, in_order_decodes, passes_from}
use Rattle.rasn_de.proofs.Constructed.ValueErrors.{elements_by, in_order_by, or_decodes, sequence_of_or, set_of_or}
use Rattle.rasn.specs.OneRefusal.{ReadingBy, ReadsShape, Settles}
use Rattle.rasn.proofs.OneRefusal.Calls.{octets_end, IsExactCall, exactly_ends, or_settles}
use Rattle.rasn.proofs.OneRefusal.Inside.{or_exact}
use Rattle.rasn.proofs.OneRefusal.OpenRead.{open_or}
use Rattle.rasn.proofs.OneRefusal.Settled.{ends_shorter, inside_settles}

-- A list in memory.
abbrev pub vec_of : {X : Type 0} (xs : List X) → length xs < 2 ^ 63 → Vec X Global
vec_of xs b = record { ptr = null_ptr; len = length xs; cap = length xs; alloc = record { memory = record { seal = tt } }; items = xs; ok = (refl, omega arith); small = b }

-- The rule is strict or it isn't, and P holds or it doesn't.
pub strict_or : (rule : Codec) (P : Type 0) → ((IsStrict rule → P) → ⊥) → (IsStrict rule → (P → ⊥) → ⊥) → ⊥
strict_or Ber P passed failed = passed (λ s. absurd s)
strict_or Cer P passed failed = passed (λ s. absurd s)
strict_or Der P passed failed = failed tt (λ p. passed (λ s. p))

module _ {D L : Type 0} (read : Call D) (reads : ReadingBy) (tree : D → Tree) (exact : IsExactCall read reads tree) (all : Settles read) (elements : L → List D) (made : (vs : List D) → length vs < 2 ^ 63 → (l : L) × (elements l ≡ vs)) where
  error : State → DecodeError
  error here = record { kind = error_kind (UnexpectedExtraData (length here.rest)); codec = here.rule }

  pub elements_settle : Settles (DecodesElements read elements)
  unfolding error
  elements_settle old o b passed failed = scan (suc (length old.rest)) [] old (omega arith) o (omega arith) refl
    where
      scan : (n : ℕ) (vs : List D) (here : State) → length here.rest < n → AreOctets here.rest → length vs + length here.rest ≤ length old.rest → DecodesInTurn read old vs here → ⊥
      scan zero vs here h o k p = omega (arith, h)
      scan (suc n) vs here h o k p =
          let more = λ (end : Ended here.closing here.rest). (let m = made vs (omega (arith, k, b)) in passed m.0 here (subst (λ l. DecodesInTurn read old l here) (sym m.1) p, end)) in
          all here o (omega (arith, k, b))
          (λ v next r.
          let e = (exact here o (Ok v) next r).end in
          let s = ends_shorter here.rest next.rest e in
          let stuck = λ (q : length next.rest ≡ length here.rest). failed (error here) next ((vs, here, p, more, inr (v, r, inl (q, refl))), λ w. cc) in
          let a = length-append vs (v ∷ []) in
          scan n (vs ++ v ∷ []) next (omega (arith, s, stuck, h)) (octets_end o e) (omega (arith, a, s, stuck, k)) (passes_more read here next v more r stuck old vs (vs ++ v ∷ []) refl p))
          (λ e new r. failed e new ((vs, here, p, more, inl r.0), r.1))

  pub in_order_settle : Settles (DecodesElementsInOrder read elements)
  unfolding error
  in_order_settle old o b passed failed = scan (suc (length old.rest)) [] [] old (omega arith) o (omega arith) refl (λ s. tt) (refl, refl)
    where
      scan : (n : ℕ) (vs : List D) (bs : List (List ℕ)) (here : State) → length here.rest < n → AreOctets here.rest → length vs + length here.rest ≤ length old.rest → here.rule ≡ old.rule → (IsStrict old.rule → AreAscending IsLess bs)
          → DecodesInTurnFrom read old vs bs here → ⊥
      scan zero vs bs here h o k f up p = omega (arith, h)
      scan (suc n) vs bs here h o k f up p =
          let more = λ (end : Ended here.closing here.rest). (let m = made vs (omega (arith, k, b)) in passed m.0 here (bs, subst (λ l. DecodesInTurnFrom read old l bs here) (sym m.1) p, up, end)) in
          all here o (omega (arith, k, b))
          (λ v next r.
          let x = exact here o (Ok v) next r in
          let s = ends_shorter here.rest next.rest x.end in
          let stuck = λ (q : length next.rest ≡ length here.rest). failed (error here) next ((vs, bs, here, p, up, more, inl (inr (v, r, inl (q, refl)))), λ w. cc) in
          let a = length-append vs (v ∷ []) in
          strict_or old.rule (AreAscending IsLess (bs ++ x.end.0 ∷ []))
          (λ on. scan n (vs ++ v ∷ []) (bs ++ x.end.0 ∷ []) next (omega (arith, s, stuck, h)) (octets_end o x.end) (omega (arith, a, s, stuck, k)) (ap (λ (z : State). z.rule) x.stays ∙ f) on
          (passes_from read here next v x.end.0 x.end.1 more r stuck old vs (vs ++ v ∷ []) bs refl p))
          (λ strict down.
          failed (record { kind = error_kind (der_fault SetOfOutOfOrder); codec = here.rule }) next
          ((vs, bs, here, p, up, more, inr (v, x.end.0, r, x.end.1, stuck, subst IsStrict (sym f) strict, down, refl)), λ w. cc)))
          (λ e new r. failed e new ((vs, bs, here, p, up, more, inl (inl r.0)), r.1))

-- The size is checked after the end.
sized_settles : {L : Type 0} (read : Call L) (size : L → ℕ) (tag : Tag) (c : Constraints) → Settles (DecodesInside read (list_header tag)) → Settles (DecodesSized read size tag c)
sized_settles read size tag c all old o b passed failed =
    all old o b
    (λ v new a. failed (record { kind = error_kind (SizeConstraintNotSatisfied (size v) (constraint_of c.size)); codec = old.rule }) new (inr (v, a, (λ s. passed v new (s, a)), refl), λ w. cc))
    (λ e new a. failed e new (inl a.0, a.1))

module _ {D : Type 0} (s : Shape) (tree : D → Tree) (errors : Errors) (all : Settles (DecodesOr s tree errors)) (tag : Tag) (c : Constraints) where
  pub sequence_of_settles : Settles (DecodesOr (list tag s c.size) (λ (v : Vec D Global). list_tree tree v.items) (errors_of (DecodesSequenceOfBy (DecodesOr s tree errors) tag c)))
  sequence_of_settles =
      let elements = λ (v : Vec D Global). v.items in
      or_settles (DecodesSequenceOfBy (DecodesOr s tree errors) tag c) (list tag s c.size) (λ (v : Vec D Global). list_tree tree v.items) (λ old o r new a. sequence_of_or s tree errors tag c old (λ _. o) r new a)
      (sized_settles (DecodesElements (DecodesOr s tree errors) elements) (λ (v : Vec D Global). vec_len v) tag c
      (inside_settles (DecodesElements (DecodesOr s tree errors) elements)
      (exactly_ends (DecodesElements (DecodesOr s tree errors) elements) (ReadsElements s) (λ (v : Vec D Global). list_tree tree v.items)
      (λ old o r new a. each_decodes s tree elements old r new (elements_by (DecodesOr s tree errors) (Decodes s tree) (or_decodes s tree errors) elements old r new a)))
      (elements_settle (DecodesOr s tree errors) (ReadsShape s) tree (or_exact s tree errors) all elements (λ vs b. (vec_of vs b, refl))) (list_header tag)))

  pub set_of_settles : Settles (DecodesOr (set_of tag s c.size) (λ (v : List D). set_elements (list_tree tree v)) (errors_of (DecodesSetOfBy (DecodesOr s tree errors) tag c)))
  set_of_settles =
      let elements = λ (v : List D). v in
      or_settles (DecodesSetOfBy (DecodesOr s tree errors) tag c) (set_of tag s c.size) (λ (v : List D). set_elements (list_tree tree v)) (λ old o r new a. set_of_or s tree errors tag c old (λ _. o) r new a)
      (sized_settles (DecodesElementsInOrder (DecodesOr s tree errors) elements) (λ (v : List D). length v) tag c
      (inside_settles (DecodesElementsInOrder (DecodesOr s tree errors) elements)
      (exactly_ends (DecodesElementsInOrder (DecodesOr s tree errors) elements) (ReadsSetElements s) (λ (v : List D). set_elements (list_tree tree v))
      (λ old o r new a. in_order_decodes s tree elements old r new (in_order_by (DecodesOr s tree errors) (Decodes s tree) (or_decodes s tree errors) elements old r new a)))
      (in_order_settle (DecodesOr s tree errors) (ReadsShape s) tree (or_exact s tree errors) all elements (λ vs b. (vs, refl))) (list_header tag)))

-- Unknown values.
pub unknown_read : Settles (DecodesOr unknown (λ (u : Unknown). list_tree numbers u.values.items) (errors_of DecodesUnknown))
unknown_read =
    or_settles DecodesUnknown unknown (λ (u : Unknown). list_tree numbers u.values.items) (λ old o r new a. unknown_decodes old r new a)
    (elements_settle (DecodesOpenType eoc) (ReadsShape (any None)) numbers (λ old o r new a. open_decodes eoc old new r a) (λ old o b passed failed. open_or eoc old o (λ a rest d. passed a (at old rest) d) (λ e n d. failed e old (d, n)))
    (λ (u : Unknown). u.values.items) (λ vs b. (record { values = vec_of vs b }, refl)))
