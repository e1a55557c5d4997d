-- Calls that say of a value which error it has say that it is decoded.
use Rattle.std.proofs.Common.{◌≡◌, ◌≢◌, ℕ, inl, inr, List, [], ◌∷◌, Option, Some, None, Vec, Global, Result, Ok, Err}
use Rattle.std.specs.declared.alloc.AllocError.{AllocError}
use Rattle.rasn_types.specs.declared.types.tag.Tag.{Tag}
use Rattle.rasn_types.specs.declared.types.constraints.Constraints.{Constraints}
use Rattle.rasn_types.specs.declared.error.decode.DecodeError.{DecodeError}
use Rattle.std.specs.Prelude.{IfErr}
use Rattle.rasn_types.specs.Framing.{AreOctets, NextTag}
use Rattle.rasn_types.specs.Tags.{form}
use Rattle.rasn_types.specs.Shapes.{Tree, Shape, Key, Sought, one_tag, looked_for, prefix, option}
use Rattle.rasn_types.specs.Trees.{option_tree}
use Rattle.rasn_de.specs.State.{State, IsEnd, Call, EachCall}
use Rattle.rasn_de.specs.Decodes.{Decodes, DecodesBy}
use Rattle.rasn_de.specs.ValueErrors.{Errors, DecodesOr, IsErrorOfAlternative, IsErrorByTag}
use Rattle.rasn_de.specs.Constructed.{list_header, prefix_header, DecodesInside}
use Rattle.rasn_de.specs.Optional.{DecodesIfSought, DecodesIfPresent, DecodesSoughtOrDefault, DecodesOrDefault, no_look, no_default, no_read, not_compared, present, DecodesDefault}
use Rattle.rasn_de.specs.SequenceOf.{DecodesInTurn, DecodesInTurnFrom, FailsAtElement, DecodesElements, IsOutOfOrder, DecodesElementsInOrder, DecodesSized, DecodesSequenceOfBy, DecodesSequenceOf, DecodesSetOfBy, DecodesSetOf}
use Rattle.rasn_de.specs.Set.{FailsAtComponent, no_tag, falls, not_read, DecodesComponents, DecodesSetContents}
use Rattle.rasn_de.proofs.Constructed.Steps.{inside_by}
use Rattle.rasn_de.proofs.Constructed.Optional.{ReadsSought, sought_decodes, perhaps_decodes, ReadsSoughtDefault, sought_default_decodes, default_decodes}
use Rattle.rasn_de.proofs.Constructed.Prefix.{prefix_decodes}
use Rattle.rasn_de.proofs.Constructed.SetOfElements.{each_leaves, in_order_leaves}
use Rattle.rasn_de.proofs.Constructed.SequenceOf.{sequence_of_decodes, set_of_decodes}

-- What reads values by one call reads them by each call that this implies.
module _ {D : Type 0} (read other : Call D) (by : EachCall read other) where
  pub sought_by : (tags : Sought) (old : State) (r : Result (Option D) DecodeError) (new : State) → DecodesIfSought read tags old r new → DecodesIfSought other tags old r new
  sought_by tags old (Ok None) new k = k
  sought_by tags old (Ok (Some v)) new (t, k) = (t, by old (Ok v) new k)
  sought_by tags old (Err e) new (inl k) = inl k
  sought_by tags old (Err e) new (inr (t, k)) = inr (t, by old (Err e) new k)

  pub or_made_by : (tree : D → Tree) (made : Result D AllocError → Type 0) (tags : Sought) (old : State) (r : Result D DecodeError) (new : State) → DecodesSoughtOrDefault read tree made tags old r new
      → DecodesSoughtOrDefault other tree made tags old r new
  or_made_by tree made tags old (Ok v) new (inl k) = inl k
  or_made_by tree made tags old (Ok v) new (inr (t, k, n)) = inr (t, by old (Ok v) new k, n)
  or_made_by tree made tags old (Err e) new (no_look a q) = no_look a q
  or_made_by tree made tags old (Err e) new (no_default a m q) = no_default a m q
  or_made_by tree made tags old (Err e) new (no_read t k) = no_read t (by old (Err e) new k)
  or_made_by tree made tags old (Err e) new (not_compared t v k h m) = not_compared t v (by old (Ok v) new k) h m
  or_made_by tree made tags old (Err e) new (present t v k h d m same w) = present t v (by old (Ok v) new k) h d m same w

  pub turn_by : (old : State) (vs : List D) (here : State) → DecodesInTurn read old vs here → DecodesInTurn other old vs here
  turn_by old [] here e = e
  turn_by old (v ∷ vs) here (next, n, k, l, p) = (next, n, by old (Ok v) next k, l, turn_by next vs here p)

  element_by : (here : State) (e : DecodeError) (new : State) → FailsAtElement read here e new → FailsAtElement other here e new
  element_by here e new (inl k) = inl (by here (Err e) new k)
  element_by here e new (inr (v, k, x)) = inr (v, by here (Ok v) new k, x)

  pub elements_by : {L : Type 0} (elements : L → List D) → EachCall (DecodesElements read elements) (DecodesElements other elements)
  elements_by elements old (Ok v) new (p, e) = (turn_by old (elements v) new p, e)
  elements_by elements old (Err e) new (vs, here, p, n, k) = (vs, here, turn_by old vs here p, n, element_by here e new k)

  pub turn_from_by : (old : State) (vs : List D) (bs : List (List ℕ)) (here : State) → DecodesInTurnFrom read old vs bs here → DecodesInTurnFrom other old vs bs here
  turn_from_by old [] bs here k = k
  turn_from_by old (v ∷ vs) bs here (b, more, next, e, f, n, k, l, p) = (b, more, next, e, f, n, by old (Ok v) next k, l, turn_from_by next vs more here p)

  disorder_by : (bs : List (List ℕ)) (here : State) (e : DecodeError) (new : State) → IsOutOfOrder read bs here e new → IsOutOfOrder other bs here e new
  disorder_by bs here e new (v, b, k, f, l, h, n, w) = (v, b, by here (Ok v) new k, f, l, h, n, w)

  pub in_order_by : {L : Type 0} (elements : L → List D) → EachCall (DecodesElementsInOrder read elements) (DecodesElementsInOrder other elements)
  in_order_by elements old (Ok v) new (bs, p, o, n) = (bs, turn_from_by old (elements v) bs new p, o, n)
  in_order_by elements old (Err e) new (vs, bs, here, p, o, n, inl k) = (vs, bs, here, turn_from_by old vs bs here p, o, n, inl (element_by here e new k))
  in_order_by elements old (Err e) new (vs, bs, here, p, o, n, inr k) = (vs, bs, here, turn_from_by old vs bs here p, o, n, inr (disorder_by bs here e new k))

  component_by : (bs : List (List ℕ)) (here : State) (e : DecodeError) (new : State) → FailsAtComponent (FailsAtElement read) bs here e new → FailsAtComponent (FailsAtElement other) bs here e new
  component_by bs here e new (no_tag a p q) = no_tag a p q
  component_by bs here e new (falls a t n f w q) = falls a t n f w q
  component_by bs here e new (not_read f w) = not_read f (element_by here e new w)

  components_by : {L : Type 0} (elements : L → List D) → EachCall (DecodesComponents read elements) (DecodesComponents other elements)
  components_by elements old (Ok v) new (bs, (p, o), e) = (bs, (turn_from_by old (elements v) bs new p, o), e)
  components_by elements old (Err e) new (vs, bs, here, (p, o), n, k) = (vs, bs, here, (turn_from_by old vs bs here p, o), n, component_by bs here e new k)

  pub contents_by : {L S : Type 0} (elements : L → List D) (made : L → Result S DecodeError → Type 0)
      → EachCall (DecodesSetContents (DecodesComponents read elements) made) (DecodesSetContents (DecodesComponents other elements) made)
  contents_by elements made old (Ok v) new (fields, k, m) = (fields, components_by elements old (Ok fields) new k, m)
  contents_by elements made old (Err e) new (inl k) = inl (components_by elements old (Err e) new k)
  contents_by elements made old (Err e) new (inr (fields, k, m)) = inr (fields, components_by elements old (Ok fields) new k, m)

  pub sized_by : (size : D → ℕ) (tag : Tag) (c : Constraints) → EachCall (DecodesSized read size tag c) (DecodesSized other size tag c)
  sized_by size tag c old (Ok v) new (a, k) = (a, inside_by read other (list_header tag) old (Ok v) new k by)
  sized_by size tag c old (Err e) new (inl k) = inl (inside_by read other (list_header tag) old (Err e) new k by)
  sized_by size tag c old (Err e) new (inr (v, k, n, w)) = inr (v, inside_by read other (list_header tag) old (Ok v) new k by, n, w)

-- So of what is said of a value with its errors.
module _ {D : Type 0} (s : Shape) (tree : D → Tree) (errors : Errors) where
  pub or_decodes : EachCall (DecodesOr s tree errors) (Decodes s tree)
  or_decodes o r n k = k.0

  pub sought_or : (tags : Sought) (old : State) (r : Result (Option D) DecodeError) (new : State) → DecodesIfSought (DecodesOr s tree errors) tags old r new → DecodesBy (ReadsSought tags s) (option_tree tree) old r new
  sought_or tags old r new k = sought_decodes s tree tags old r new (sought_by (DecodesOr s tree errors) (Decodes s tree) or_decodes tags old r new k)

  pub perhaps_or : (tag : Tag) (old : State) (r : Result (Option D) DecodeError) (new : State) → DecodesIfPresent (DecodesOr s tree errors) tag old r new → Decodes (option (looked_for tag) s) (option_tree tree) old r new
  perhaps_or tag old r new k = perhaps_decodes s tree tag old r new (sought_by (DecodesOr s tree errors) (Decodes s tree) or_decodes (one_tag (looked_for tag)) old r new k)

  pub sought_default_or : (key : Key) (made : Result D AllocError → Type 0) (tags : Sought) (old : State) (r : Result D DecodeError) (new : State) → DecodesSoughtOrDefault (DecodesOr s tree errors) tree made tags old r new
      → (without : Tree) → ((v : D) → made (Ok v) → tree v ≡ without) → DecodesBy (ReadsSoughtDefault key tags without s) tree old r new
  sought_default_or key made tags old r new k = sought_default_decodes key s tree made tags old r new (or_made_by (DecodesOr s tree errors) (Decodes s tree) or_decodes tree made tags old r new k)

  pub default_or : (made : Result D AllocError → Type 0) (tag : Tag) (old : State) (r : Result D DecodeError) (new : State) → DecodesOrDefault (DecodesOr s tree errors) tree made tag old r new → DecodesDefault tag s tree made old r new
  default_or made tag old r new k = default_decodes s tree made tag old r new (or_made_by (DecodesOr s tree errors) (Decodes s tree) or_decodes tree made (one_tag (looked_for tag)) old r new k)

  pub prefix_or : (tag : Tag) (old : State) → (old.depth ≢ 0 → AreOctets old.rest) → (r : Result D DecodeError) (new : State) → DecodesInside (DecodesOr s tree errors) (prefix_header tag) old r new → Decodes (prefix tag s) tree old r new
  prefix_or tag old o r new k = prefix_decodes tree s tag old o r new (inside_by (DecodesOr s tree errors) (Decodes s tree) (prefix_header tag) old r new k or_decodes)

  -- The errors of such calls.
  pub sought_failed : (tags : Sought) (old : State) (e : DecodeError) (new : State) → DecodesIfSought (DecodesOr s tree errors) tags old (Err e) new → DecodesIfSought (Decodes s tree) tags old (Err e) new
  sought_failed tags old e new k = sought_by (DecodesOr s tree errors) (Decodes s tree) or_decodes tags old (Err e) new k

  pub default_failed : (made : Result D AllocError → Type 0) (tags : Sought) (old : State) (e : DecodeError) (new : State)
      → DecodesSoughtOrDefault (DecodesOr s tree errors) tree made tags old (Err e) new → DecodesSoughtOrDefault (Decodes s tree) tree made tags old (Err e) new
  default_failed made tags old e new k = or_made_by (DecodesOr s tree errors) (Decodes s tree) or_decodes tree made tags old (Err e) new k

  pub each_or_leaves : {L : Type 0} (elements : L → List D) → EachCall (DecodesElements (DecodesOr s tree errors) elements) (λ o r n. IsEnd o.rest n.rest)
  each_or_leaves elements o r n k = each_leaves s tree elements o r n (elements_by (DecodesOr s tree errors) (Decodes s tree) or_decodes elements o r n k)

  pub in_order_or_leaves : {L : Type 0} (elements : L → List D) → EachCall (DecodesElementsInOrder (DecodesOr s tree errors) elements) (λ o r n. IsEnd o.rest n.rest)
  in_order_or_leaves elements o r n k = in_order_leaves s tree elements o r n (in_order_by (DecodesOr s tree errors) (Decodes s tree) or_decodes elements o r n k)

  pub sequence_of_or : (tag : Tag) (c : Constraints) (old : State) → (old.depth ≢ 0 → AreOctets old.rest) → (r : Result (Vec D Global) DecodeError) (new : State)
      → DecodesSequenceOfBy (DecodesOr s tree errors) tag c old r new → DecodesSequenceOf s tree tag c old r new
  sequence_of_or tag c old o r new k =
      let elements = λ (v : Vec D Global). v.items in
      let by = elements_by (DecodesOr s tree errors) (Decodes s tree) or_decodes elements in
      sequence_of_decodes s tree tag c old o r new (sized_by (DecodesElements (DecodesOr s tree errors) elements) (DecodesElements (Decodes s tree) elements) by _ tag c old r new k)

  pub set_of_or : (tag : Tag) (c : Constraints) (old : State) → (old.depth ≢ 0 → AreOctets old.rest) → (r : Result (List D) DecodeError) (new : State)
      → DecodesSetOfBy (DecodesOr s tree errors) tag c old r new → DecodesSetOf s tree tag c old r new
  set_of_or tag c old o r new k =
      let elements = λ (v : List D). v in
      let by = in_order_by (DecodesOr s tree errors) (Decodes s tree) or_decodes elements in
      set_of_decodes s tree tag c old o r new (sized_by (DecodesElementsInOrder (DecodesOr s tree errors) elements) (DecodesElementsInOrder (Decodes s tree) elements) by _ tag c old r new k)

-- An error of the others is one of the alternatives.
pub other_errors : {X : Type 0} (own : Tag) (first : Errors) (others : Tag → Errors) (tag : Tag) (old new : State) (r : Result X DecodeError) → (tag ≡ own → ⊥) → IfErr r (λ e. others tag old e new)
    → IfErr r (λ e. IsErrorOfAlternative own first others tag old e new)
other_errors own first others tag old new (Ok x) n f = tt
other_errors own first others tag old new (Err e) n f = inr (n, f)

pub errors_by_tag : {X : Type 0} (errors : Tag → Errors) (tag : Tag) (old new : State) (r : Result X DecodeError) → NextTag (form old.rule) old.rest tag → IfErr r (λ e. errors tag old e new)
    → IfErr r (λ e. IsErrorByTag errors old e new)
errors_by_tag errors tag old new (Ok x) n f = tt
errors_by_tag errors tag old new (Err e) n f = inr (tag, n, f)
