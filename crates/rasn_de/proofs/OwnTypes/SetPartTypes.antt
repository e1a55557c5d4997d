-- The parts of a SET as types: components are read one by one, each is put into the slot of its part, and the parts are gathered.
use Rattle.std.proofs.Common.{◌≡◌, ◌≢◌, ℕ, zero, suc, ◌+◌, ◌<◌, inl, inr, Bool, true, false, List, [], ◌∷◌, ◌++◌, map, length, Option, Some, None, Result, Ok, Err, refl, sym, ap, ◌∙◌, subst, append_assoc, arith}
use Rattle.std.specs.Option.{option_or}
use Rattle.std.specs.Borrow.{Bor}
use Rattle.rasn_types.specs.declared.types.codec.Codec.{Codec}
use Rattle.rasn_types.specs.declared.types.tag.Tag.{Tag}
use Rattle.rasn_types.specs.declared.error.decode.DecodeError.{DecodeError}
use Rattle.std.proofs.lemmas.List.{map-append}
use Rattle.rasn_types.specs.declared.types.any.Any.{Any}
use Rattle.rasn_types.specs.Tags.{form, eoc}
use Rattle.rasn_types.specs.Framing.{NextTag, Ended}
use Rattle.rasn_types.specs.Errors.{IsOutOfMemory}
use Rattle.rasn_types.specs.Shapes.{Tree, numbers, chosen, joined, items, absent, IsSetTree, Shape, choice_by, Parts, part, count, own, IsFirstOf, Presence, presences, required, optional, default}
use Rattle.rasn_types.specs.Shapes.Parts.{none}
use Rattle.rasn_types.specs.Readings.{IsMissing, NoneOf, OneOf, ByPart, AllOf}
use Rattle.rasn_types.specs.Trees.{option_tree}
use Rattle.rasn_de.specs.declared.ber.de.parser.ParseError.TheVariants.{OutOfMemory, UnexpectedExtraData}
use Rattle.rasn_de.specs.Any.{DecodesOpenType}
use Rattle.rasn_de.specs.State.{State, Call}
use Rattle.rasn_de.specs.Outcomes.{Exact, Got, refusal}
use Rattle.rasn_de.specs.NamedErrors.{IsNamedError, IsMissingField, IsDuplicateField}
use Rattle.rasn_de.specs.Decodes.{DecodesExactly, Decodes}
use Rattle.rasn_de.specs.Steps.{IsErrorOf}
use Rattle.rasn_de.specs.SequenceOf.{DecodesInTurnFrom, RefusesElement}
use Rattle.rasn_de.specs.Set.{FailsAtComponent, not_read, DecodesIntoSlots, DecodesSetContents, AreMembers, PeeksInOrder}
use Rattle.rasn_de.specs.AlternativeTypes.{ReadsNumberedBy, FailsAtValue}
use Rattle.rasn_de.specs.ValueErrors.{Errors}
use Rattle.rasn_de.specs.SetPartTypes.{held_tree, text, name_at, IsPart, AreEmpty, IsFilled, IsPlacedAt, ReadsPartAt, RefusesPart, IsPlaced, IsOrDefault, FailsAtSetPart, DecodesPlaced, DecodesNext, AreGathered, IsGathered, LacksSlot, IsLackOf, HasGap, MakesParts, AreOnce, RepeatsFirst, LacksFirst, MakesOfReadings, LeavesGap, MakesNamed, DecodesOneOf, DecodesSetPartContents, DecodesNamedContents}
use Rattle.rasn_de.proofs.Leaves.Outcomes.{Exact-none}
use Rattle.rasn_de.proofs.Headers.Tags.{Tagged, tagged_order, look_refused, look_follows, look_kept}
use Rattle.rasn_de.proofs.Constructed.SetOfElements.{came_stays, passes_from}
use Rattle.rasn_de.proofs.Constructed.SetContents.{MakesBy}
use Rattle.rasn_de.proofs.Constructed.Steps.{rules_same}
use Rattle.rasn_de.proofs.OwnTypes.Parts.{call_keeps}
use Rattle.rasn_de.proofs.OwnTypes.Alternatives.{OneAlternative}
use Rattle.rasn_de.proofs.OwnTypes.AlternativeTypes.{first_got, first_refused, first_known, first_fails_by, others_read, others_got, others_fail_by, choice_by_read, unknown_read}
use Rattle.rasn_de.proofs.OwnTypes.Components.{Slot, one_more, kept_more, not_none, no_parts_twice}
use Rattle.rasn_de.proofs.Leaves.Errors.{rule_is}
use Rattle.std.specs.Prelude.{IfErr}

pub held_none : {T : Type 0} (tree : T → Tree) (h : Option T) → h ≡ None → held_tree tree h ≡ None
held_none tree h e = ap (held_tree tree) e

pub held_some : {T : Type 0} (tree : T → Tree) (h : Option T) → (h ≡ None → ⊥) → held_tree tree h ≡ None → ⊥
held_some tree None n e = n refl
held_some tree (Some v) n e = cc

-- The component belongs to the first part.
module _ (extensible : Bool) (p : Presence) (s : Shape) (ps : Parts) (tag t : Tag) (h : tag ≡ t) (e : own s ≡ Some t) (others : IsFirstOf ps t → ⊥) (old new : State) (n : NextTag (form old.rule) old.rest tag) where
  pub placed_here : {T : Type 0} (names : List (List ℕ)) (tree : T → Tree) (before after : Option T) (v : T) (held : List (Option Tree)) (unknown : List Tree) (r : Option (Bor (List ℕ))) → DecodesExactly (OneAlternative p s) old (Got (tree v) new.rest) new
      → IsPlaced before v (name_at names zero) r after → DecodesPlaced extensible (part p s ps) names (held_tree tree before ∷ held) unknown old (Ok r) new (held_tree tree after ∷ held) unknown
  placed_here names tree before after v held unknown r a q = go r q
    where
      here : ReadsPartAt extensible (part p s ps) 0 (tree v) old new
      here = record { from = λ j. first_known p s ps tag t h e others extensible old new (Got (chosen (j + 0) (tree v)) new.rest) n j (first_got p s ps tag t h e others old new n (tree v) a j) }

      go : (r : Option (Bor (List ℕ))) → IsPlaced before v (name_at names zero) r after → DecodesPlaced extensible (part p s ps) names (held_tree tree before ∷ held) unknown old (Ok r) new (held_tree tree after ∷ held) unknown
      go None (f, g) = inl (0, tree v, (held_none tree before f, ap (λ z. held_tree tree z ∷ held) g), refl, here)
      go (Some x) (f, g, m) = (0, tree v, held_some tree before f, ap (λ z. held_tree tree z ∷ held) g, refl, m, here)

  pub placed_refused : (x : DecodeError) → DecodesExactly (OneAlternative p s) old (refusal x.kind) new → RefusesPart extensible (part p s ps) x old new
  placed_refused x a = record { from = λ j. first_known p s ps tag t h e others extensible old new (refusal x.kind) n j (first_refused p s ps tag t h e others old new n x.kind a j) }

-- The component belongs to one of the other parts, or to none.
module _ (extensible : Bool) (p : Presence) (s : Shape) (ps : Parts) (names more : List (List ℕ)) (behind : (k : ℕ) → name_at more k ≡ name_at names (suc k)) (tag t : Tag) (not_this : tag ≡ t → ⊥) (e : own s ≡ Some t) (old new : State) (n : NextTag (form old.rule) old.rest tag) where
  other_at : (k : ℕ) (u : Tree) → ReadsPartAt extensible ps k u old new → ReadsPartAt extensible (part p s ps) (suc k) u old new
  other_at k u a = record { from = λ j. others_got p s ps tag t not_this e old new n extensible j k u (a.from (suc j)) }

  pub placed_other : (h : Option Tree) (before held : List (Option Tree)) (unknown after : List Tree) (r : Result (Option (Bor (List ℕ))) DecodeError) → DecodesPlaced extensible ps more before unknown old r new held after
      → DecodesPlaced extensible (part p s ps) names (h ∷ before) unknown old r new (h ∷ held) after
  placed_other h before held unknown after (Ok None) (inl (k, u, c, q, a)) = inl (suc k, u, (held, refl, c), q, other_at k u a)
  placed_other h before held unknown after (Ok None) (inr (u, f, q, a)) = inr (u, ap (λ z. h ∷ z) f, q, other_at (count ps) u a)
  placed_other h before held unknown after (Ok (Some x)) (k, u, c, f, q, m, a) = (suc k, u, c, ap (λ z. h ∷ z) f, q, m ∙ behind k, other_at k u a)
  placed_other h before held unknown after (Err x) a = record { from = λ j. others_read p s ps tag t not_this e old new n extensible j (refusal x.kind) (a.from (suc j)) }

-- It is refused as the first.
pub first_fails : (extensible : Bool) (p : Presence) (s : Shape) (ps : Parts) (name : List ℕ) (tag : Tag) (old new : State) (e : DecodeError) → own s ≡ Some tag → FailsAtValue p s old e new
    → FailsAtSetPart extensible (part p s ps) name tag old e new
first_fails extensible p s ps name tag old new e h f = inl (first_fails_by extensible p s ps name tag old new e h f)

-- It is refused as one of the others.
pub others_fail : {X : Type 0} (extensible : Bool) (p : Presence) (s : Shape) (ps : Parts) (name : List ℕ) (tag : Tag) (old new : State) (r : Result X DecodeError) → (own s ≡ Some tag → ⊥) → IfErr r (λ e. FailsAtSetPart extensible ps name tag old e new)
    → IfErr r (λ e. FailsAtSetPart extensible (part p s ps) name tag old e new)
others_fail extensible p s ps name tag old new (Ok x) n f = tt
others_fail extensible p s ps name tag old new (Err e) n (inl f) = inl (others_fail_by extensible p s ps name tag old new e n f)
others_fail extensible p s ps name tag old new (Err e) n (inr f) = inr f

-- The component belongs to no part.
module _ (tag : Tag) (old new : State) (n : NextTag (form old.rule) old.rest tag) where
  pub unknown_refused : (e : DecodeError) → DecodesOpenType eoc old (Err e) new → RefusesPart true none e old new
  unknown_refused e d = record { from = λ j. unknown_read tag old (Err e) new n d j }

  module _ (a : Any) (d : DecodesOpenType eoc old (Ok a) new) where
    pub unknown_placed : (names : List (List ℕ)) (values after : List Any) → after ≡ values ++ a ∷ [] → DecodesPlaced true none names [] (map numbers values) old (Ok None) new [] (map numbers after)
    unknown_placed names values after e = inr (numbers a, refl, ap (map numbers) e ∙ map-append numbers values (a ∷ []), record { from = λ j. unknown_read tag old (Ok a) new n d j })

    pub unknown_not_kept : (e : DecodeError) → IsErrorOf OutOfMemory new e → RefusesPart true none e old new
    unknown_not_kept e m = record {
      from = λ j. let x = unknown_read tag old (Ok a) new n d j in record {
        stays = x.stays;
        end = x.end;
        exact = subst (λ k. Exact (ReadsNumberedBy true j none old.rule old.depth old.closing) old.rest (refusal k)) (ap (λ (x : DecodeError). x.kind) (sym m)) tt;
      };
    }

-- What is read as a part is read as the choice among all.
placed_decodes : (extensible : Bool) (ps : Parts) (k : ℕ) (u : Tree) (old new : State) → ReadsPartAt extensible ps k u old new → Decodes (choice_by extensible ps) (λ (t : Tree). t) old (Ok (chosen k u)) new
placed_decodes extensible ps k u old new a =
    let f : 0 + k ≡ k = omega arith in
    choice_by_read extensible ps (subst (λ m. DecodesExactly (ReadsNumberedBy extensible 0 ps) old (Got (chosen m u) new.rest) new) f (a.from 0))

pub next_refused : (extensible : Bool) (ps : Parts) (old new : State) (e : DecodeError) → RefusesPart extensible ps e old new → RefusesElement (Decodes (choice_by extensible ps) (λ (t : Tree). t)) old e new
next_refused extensible ps old new e a = inl (choice_by_read extensible ps (a.from 0))

pub named_refused : (extensible : Bool) (ps : Parts) (name : List ℕ) (errors : Tag → Errors) (tag : Tag) (old new : State) (e : DecodeError) → NextTag (form old.rule) old.rest tag → RefusesPart extensible ps e old new
    → FailsAtSetPart extensible ps name tag old e new → errors tag old e new → RefusesElement (DecodesOneOf extensible ps name errors) old e new
named_refused extensible ps name errors tag old new e n a f x = inl (choice_by_read extensible ps (a.from 0), (inr (tag, n, f), inr (tag, n, x)))

module _ (extensible : Bool) (ps : Parts) (names : List (List ℕ)) (before held : List (Option Tree)) (unknown after : List Tree) (old new : State) where
  pub next_read : (r : Option (Bor (List ℕ))) → DecodesPlaced extensible ps names before unknown old (Ok r) new held after → length new.rest ≢ length old.rest → DecodesNext extensible ps names before unknown old (Ok r) new held after
  next_read None (inl (k, u, c, q, a)) n = inl (k, u, c, q, (placed_decodes extensible ps k u old new a, n))
  next_read None (inr (u, f, q, a)) n = inr (u, f, q, (placed_decodes extensible ps (count ps) u old new a, n))
  next_read (Some x) (k, u, c, f, q, m, a) n = (k, u, c, f, q, m, (placed_decodes extensible ps k u old new a, n))

  took_nothing : (k : ℕ) (u : Tree) → ReadsPartAt extensible ps k u old new → (more : List (Option Tree)) (rest : List Tree) → length new.rest ≡ length old.rest → (left : ℕ) → left ≡ length old.rest → (e : DecodeError)
      → IsErrorOf (UnexpectedExtraData left) new e → DecodesNext extensible ps names before unknown old (Err e) new more rest
  took_nothing k u a more rest n left f e w =
      let d = placed_decodes extensible ps k u old new a in
      inr (chosen k u, d, (n, rules_same old new (UnexpectedExtraData (length old.rest)) e (call_keeps d) (subst (λ m. IsErrorOf (UnexpectedExtraData m) new e) f w)))

  pub next_takes_nothing : (r : Option (Bor (List ℕ))) → DecodesPlaced extensible ps names before unknown old (Ok r) new held after → (more : List (Option Tree)) (rest : List Tree) → length new.rest ≡ length old.rest → (left : ℕ) → left ≡ length old.rest
      → (e : DecodeError) → IsErrorOf (UnexpectedExtraData left) new e → DecodesNext extensible ps names before unknown old (Err e) new more rest
  next_takes_nothing None (inl (k, u, c, q, a)) = took_nothing k u a
  next_takes_nothing None (inr (u, f, q, a)) = took_nothing (count ps) u a
  next_takes_nothing (Some x) (k, u, c, f, q, m, a) = took_nothing k u a

  named_takes_nothing_at : (name : List ℕ) (errors : Tag → Errors) (k : ℕ) (u : Tree) → ReadsPartAt extensible ps k u old new → length new.rest ≡ length old.rest → (left : ℕ) → left ≡ length old.rest → (e : DecodeError)
      → IsErrorOf (UnexpectedExtraData left) new e → RefusesElement (DecodesOneOf extensible ps name errors) old e new
  named_takes_nothing_at name errors k u a n left f e w =
      let d = placed_decodes extensible ps k u old new a in
      inr (chosen k u, (d, tt), (n, rules_same old new (UnexpectedExtraData (length old.rest)) e (call_keeps d) (subst (λ m. IsErrorOf (UnexpectedExtraData m) new e) f w)))

  pub named_takes_nothing : (name : List ℕ) (errors : Tag → Errors) (r : Option (Bor (List ℕ))) → DecodesPlaced extensible ps names before unknown old (Ok r) new held after → length new.rest ≡ length old.rest → (left : ℕ) → left ≡ length old.rest
      → (e : DecodeError) → IsErrorOf (UnexpectedExtraData left) new e → RefusesElement (DecodesOneOf extensible ps name errors) old e new
  named_takes_nothing name errors None (inl (k, u, c, q, a)) = named_takes_nothing_at name errors k u a
  named_takes_nothing name errors None (inr (u, f, q, a)) = named_takes_nothing_at name errors (count ps) u a
  named_takes_nothing name errors (Some x) (k, u, c, f, q, m, a) = named_takes_nothing_at name errors k u a

  -- The rules stay.
  pub placed_rules : (r : Option (Bor (List ℕ))) → DecodesPlaced extensible ps names before unknown old (Ok r) new held after → new.rule ≡ old.rule
  placed_rules None (inl (k, u, c, q, a)) = rule_is old new (a.from 0).stays
  placed_rules None (inr (u, f, q, a)) = rule_is old new (a.from 0).stays
  placed_rules (Some x) (k, u, c, f, q, m, a) = rule_is old new (a.from 0).stays

-- What the slots of parts hold, of which the first has the number j, by the readings of components.
abbrev pub AreHeld : ℕ → List Presence → List (Option Tree) → List Tree → Type 0
AreHeld j [] [] readings = Unit {0}
AreHeld j [] (h ∷ held) readings = ⊥
AreHeld j (p ∷ ps) [] readings = ⊥
AreHeld j (p ∷ ps) (h ∷ held) readings = Slot j (λ (t : Tree). t) h readings × AreHeld (suc j) ps held readings

none_held : (ps : Parts) (j : ℕ) (held : List (Option Tree)) → AreEmpty ps held → AreHeld j (presences ps) held []
none_held none j held e = subst (λ l. AreHeld j [] l []) (sym e) tt
none_held (part p s ps) j held (others, e, n) = subst (λ l. AreHeld j (p ∷ presences ps) l []) (sym e) (tt, none_held ps (suc j) others n)

-- a component of a part before these says nothing of them
kept_held : (ps : List Presence) (j i : ℕ) (u : Tree) (held : List (Option Tree)) (done : List Tree) → i < j → AreHeld j ps held done → AreHeld j ps held (done ++ chosen i u ∷ [])
kept_held [] j i u [] done l h = tt
kept_held [] j i u (x ∷ held) done l h = h
kept_held (p ∷ ps) j i u [] done l h = h
kept_held (p ∷ ps) j i u (x ∷ held) done l h = (kept_more j (λ (t : Tree). t) x i u done (λ e. omega (arith, e, l)) h.0, kept_held ps (suc j) i u held done (omega (arith, l)) h.1)

placed_held : (ps : List Presence) (j k n : ℕ) (u : Tree) (before held : List (Option Tree)) (done : List Tree) → n ≡ j + k → IsPlacedAt before k u held → AreHeld j ps before done
    → AreHeld j ps held (done ++ chosen n u ∷ [])
placed_held [] j k n u [] held done e c h = absurd c
placed_held [] j k n u (x ∷ before) held done e c h = absurd h
placed_held (p ∷ ps) j k n u [] held done e c h = absurd c
placed_held (p ∷ ps) j zero n u (x ∷ before) held done e (f, g) h =
    let i : n ≡ j = omega (arith, e) in
    subst (λ l. AreHeld j (p ∷ ps) l (done ++ chosen n u ∷ [])) (sym g) (
      subst (λ m. OneOf j u (done ++ chosen m u ∷ [])) (sym i) (one_more j u done (subst (λ y. Slot j (λ (t : Tree). t) y done) f h.0)),
      kept_held ps (suc j) n u before done (omega (arith, i)) h.1,
    )
placed_held (p ∷ ps) j (suc k) n u (x ∷ before) held done e (others, g, c) h =
    subst (λ l. AreHeld j (p ∷ ps) l (done ++ chosen n u ∷ [])) (sym g) (
      kept_more j (λ (t : Tree). t) x n u done (λ f. omega (arith, e, f)) h.0,
      placed_held ps (suc j) k n u before others done (omega (arith, e)) c h.1,
    )

-- what was read of the part whose slot is filled
filled_slot : (ps : Parts) (j k n : ℕ) (held : List (Option Tree)) (readings : List Tree) → n ≡ j + k → IsFilled held k → AreHeld j (presences ps) held readings → IsPart k ps × ((t : Tree) × OneOf n t readings)
filled_slot none j k n [] readings e c h = absurd c
filled_slot none j k n (x ∷ held) readings e c h = absurd h
filled_slot (part p s ps) j k n [] readings e c h = absurd h
filled_slot (part p s ps) j zero n (None ∷ held) readings e c h = absurd (c refl)
filled_slot (part p s ps) j zero n (Some t ∷ held) readings e c h = (tt, (t, subst (λ m. OneOf m t readings) (let f : j ≡ n = omega (arith, e) in f) h.0))
filled_slot (part p s ps) j (suc k) n (x ∷ held) readings e c h = filled_slot ps (suc j) k n held readings (omega (arith, e)) c h.1

-- What slots hold was read once.
held_once : (ps : List Presence) (j : ℕ) (held : List (Option Tree)) (readings : List Tree) → AreHeld j ps held readings → AreOnce j ps readings
held_once [] j held readings h = tt
held_once (p ∷ ps) j [] readings h = absurd h
held_once (p ∷ ps) j (None ∷ held) readings h = (inl h.0, held_once ps (suc j) held readings h.1)
held_once (p ∷ ps) j (Some t ∷ held) readings h = (inr (t, h.0), held_once ps (suc j) held readings h.1)

-- A part whose slot is empty wasn't read.
held_lacks : (ps : List Presence) (j k : ℕ) (held : List (Option Tree)) (readings : List Tree) → AreHeld j ps held readings → LacksSlot ps held k → LacksFirst j ps readings k
held_lacks [] j k held readings h l = l
held_lacks (p ∷ ps) j k [] readings h l = absurd l
held_lacks (p ∷ ps) j zero (x ∷ held) readings h (e, f) = (e, subst (λ y. Slot j (λ (t : Tree). t) y readings) f h.0)
held_lacks (p ∷ ps) j (suc k) (None ∷ held) readings h (n, l) = (λ e o. n e refl, held_lacks ps (suc j) k held readings h.1 l)
held_lacks (p ∷ ps) j (suc k) (Some t ∷ held) readings h (n, l) =
    (λ e o. not_none j t h.0.before h.0.after (subst (NoneOf j) h.0.is o), held_lacks ps (suc j) k held readings h.1 l)

-- One more reading changes nothing of the first that repeats a part.
repeats_more : (ps : Parts) (k : ℕ) (readings : List Tree) (r : Tree) → RepeatsFirst ps k readings → RepeatsFirst ps k (readings ++ r ∷ [])
repeats_more ps k readings r a = record {
  before = a.before;
  value = a.value;
  after = a.after ++ r ∷ [];
  is = ap (λ l. l ++ r ∷ []) a.is ∙ append_assoc a.before (chosen k a.value ∷ a.after) (r ∷ []);
  once = a.once;
  is_part = a.is_part;
  read = a.read;
}

-- Parts are gathered of slots: the readings are these parts.
gathered_by_part : (ps : List Presence) (j : ℕ) (held : List (Option Tree)) (readings ts : List Tree) → AreHeld j ps held readings → AreGathered ps held ts → ByPart j ps readings ts
gathered_by_part [] j [] readings ts h g = g
gathered_by_part [] j (x ∷ held) readings ts h g = absurd g
gathered_by_part (p ∷ ps) j [] readings ts h g = absurd g
gathered_by_part (p ∷ ps) j (None ∷ held) readings ts h (t, us, e, m, g) = (t, us, e, inr (h.0, m), gathered_by_part ps (suc j) held readings us h.1 g)
gathered_by_part (p ∷ ps) j (Some t ∷ held) readings ts h (us, e, g) = (t, us, e, inl h.0, gathered_by_part ps (suc j) held readings us h.1 g)

made_of_held : {D : Type 0} (extensible : Bool) (ps : Parts) (tree : D → Tree) (names : List (List ℕ)) (rule : Codec) (held : List (Option Tree)) (unknown readings : List Tree) → AreHeld 0 (presences ps) held readings
    → AllOf (count ps) readings unknown → (r : Result D DecodeError) → MakesParts extensible ps tree names rule held unknown r → MakesOfReadings extensible ps tree names rule readings r
made_of_held extensible ps tree names rule held unknown readings h all (Ok v) (ts, e, g) = (ts, unknown, e, gathered_by_part (presences ps) 0 held readings ts h g, all)
made_of_held extensible ps tree names rule held unknown readings h all (Err e) (inl m) = inl m
made_of_held extensible ps tree names rule held unknown readings h all (Err e) (inr (k, l, w)) = inr (inr (held_once (presences ps) 0 held readings h, (k, held_lacks (presences ps) 0 k held readings h l, w)))

-- A slot that is empty at the end leaves a gap in the readings.
gap_of_held : (ps : List Presence) (j : ℕ) (held : List (Option Tree)) (readings : List Tree) → AreHeld j ps held readings → HasGap ps held → LeavesGap j ps readings
gap_of_held [] j held readings h l = l
gap_of_held (p ∷ ps) j [] readings h l = absurd l
gap_of_held (p ∷ ps) j (x ∷ held) readings h (inl (t, e)) = inl (t, subst (λ y. Slot j (λ (t : Tree). t) y readings) e h.0)
gap_of_held (p ∷ ps) j (x ∷ held) readings h (inr l) = inr (gap_of_held ps (suc j) held readings h.1 l)

-- What is made by the slots: an allocation fails only where they leave a gap.
named_of_held : {D : Type 0} (extensible : Bool) (ps : Parts) (tree : D → Tree) (names : List (List ℕ)) (rule : Codec) (held : List (Option Tree)) (readings : List Tree) → AreHeld 0 (presences ps) held readings
    → (r : Result D DecodeError) → MakesOfReadings extensible ps tree names rule readings r → IfErr r (λ e. IsOutOfMemory e.kind → HasGap (presences ps) held) → MakesNamed extensible ps tree names rule readings r
named_of_held extensible ps tree names rule held readings h (Ok v) m g = (m, tt)
named_of_held extensible ps tree names rule held readings h (Err e) m g = (m, λ o. inr (gap_of_held (presences ps) 0 held readings h (g o)))

-- Where a required part isn't read, the readings are no parts.
pub lacks_none : (ps : List Presence) (j k : ℕ) (readings ts : List Tree) → LacksFirst j ps readings k → ByPart j ps readings ts → ⊥
lacks_none [] j k readings ts l b = l
lacks_none (p ∷ ps) j zero readings ts (e, o) (t, us, f, inl a, b) = not_none j t a.before a.after (subst (NoneOf j) a.is o)
lacks_none (p ∷ ps) j zero readings ts (e, o) (t, us, f, inr a, b) = subst (λ z. IsMissing z t) e a.1
lacks_none (p ∷ ps) j (suc k) readings ts (n, l) (t, us, f, a, b) = lacks_none ps (suc j) k readings us l b

pub same_trees : (l : List Tree) → l ≡ map (λ (t : Tree). t) l
same_trees [] = refl
same_trees (t ∷ l) = ap (λ z. t ∷ z) (same_trees l)

pub makes_members : {D : Type 0} (extensible : Bool) (ps : Parts) (tree : D → Tree) (names : List (List ℕ)) (rule : Codec) (readings : List Tree) (r : Result D DecodeError) → MakesOfReadings extensible ps tree names rule readings r
    → MakesBy (AreMembers extensible ps) tree (map (λ (t : Tree). t) readings) r
makes_members {D} extensible ps tree names rule readings r m = subst (λ l. MakesBy (AreMembers extensible ps) tree l r) (same_trees readings) (go r m)
  where
    go : (r : Result D DecodeError) → MakesOfReadings extensible ps tree names rule readings r → MakesBy (AreMembers extensible ps) tree readings r
    go (Ok v) a = a
    go (Err e) (inl m) = subst (λ k. Exact (λ input t rest. AreMembers extensible ps readings t) [] (refusal k)) (sym m) tt
    go (Err e) (inr (inl (k, a, w))) = Exact-none e.kind (λ input t rest. AreMembers extensible ps readings t) []
        (λ t r (ts, us, f, b, all). no_parts_twice ps k a.is_part a.before a.read.0 a.value a.after readings a.is a.read.1 (items ts) (ts, refl, b))
    go (Err e) (inr (inr (o, (k, l, w)))) = Exact-none e.kind (λ input t rest. AreMembers extensible ps readings t) [] (λ t r (ts, us, f, b, all). lacks_none (presences ps) 0 k readings ts l b)

-- One more part is gathered, before the others.
tree_more : (extensible : Bool) (t tree : Tree) (ts us : List Tree) → IsSetTree extensible ts us tree → IsSetTree extensible (t ∷ ts) us (joined t tree)
tree_more true t tree ts us e = ap (λ z. joined t z) e
tree_more false t tree ts us (n, e) = (n, ap (λ z. joined t z) e)

module _ (extensible : Bool) where
  pub gathered_came : (p : Presence) (s : Shape) (ps : Parts) (held : List (Option Tree)) (unknown : List Tree) (u t : Tree) → IsGathered extensible ps held unknown t → IsGathered extensible (part p s ps) (Some u ∷ held) unknown (joined u t)
  gathered_came p s ps held unknown u t (ts, e, g) = (u ∷ ts, tree_more extensible u t ts unknown e, (ts, refl, g))

  pub gathered_missing : (p : Presence) (s : Shape) (ps : Parts) (held : List (Option Tree)) (unknown : List Tree) (u t : Tree) → IsMissing p u → IsGathered extensible ps held unknown t
      → IsGathered extensible (part p s ps) (None ∷ held) unknown (joined u t)
  gathered_missing p s ps held unknown u t m (ts, e, g) = (u ∷ ts, tree_more extensible u t ts unknown e, (u, ts, refl, m, g))

  pub gathered_optional : {T : Type 0} (s : Shape) (ps : Parts) (tree : T → Tree) (h : Option T) (held : List (Option Tree)) (unknown : List Tree) (t : Tree) → IsGathered extensible ps held unknown t
      → IsGathered extensible (part optional s ps) (held_tree tree h ∷ held) unknown (joined (option_tree tree h) t)
  gathered_optional s ps tree None held unknown t g = gathered_missing optional s ps held unknown absent t refl g
  gathered_optional s ps tree (Some v) held unknown t g = gathered_came optional s ps held unknown (tree v) t g

  pub gathered_some : {T : Type 0} (p : Presence) (s : Shape) (ps : Parts) (tree : T → Tree) (h : Option T) (v : T) (held : List (Option Tree)) (unknown : List Tree) (t : Tree) → h ≡ Some v → IsGathered extensible ps held unknown t
      → IsGathered extensible (part p s ps) (held_tree tree h ∷ held) unknown (joined (tree v) t)
  gathered_some p s ps tree None v held unknown t e g = cc
  gathered_some p s ps tree (Some u) v held unknown t e g =
      let f : u ≡ v = cc in
      subst (λ z. IsGathered extensible (part p s ps) (Some (tree u) ∷ held) unknown (joined (tree z) t)) f (gathered_came p s ps held unknown (tree u) t g)

  pub gathered_default : {T : Type 0} (s : Shape) (ps : Parts) (tree : T → Tree) (d : Tree) (h : Option T) (v : T) (held : List (Option Tree)) (unknown : List Tree) (t : Tree) → IsOrDefault tree d h (Ok v) → IsGathered extensible ps held unknown t
      → IsGathered extensible (part (default d) s ps) (held_tree tree h ∷ held) unknown (joined (tree v) t)
  gathered_default s ps tree d h v held unknown t (inl e) g = gathered_some (default d) s ps tree h v held unknown t e g
  gathered_default s ps tree d h v held unknown t (inr (e, f)) g =
      subst (λ z. IsGathered extensible (part (default d) s ps) (z ∷ held) unknown (joined (tree v) t)) (sym (held_none tree h e)) (gathered_missing (default d) s ps held unknown (tree v) t f g)

-- The first part is required, and its slot is empty; or one of the others lacks.
pub lacks_here : (s : Shape) (ps : Parts) (names : List (List ℕ)) (rule : Codec) (held : List (Option Tree)) (h : Option Tree) → h ≡ None → (name : List ℕ) → name ≡ name_at names zero → (e : DecodeError) → IsNamedError (IsMissingField name) rule e
    → IsLackOf (part required s ps) names rule (h ∷ held) e
lacks_here s ps names rule held h f name m e w = inr (0, (refl, f), subst (λ n. IsNamedError (IsMissingField n) rule e) m w)

pub others_lack : (p : Presence) (s : Shape) (ps : Parts) (names more : List (List ℕ)) (behind : (k : ℕ) → name_at more k ≡ name_at names (suc k)) (rule : Codec) (held : List (Option Tree)) (h : Option Tree) → (p ≡ required → h ≢ None)
    → (e : DecodeError) → IsLackOf ps more rule held e → IsLackOf (part p s ps) names rule (h ∷ held) e
others_lack p s ps names more behind rule held h n e (inl m) = inl m
others_lack p s ps names more behind rule held h n e (inr (k, l, w)) = inr (suc k, (n, l), subst (λ z. IsNamedError (IsMissingField z) rule e) (behind k) w)

-- What is made of all components is what their contents are read as.
made_contents : {D : Type 0} (made : List Tree → Result D DecodeError → Type 0) (old here : State) (r : Result D DecodeError) (read : Call Tree)
    → (fields : List Tree) × DecodesIntoSlots read old (Ok fields) here × made fields r
    → DecodesSetContents (DecodesIntoSlots read) made old r here
made_contents made old here (Ok v) read m = m
made_contents made old here (Err e) read m = inr m

-- One more reading of another number, or of this one.
pub all_of_other : (k j : ℕ) (u : Tree) (readings us : List Tree) → (j ≡ k → ⊥) → AllOf k readings us → AllOf k (readings ++ chosen j u ∷ []) us
all_of_other k j u [] us n a = inr ((λ v e. n (let f : j ≡ k = cc in f)), a)
all_of_other k j u (r ∷ rs) us n (inl (v, more, e, f, a)) = inl (v, more, e, f, all_of_other k j u rs more n a)
all_of_other k j u (r ∷ rs) us n (inr (d, a)) = inr (d, all_of_other k j u rs us n a)

pub all_of_more : (k : ℕ) (u : Tree) (readings us : List Tree) → AllOf k readings us → AllOf k (readings ++ chosen k u ∷ []) (us ++ u ∷ [])
all_of_more k u [] us a = rw a (inl (u, [], refl, refl, refl))
all_of_more k u (r ∷ rs) us (inl (v, more, e, f, a)) = inl (v, more ++ u ∷ [], e, ap (λ l. l ++ u ∷ []) f, all_of_more k u rs more a)
all_of_more k u (r ∷ rs) us (inr (d, a)) = inr (d, all_of_more k u rs us a)

-- The number of a slot of parts is below the number of parts.
slot_below : (ps : Parts) (j i : ℕ) (u : Tree) (before held : List (Option Tree)) (readings : List Tree) → IsPlacedAt before i u held → AreHeld j (presences ps) before readings → i < count ps
slot_below none j i u [] held readings c h = absurd c
slot_below none j i u (x ∷ before) held readings c h = absurd h
slot_below (part p s ps) j i u [] held readings c h = absurd c
slot_below (part p s ps) j zero u (x ∷ before) held readings c h = omega arith
slot_below (part p s ps) j (suc i) u (x ∷ before) held readings (others, e, c) h = omega (arith, slot_below ps (suc j) i u before others readings c h.1)

-- A reading with a number after those of the parts says nothing of them.
beyond_held : (ps : Parts) (j n : ℕ) (u : Tree) (held : List (Option Tree)) (readings : List Tree) → n ≡ j + count ps → AreHeld j (presences ps) held readings → AreHeld j (presences ps) held (readings ++ chosen n u ∷ [])
beyond_held none j n u [] readings e h = tt
beyond_held none j n u (x ∷ held) readings e h = absurd h
beyond_held (part p s ps) j n u [] readings e h = absurd h
beyond_held (part p s ps) j n u (x ∷ held) readings e h =
    (kept_more j (λ (t : Tree). t) x n u readings (λ f. omega (arith, e, f)) h.0, beyond_held ps (suc j) n u held readings (omega (arith, e)) h.1)

-- Components up to here, what was put into slots, the unknown ones, and the name of the first part that was read twice.
module _ (extensible : Bool) (ps : Parts) (names : List (List ℕ)) where
  abbrev pub Read : Call Tree
  Read = Decodes (choice_by extensible ps) (λ (t : Tree). t)

  abbrev pub Seen : Option (Bor (List ℕ)) → List (Option Tree) → List Tree → List Tree → Type 0
  Seen None held unknown done = AreHeld 0 (presences ps) held done × AllOf (count ps) done unknown
  Seen (Some n) held unknown done = (k : ℕ) × RepeatsFirst ps k done × (text n ≡ name_at names k)

  abbrev pub ReadTo : State → State → Option Tag → Option (Bor (List ℕ)) → List (Option Tree) → List Tree → Type 0
  ReadTo old here last twice held unknown = (done : List Tree) × (bs : List (List ℕ)) × DecodesInTurnFrom Read old done bs here × Tagged old bs last × Seen twice held unknown done

  pub none_read : (old : State) (held : List (Option Tree)) (unknown : List Tree) → AreEmpty ps held → unknown ≡ [] → ReadTo old old None None held unknown
  none_read old held unknown n e = ([], [], (refl, refl), (λ s. ([], refl, tt, refl)), (none_held ps 0 held n, e))

  seen_placed : (twice : Option (Bor (List ℕ))) (before held : List (Option Tree)) (unknown done : List Tree) (i : ℕ) (u : Tree) → IsPlacedAt before i u held → Seen twice before unknown done
      → Seen (option_or twice None) held unknown (done ++ chosen i u ∷ [])
  seen_placed None before held unknown done i u c (h, a) =
      let l = slot_below ps 0 i u before held done c h in
      (placed_held (presences ps) 0 i i u before held done (omega arith) c h, all_of_other (count ps) i u done unknown (λ e. omega (arith, l, e)) a)
  seen_placed (Some n) before held unknown done i u c (k, r, m) = (k, repeats_more ps k done (chosen i u) r, m)

  seen_unknown : (twice : Option (Bor (List ℕ))) (before held : List (Option Tree)) (unknown after done : List Tree) (u : Tree) → held ≡ before → after ≡ unknown ++ u ∷ [] → Seen twice before unknown done
      → Seen (option_or twice None) held after (done ++ chosen (count ps) u ∷ [])
  seen_unknown None before held unknown after done u e f (h, a) = (
    subst (λ l. AreHeld 0 (presences ps) l (done ++ chosen (count ps) u ∷ [])) (sym e) (beyond_held ps 0 (count ps) u before done (omega arith) h),
    subst (AllOf (count ps) (done ++ chosen (count ps) u ∷ [])) (sym f) (all_of_more (count ps) u done unknown a),
  )
  seen_unknown (Some n) before held unknown after done u e f (k, r, m) = (k, repeats_more ps k done (chosen (count ps) u) r, m)

  seen_twice : (twice : Option (Bor (List ℕ))) (n : Bor (List ℕ)) (before held : List (Option Tree)) (unknown after done : List Tree) (i : ℕ) (u : Tree) → IsFilled before i → text n ≡ name_at names i → Seen twice before unknown done
      → Seen (option_or twice (Some n)) held after (done ++ chosen i u ∷ [])
  seen_twice None n before held unknown after done i u c m (h, a) =
      let o = filled_slot ps 0 i i before done (omega arith) c h in
      (i, record { before = done; value = u; after = []; is = refl; once = held_once (presences ps) 0 before done h; is_part = o.0; read = o.1 }, m)
  seen_twice (Some x) n before held unknown after done i u c m (k, r, l) = (k, repeats_more ps k done (chosen i u) r, l)

  module _ (old here : State) (last : Option Tag) (twice : Option (Bor (List ℕ))) (held : List (Option Tree)) (unknown : List Tree) (k : ReadTo old here last twice held unknown) where
    stays_here : here ≡ record old { rest = here.rest }
    stays_here = came_stays (choice_by extensible ps) (λ (t : Tree). t) old here k.0 k.1 k.2

    pub read_rules : here.rule ≡ old.rule
    read_rules = rule_is old here stays_here

    unread : {D : Type 0} (tree : D → Tree) → (Ended here.closing here.rest → ⊥) → (e : DecodeError) (new : State) → FailsAtComponent (RefusesElement Read) k.1 here e new → DecodesSetPartContents extensible ps tree names old (Err e) new
    unread tree n e new f = inl (k.0, k.1, here, (k.2, tagged_order old k.1 last k.3), n, f)

    pub untold : {D : Type 0} (tree : D → Tree) → (Ended here.closing here.rest → ⊥) → (e : DecodeError) → PeeksInOrder last here (Err e) → DecodesSetPartContents extensible ps tree names old (Err e) here
    untold tree n e p = unread tree n e here (look_refused old here stays_here k.1 last k.3 (RefusesElement Read) e p)

    pub next_fails : {D : Type 0} (tree : D → Tree) → (Ended here.closing here.rest → ⊥) → (found : Option Tag) → PeeksInOrder last here (Ok found) → (e : DecodeError) (new : State) (after : List (Option Tree)) (more : List Tree)
        → DecodesNext extensible ps names held unknown here (Err e) new after more → DecodesSetPartContents extensible ps tree names old (Err e) new
    next_fails tree n found p e new after more f = unread tree n e new (not_read (look_follows old here stays_here k.1 last k.3 found p) f)

    passed : (Ended here.closing here.rest → ⊥) → (found : Option Tag) → PeeksInOrder last here (Ok found) → (twice : Option (Bor (List ℕ))) (new : State) (after : List (Option Tree)) (more : List Tree) (i : ℕ) (u : Tree)
        → Decodes (choice_by extensible ps) (λ (t : Tree). t) here (Ok (chosen i u)) new → length new.rest ≢ length here.rest → Seen twice after more (k.0 ++ chosen i u ∷ []) → ReadTo old new found twice after more
    passed n found p twice new after more i u d l seen =
        let b = d.end.0 in (
          k.0 ++ chosen i u ∷ [],
          k.1 ++ b ∷ [],
          passes_from Read here new (chosen i u) b d.end.1 n d l old k.0 _ k.1 refl k.2,
          look_kept old here stays_here k.1 last k.3 (choice_by extensible ps) (λ (t : Tree). t) found p (chosen i u) new d b d.end.1 l,
          seen,
        )

    pub next_passes : (Ended here.closing here.rest → ⊥) → (found : Option Tag) → PeeksInOrder last here (Ok found) → (next : Option (Bor (List ℕ))) (new : State) (after : List (Option Tree)) (more : List Tree)
        → DecodesNext extensible ps names held unknown here (Ok next) new after more → ReadTo old new found (option_or twice next) after more
    next_passes n found p None new after more (inl (i, u, c, q, (d, l))) =
        passed n found p (option_or twice None) new after more i u d l (subst (λ us. Seen (option_or twice None) after us (k.0 ++ chosen i u ∷ [])) (sym q) (seen_placed twice held after unknown k.0 i u c k.4))
    next_passes n found p None new after more (inr (u, f, q, (d, l))) = passed n found p (option_or twice None) new after more (count ps) u d l (seen_unknown twice held after unknown more k.0 u f q k.4)
    next_passes n found p (Some x) new after more (i, u, c, f, q, m, (d, l)) = passed n found p (option_or twice (Some x)) new after more i u d l (seen_twice twice x held after unknown more k.0 i u c m k.4)

  -- All components were read, and this is made of them.
  abbrev pub Made : {D : Type 0} → (D → Tree) → State → State → Result D DecodeError → Type 0
  Made tree old here r = (fields : List Tree) × DecodesIntoSlots Read old (Ok fields) here × MakesNamed extensible ps tree names old.rule fields r

  module _ {D : Type 0} (tree : D → Tree) (old here : State) (last : Option Tag) (held : List (Option Tree)) (unknown : List Tree) (n : Ended here.closing here.rest) where
    made_exact : (r : Result D DecodeError) → Made tree old here r → DecodesSetPartContents extensible ps tree names old r here
    made_exact r (fields, d, m) = made_contents (MakesOfReadings extensible ps tree names old.rule) old here r Read (fields, d, m.0)

    pub all_made : ReadTo old here last None held unknown → (r : Result D DecodeError) → MakesParts extensible ps tree names here.rule held unknown r → IfErr r (λ e. IsOutOfMemory e.kind → HasGap (presences ps) held) → Made tree old here r
    all_made k r m g =
        let f = came_stays (choice_by extensible ps) (λ (t : Tree). t) old here k.0 k.1 k.2 in
        let made = made_of_held extensible ps tree names old.rule held unknown k.0 k.4.0 k.4.1 r (subst (λ (z : State). MakesParts extensible ps tree names z.rule held unknown r) f m) in
        (k.0, (k.1, (k.2, tagged_order old k.1 last k.3), n), named_of_held extensible ps tree names old.rule held k.0 k.4.0 r made g)

    pub all_once : ReadTo old here last None held unknown → (r : Result D DecodeError) → MakesParts extensible ps tree names here.rule held unknown r → IfErr r (λ e. IsOutOfMemory e.kind → HasGap (presences ps) held)
        → DecodesSetPartContents extensible ps tree names old r here
    all_once k r m g = made_exact r (all_made k r m g)

    pub made_twice : (x : Bor (List ℕ)) → ReadTo old here last (Some x) held unknown → (e : DecodeError) → IsNamedError (IsDuplicateField (text x)) here.rule e → Made tree old here (Err e)
    made_twice x (done, bs, p, t, (i, r, m)) e w =
        let f = came_stays (choice_by extensible ps) (λ (t : Tree). t) old here done bs p in
        let named = subst (λ z. IsNamedError (IsDuplicateField z) old.rule e) m (subst (λ (z : State). IsNamedError (IsDuplicateField (text x)) z.rule e) f w) in
        (done, (bs, (p, tagged_order old bs last t), n), (inr (inl (i, r, named)), λ o. inl (i, r)))

    pub one_twice : (x : Bor (List ℕ)) → ReadTo old here last (Some x) held unknown → (e : DecodeError) → IsNamedError (IsDuplicateField (text x)) here.rule e → DecodesSetPartContents extensible ps tree names old (Err e) here
    one_twice x k e w = made_exact (Err e) (made_twice x k e w)

-- The same of components that are each read as one of the parts.
module _ {D : Type 0} (extensible : Bool) (ps : Parts) (tree : D → Tree) (name : List ℕ) (names : List (List ℕ)) (errors : Tag → Errors) where
  turn_named : (old here : State) (vs : List Tree) (bs : List (List ℕ)) → DecodesInTurnFrom (Read extensible ps names) old vs bs here → DecodesInTurnFrom (DecodesOneOf extensible ps name errors) old vs bs here
  turn_named old here [] bs p = p
  turn_named old here (v ∷ vs) bs (b, more, next, e, f, d, r, n, p) = (b, more, next, e, f, d, (r, tt), n, turn_named next here vs more p)

  pub made_named : (old here : State) (r : Result D DecodeError) → Made extensible ps names tree old here r → DecodesNamedContents extensible ps tree name names errors old r here
  made_named old here r (fields, (bs, (p, o), n), m) =
      made_contents (MakesNamed extensible ps tree names old.rule) old here r (DecodesOneOf extensible ps name errors) (fields, (bs, (turn_named old here fields bs p, o), n), m)

  module _ (old here : State) (last : Option Tag) (twice : Option (Bor (List ℕ))) (held : List (Option Tree)) (unknown : List Tree) (k : ReadTo extensible ps names old here last twice held unknown) where
    unread_named : (Ended here.closing here.rest → ⊥) → (e : DecodeError) (new : State) → FailsAtComponent (RefusesElement (DecodesOneOf extensible ps name errors)) k.1 here e new
        → DecodesNamedContents extensible ps tree name names errors old (Err e) new
    unread_named n e new f = inl (k.0, k.1, here, (turn_named old here k.0 k.1 k.2, tagged_order old k.1 last k.3), n, f)

    stays_named : here ≡ record old { rest = here.rest }
    stays_named = stays_here extensible ps names old here last twice held unknown k

    pub untold_named : (Ended here.closing here.rest → ⊥) → (e : DecodeError) → PeeksInOrder last here (Err e) → DecodesNamedContents extensible ps tree name names errors old (Err e) here
    untold_named n e p = unread_named n e here (look_refused old here stays_named k.1 last k.3 (RefusesElement (DecodesOneOf extensible ps name errors)) e p)

    pub named_fails : (Ended here.closing here.rest → ⊥) → (found : Option Tag) → PeeksInOrder last here (Ok found) → (e : DecodeError) (new : State) → RefusesElement (DecodesOneOf extensible ps name errors) here e new
        → DecodesNamedContents extensible ps tree name names errors old (Err e) new
    named_fails n found p e new f = unread_named n e new (not_read (look_follows old here stays_named k.1 last k.3 found p) f)
