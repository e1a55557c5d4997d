-- What was read of each part of an Event.
use Rattle.std.proofs.Common.{◌≡◌, ◌⊎◌, inl, inr, ℕ, Bool, List, [], ◌∷◌, ◌++◌, Option, Some, None, Vec, Global, map, unwrap_or, refl, sym, ap, ◌∙◌, subst, arith}
use Rattle.std.specs.Prelude.{Contains, false, Result, Ok, Err, IfErr, codes}
use Rattle.std.proofs.lemmas.List.{map-append}
use Rattle.std.proofs.lemmas.List.Elements.{Contains-append_left}
use Rattle.rasn_types.specs.declared.types.codec.Codec.{Codec}
use Rattle.rasn_types.specs.declared.error.decode.DecodeError.{DecodeError}
use Rattle.rasn_types.specs.Tags.{in_universal}
use Rattle.rasn_types.specs.declared.types.tag.Tag.{Tag}
use Rattle.rasn_types.specs.declared.error.decode.DecodeErrorKind.{DecodeErrorKind}
use Rattle.rasn_types.specs.Shapes.{Tree, items, chosen, presences, required, optional, default, IsFirst}
use Rattle.rasn_types.specs.Readings.{NoneOf, OneOf}
use Rattle.rasn_types.specs.Trees.{bool_tree, option_tree}
use Rattle.rasn_de.specs.Outcomes.{Exact, refusal}
use Rattle.rasn_de.specs.Choice.{IsOnlyAlternative}
use Rattle.rasn_de.specs.NamedErrors.{IsNamedError, IsDuplicateField, IsMissingField}
use Rattle.rasn_de.specs.Set.{AreParts, DecodesComponents, DecodesSetContents, DecodesSetBy}
use Rattle.rasn_de.specs.SetPartTypes.{IsPart, AreOnce, RepeatsFirst, MakesNamed, name_at}
use Rattle.rasn_de.specs.State.{State, Call, EachCall}
use Rattle.rasn_de.proofs.OwnTypes.Components.{Slot, slot_appended, slot_kept, component_missing, component_there, component_default, component_optional, components_end}
use Rattle.rasn_de.proofs.OwnTypes.Tags.{only}
use Rattle.rasn_de.proofs.Constructed.Steps.{inside_by}
use Rattle.rasn_de.specs.Constructed.{sequence_header}
use Rattle.rasn_examples.specs.declared.time.Time.{Time}
use Rattle.rasn_examples.specs.declared.event.Component.{Component}
use Rattle.rasn_examples.specs.declared.event.Component.TheVariants.{At, Level, Confirmed}
use Rattle.rasn_examples.specs.Times.{time_shape, time_tree}
use Rattle.rasn_examples.specs.Event.{event_parts, event_tree, event_names, level_tree, component_tree}

-- Either tag of a Time is that of the first part alone.
pub time_alone : (tag : Tag) → IsFirst time_shape tag → IsOnlyAlternative event_parts 0 required time_shape tag
time_alone tag (inl e) = only event_parts 0 (in_universal 23) refl refl e
time_alone tag (inr (inl e)) = only event_parts 0 (in_universal 24) refl refl e
time_alone tag (inr (inr e)) = absurd e

abbrev pub Slots : Option Time → Option ℕ → Option Bool → List Tree → Type 0
Slots time level confirmed readings = Slot 0 time_tree time readings × Slot 1 level_tree level readings × Slot 2 bool_tree confirmed readings

-- The next component is put where none of its part was read.
module _ (done : List Component) (time : Option Time) (level : Option ℕ) (confirmed : Option Bool) (s : Slots time level confirmed (map component_tree done)) where
  pub appended_time : (t : Time) → time ≡ None → Slots (Some t) level confirmed (map component_tree (done ++ At t ∷ []))
  appended_time t e = (
    slot_appended component_tree time_tree done (At t) t 0 refl time e s.0,
    slot_kept component_tree level_tree done (At t) (time_tree t) 1 0 refl level (λ p. omega (arith, p)) s.1,
    slot_kept component_tree bool_tree done (At t) (time_tree t) 2 0 refl confirmed (λ p. omega (arith, p)) s.2,
  )

  pub appended_level : (n : ℕ) → level ≡ None → Slots time (Some n) confirmed (map component_tree (done ++ Level n ∷ []))
  appended_level n e = (
    slot_kept component_tree time_tree done (Level n) (level_tree n) 0 1 refl time (λ p. omega (arith, p)) s.0,
    slot_appended component_tree level_tree done (Level n) n 1 refl level e s.1,
    slot_kept component_tree bool_tree done (Level n) (level_tree n) 2 1 refl confirmed (λ p. omega (arith, p)) s.2,
  )

  pub appended_confirmed : (b : Bool) → confirmed ≡ None → Slots time level (Some b) (map component_tree (done ++ Confirmed b ∷ []))
  appended_confirmed b e = (
    slot_kept component_tree time_tree done (Confirmed b) (bool_tree b) 0 2 refl time (λ p. omega (arith, p)) s.0,
    slot_kept component_tree level_tree done (Confirmed b) (bool_tree b) 1 2 refl level (λ p. omega (arith, p)) s.1,
    slot_appended component_tree bool_tree done (Confirmed b) b 2 refl confirmed e s.2,
  )

-- The time that was read is one of the components.
abbrev pub IsThere : Option Time → List Component → Type 0
IsThere None done = Unit {0}
IsThere (Some t) done = Contains done (At t)

pub there_still : (time : Option Time) (done : List Component) (next : Component) → IsThere time done → IsThere time (done ++ next ∷ [])
there_still None done next h = tt
there_still (Some t) done next h = Contains-append_left done (next ∷ []) (At t) h

-- No time was read at the end.
pub no_time : (all done : List Component) → done ≡ all → (held : Option Time) → held ≡ None → Slot 0 time_tree held (map component_tree done) → (kind : DecodeErrorKind)
    → Exact (λ input v left. AreParts event_parts (map component_tree all) v) [] (refusal kind)
no_time all done e held f s kind = component_missing event_parts 0 refl (map component_tree all)
    (subst (λ h. Slot 0 time_tree h (map component_tree all)) f (subst (λ l. Slot 0 time_tree held (map component_tree l)) e s)) kind

-- The level that was read, or the default.
found : (held : Option ℕ) (n : ℕ) → n ≡ unwrap_or held 7 → (held ≡ Some n) ⊎ ((held ≡ None) × (level_tree n ≡ level_tree 7))
found None n e = inr (refl, ap level_tree e)
found (Some m) n e = inl (ap Some (sym e))

pub all_there : (all done : List Component) → done ≡ all → (t : Time) (n : ℕ) (time : Option Time) (level : Option ℕ) (confirmed : Option Bool) → time ≡ Some t → n ≡ unwrap_or level 7
    → Slots time level confirmed (map component_tree done) → AreParts event_parts (map component_tree all) (items (time_tree t ∷ level_tree n ∷ option_tree bool_tree confirmed ∷ []))
all_there all done e t n time level confirmed p q s =
    let readings = map component_tree done in
    subst (λ l. AreParts event_parts (map component_tree l) (items (time_tree t ∷ level_tree n ∷ option_tree bool_tree confirmed ∷ []))) e (
      time_tree t ∷ level_tree n ∷ option_tree bool_tree confirmed ∷ [],
      refl,
      component_there required (default (level_tree 7) ∷ optional ∷ []) 0 (time_tree t) (level_tree n ∷ option_tree bool_tree confirmed ∷ []) readings
          (subst (λ h. Slot 0 time_tree h readings) p s.0)
          (component_default (level_tree 7) (optional ∷ []) 1 level_tree level n (option_tree bool_tree confirmed ∷ []) readings s.1 (found level n q)
          (component_optional [] 2 bool_tree confirmed [] readings s.2 (components_end 3 readings))),
    )

-- A part that a slot describes is read at most once.
slot_once : {D : Type 0} (k : ℕ) (tree : D → Tree) (held : Option D) (readings : List Tree) → Slot k tree held readings → NoneOf k readings ⊎ ((t : Tree) × OneOf k t readings)
slot_once k tree None readings s = inl s
slot_once k tree (Some v) readings s = inr (tree v, s)

once : (time : Option Time) (level : Option ℕ) (confirmed : Option Bool) (readings : List Tree) → Slots time level confirmed readings → AreOnce 0 (presences event_parts) readings
once time level confirmed readings s = (slot_once 0 time_tree time readings s.0, (slot_once 1 level_tree level readings s.1, (slot_once 2 bool_tree confirmed readings s.2, tt)))

was_read : {D : Type 0} (k : ℕ) (tree : D → Tree) (held : Option D) (readings : List Tree) → (held ≡ None → ⊥) → Slot k tree held readings → (t : Tree) × OneOf k t readings
was_read k tree None readings n s = absurd (n refl)
was_read k tree (Some v) readings n s = (tree v, s)

-- A component is read whose part was read before, and the error has the name of the part.
pub named_twice : {D : Type 0} (k : ℕ) → IsPart k event_parts → (all done rest : List Component) (c : Component) (u : Tree) → component_tree c ≡ chosen k u → all ≡ done ++ c ∷ rest
    → (tree : D → Tree) (held : Option D) → (held ≡ None → ⊥) → Slot k tree held (map component_tree done) → AreOnce 0 (presences event_parts) (map component_tree done)
    → (rule : Codec) (e : DecodeError) → IsNamedError (IsDuplicateField (name_at event_names k)) rule e → MakesNamed false event_parts event_tree event_names rule (map component_tree all) (Err e)
named_twice k q all done rest c u f e tree held n s o rule error named =
    let repeats : RepeatsFirst event_parts k (map component_tree all) = record {
      before = map component_tree done;
      value = u;
      after = map component_tree rest;
      is = ap (map component_tree) e ∙ map-append component_tree done (c ∷ rest) ∙ ap (λ t. map component_tree done ++ t ∷ map component_tree rest) f;
      once = o;
      is_part = q;
      read = was_read k tree held (map component_tree done) n s;
    } in
    (inr (inl (k, repeats, named)), λ w. inl (k, repeats))

-- No time is read, and the error says so.
pub named_missing : (all done : List Component) → done ≡ all → (time : Option Time) → time ≡ None → (level : Option ℕ) (confirmed : Option Bool) → Slots time level confirmed (map component_tree done)
    → (rule : Codec) (e : DecodeError) → IsNamedError (IsMissingField (name_at event_names 0)) rule e → MakesNamed false event_parts event_tree event_names rule (map component_tree all) (Err e)
named_missing all done q time f level confirmed s rule e named =
    let none = subst (λ h. Slot 0 time_tree h (map component_tree done)) f s.0 in
    subst (λ l. MakesNamed false event_parts event_tree event_names rule (map component_tree l) (Err e)) q
    (inr (inr (once time level confirmed (map component_tree done) s, (0, (refl, none), named))), λ w. inr (inl (tt, none)))

pub slots_once : (done : List Component) (time : Option Time) (level : Option ℕ) (confirmed : Option Bool) → Slots time level confirmed (map component_tree done) → AreOnce 0 (presences event_parts) (map component_tree done)
slots_once done time level confirmed s = once time level confirmed (map component_tree done) s

-- What a function makes of components is said in other words.
module _ {L S : Type 0} (read : Call L) (made other : L → Result S DecodeError → Type 0) (by : (fields : L) (r : Result S DecodeError) → made fields r → other fields r) where
  contents_made : EachCall (DecodesSetContents read made) (DecodesSetContents read other)
  contents_made old (Ok v) new (fields, k, m) = (fields, k, by fields (Ok v) m)
  contents_made old (Err e) new (inl k) = inl k
  contents_made old (Err e) new (inr (fields, k, m)) = inr (fields, k, by fields (Err e) m)

-- The errors of a SET whose components a function makes are those of what it makes, which another clause names.
pub set_fails : {F S E Z : Type 0} {M : Vec F Global → Result S DecodeError → Type 0} (read : Call F) (made other : Vec F Global → Result S DecodeError → Type 0)
    → (E → ((fields : Vec F Global) (r : Result S DecodeError) → made fields r → M fields r) → Z) → (tag : Tag) (old : State) (r : Result S DecodeError) (new : State) → DecodesSetBy read made tag old r new
    → ((fields : Vec F Global) (r : Result S DecodeError) → made fields r → other fields r) → IfErr r (λ e. DecodesSetBy read other tag old (Err e) new)
set_fails read made other clause tag old (Ok v) new k by = tt
set_fails {F} read made other clause tag old (Err e) new k by =
    let components = DecodesComponents read (λ (v : Vec F Global). v.items) in
    inside_by (DecodesSetContents components made) (DecodesSetContents components other) (sequence_header tag) old (Err e) new k (contents_made components made other by)
