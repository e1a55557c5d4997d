-- A CHOICE is decoded or refused if each of its alternatives is.
use Rattle.std.proofs.Common.{◌≡◌, ◌+◌, ℕ, suc, inl, inr, Bool, true, false, List, Some, Result, Ok, Err, refl, sym, subst}
use Rattle.std.proofs.StringFromBytes.{spelled}
use Rattle.std.specs.Prelude.{String}
use Rattle.std.specs.Global.{Global}
use Rattle.rasn_types.specs.declared.types.tag.Tag.{Tag}
use Rattle.rasn_types.specs.declared.types.any.Any.{Any}
use Rattle.rasn_types.specs.declared.error.decode.DecodeError.{DecodeError}
use Rattle.rasn_types.specs.declared.error.decode.DecodeErrorKind.TheVariants.{NoValidChoice}
use Rattle.rasn_types.specs.Tags.{form, eoc}
use Rattle.rasn_types.specs.Framing.{AreOctets, NextTag}
use Rattle.rasn_types.specs.Shapes.{Tree, numbers, chosen, Shape, own, choice_by, Parts, part, Presence, required, IsFirstOf}
use Rattle.rasn_types.specs.Shapes.Parts.{none}
use Rattle.rasn_de.specs.declared.ber.de.parser.ParseError.{ParseError}
use Rattle.rasn_de.specs.Causes.{error_kind}
use Rattle.rasn_de.specs.Headers.{Identified, identifier_at}
use Rattle.rasn_de.specs.State.{State, at}
use Rattle.rasn_de.specs.Steps.{PeeksTag}
use Rattle.rasn_de.specs.Outcomes.{Got, refusal}
use Rattle.rasn_de.specs.Decodes.{DecodesExactly}
use Rattle.rasn_de.specs.AlternativeTypes.{FailsAtValue}
use Rattle.rasn_de.specs.SetPartTypes.{ReadsPartAt}
use Rattle.rasn_de.specs.Choice.{DecodesChosen}
use Rattle.rasn_de.specs.ValueErrors.{Errors, errors_of, IsErrorOfAlternative, DecodesOr}
use Rattle.rasn_de.proofs.Headers.Memory.{NoMemory, identifier_none}
use Rattle.rasn_de.proofs.Headers.NextTag.{next_parsed, kind_memory}
use Rattle.rasn_de.proofs.Constructed.Choice.{choice_by_decodes}
use Rattle.rasn_de.proofs.OwnTypes.Alternatives.{OneAlternative}
use Rattle.rasn_de.proofs.OwnTypes.AlternativeTypes.{own_tag, other_tag, first_got, first_known, first_fails_by, others_read, others_got, others_fail_by, none_read, unknown_read, alternative_decodes, no_next_tag, numbered_decodes}
use Rattle.rasn_de.proofs.OwnTypes.SetPartTypes.{placed_refused, unknown_refused}
use Rattle.rasn.specs.OneRefusal.{Refuses, IsName, Settles, SettlesAt, RefusesByTag, AreSettled, ErrorsOfChoice}
use Rattle.rasn.proofs.OneRefusal.Alternatives.{chosen_exact}
use Rattle.rasn.proofs.OneRefusal.Calls.{or_settles}
use Rattle.rasn.proofs.OneRefusal.OpenRead.{open_or}

-- A String that contains a name.
abbrev pub named : (name : List ℕ) → IsName name → String Global
named name (utf8, small) = spelled (record { memory = record { seal = tt } }) name ∣ utf8 ∣₁ small

-- Where there are no parts, a value is refused.
pub no_part : (name : List ℕ) → IsName name → (tag : Tag) (old : State) → (e : DecodeError) × Refuses (RefusesByTag false none name (λ _ _ _ _. Unit {0}) tag) old e old
no_part name is tag old =
    let e : DecodeError = record { kind = NoValidChoice (named name is); codec = old.rule } in
    (e, ((record { from = λ k. none_read k e.kind }, (((refl, inl refl), refl), tt)), λ w. cc))

-- The unknown alternative is read, or it is refused.
pub unknown_or : (name : List ℕ) (tag : Tag) (old : State) → AreOctets old.rest → NextTag (form old.rule) old.rest tag → ((a : Any) (new : State) → ReadsPartAt true none 0 (numbers a) old new → ⊥)
    → ((e : DecodeError) (new : State) → Refuses (RefusesByTag true none name (λ _ _ _ _. Unit {0}) tag) old e new → ⊥) → ⊥
unknown_or name tag old o n passed failed =
    open_or eoc old o (λ a rest d. passed a (at old rest) (record { from = λ k. unknown_read tag old (Ok a) (at old rest) n d k }))
    (λ e m d. failed e old ((unknown_refused tag old old n e d, (d, tt)), m))

-- The first part is refused, or one of the others.
module _ (extensible : Bool) (p : Presence) (s : Shape) (ps : Parts) (name : List ℕ) (t : Tag) (first : Errors) (others : Tag → Errors) (is : own s ≡ Some t) (tag : Tag) (old new : State) (n : NextTag (form old.rule) old.rest tag) (e : DecodeError) where
  pub first_unread : tag ≡ t → (IsFirstOf ps t → ⊥) → DecodesExactly (OneAlternative p s) old (refusal e.kind) new → FailsAtValue p s old e new → first old e new
      → RefusesByTag extensible (part p s ps) name (IsErrorOfAlternative t first others) tag old e new
  first_unread h apart a f x =
      (placed_refused extensible p s ps tag t h is apart old new n e a, (first_fails_by extensible p s ps name tag old new e (own_tag s tag t h is) f, inl (h, x)))

  pub others_unread : (tag ≡ t → ⊥) → RefusesByTag extensible ps name others tag old e new → RefusesByTag extensible (part p s ps) name (IsErrorOfAlternative t first others) tag old e new
  others_unread not (a, (f, x)) = (
    record { from = λ j. others_read p s ps tag t not is old new n extensible j (refusal e.kind) (a.from (suc j)) },
    (others_fail_by extensible p s ps name tag old new e (other_tag s tag t not is) f, inr (not, x)),
  )

pub no_alternative_settles : {D : Type 0} (number : D → ℕ) (inner : D → Tree) (name : List ℕ) → IsName name → AreSettled false none number inner name (λ _ _ _ _. Unit {0})
no_alternative_settles number inner name is tag old o b n passed failed = let f = no_part name is tag old in failed f.0 old f.1

pub unknown_settles : (name : List ℕ) → AreSettled true none (λ (a : Any). 0) numbers name (λ _ _ _ _. Unit {0})
unknown_settles name tag old o b n passed failed = unknown_or name tag old o n passed failed

-- A value is one of the first alternative, or one of the others.
module _ {A R D : Type 0} (extensible : Bool) (s : Shape) (ps : Parts) (name : List ℕ) (t : Tag) (first : Errors) (others : Tag → Errors) (is : own s ≡ Some t) (apart : IsFirstOf ps t → ⊥) (tree : A → Tree) (rest_number : R → ℕ) (rest_inner : R → Tree)
    (number : D → ℕ) (inner : D → Tree) (this : A → D) (other : R → D) (this_is : (a : A) → (number (this a) ≡ 0) × (inner (this a) ≡ tree a)) (other_is : (r : R) → (number (other r) ≡ suc (rest_number r)) × (inner (other r) ≡ rest_inner r)) where
  abbrev Reads : ℕ → Tree → State → State → Type 0
  Reads k u old new = ReadsPartAt extensible (part required s ps) k u old new

  read_as : (k m : ℕ) (u v : Tree) (old new : State) → m ≡ k → v ≡ u → Reads k u old new → Reads m v old new
  read_as k m u v old new e f a = subst (λ z. Reads z v old new) (sym e) (subst (λ z. Reads k z old new) (sym f) a)

  pub alternative_settles : Settles (DecodesOr s tree first) → AreSettled extensible ps rest_number rest_inner name others → AreSettled extensible (part required s ps) number inner name (IsErrorOfAlternative t first others)
  alternative_settles all rest tag old o b n passed failed =
      rest tag old o b n
      (λ r new a. passed (other r) new (read_as (suc (rest_number r)) (number (other r)) (rest_inner r) (inner (other r)) old new (other_is r).0 (other_is r).1
      (record { from = λ k. others_got required s ps tag t not is old new n extensible k (rest_number r) (rest_inner r) (a.from (suc k)) })))
      (λ e new a. failed e new (others_unread extensible required s ps name t first others is tag old new n e not a.0, a.1))
    where
      not : tag ≡ t → ⊥
      not h =
          all old o b
          (λ v new a. passed (this v) new (read_as 0 (number (this v)) (tree v) (inner (this v)) old new (this_is v).0 (this_is v).1
          (record { from = λ k. first_known required s ps tag t h is apart extensible old new (Got (chosen (k + 0) (tree v)) new.rest) n k (first_got required s ps tag t h is apart old new n (tree v) a.0 k) })))
          (λ e new a. failed e new (first_unread extensible required s ps name t first others is tag old new n e h apart a.0.0 a.0.0 a.0.1, a.1))

-- A CHOICE.
module _ {D : Type 0} (extensible : Bool) (ps : Parts) (number : D → ℕ) (inner : D → Tree) (name : List ℕ) (errors : Tag → Errors) where
  abbrev tree : D → Tree
  tree v = chosen (number v) (inner v)

  pub choice_settles : AreSettled extensible ps number inner name errors → Settles (DecodesOr (choice_by extensible ps) (λ v. chosen (number v) (inner v)) (ErrorsOfChoice extensible ps (λ v. chosen (number v) (inner v)) name errors))
  choice_settles all old o b passed failed = go (identifier_at (form old.rule) old.rest) refl
    where
      go : (r : Result Identified ParseError) → identifier_at (form old.rule) old.rest ≡ r → ⊥
      go (Ok i) q =
          let n = next_parsed (form old.rule) old.rest i o q in
          all i.tag old o b n (λ v new a. passed v new (numbered_decodes extensible ps number inner old (Ok v) new (record { from = a.from }), tt))
          (λ e new a.
          let d = numbered_decodes extensible ps number inner old (Err e) new (record { from = a.0.0.from }) in
          failed e new ((d, (alternative_decodes extensible ps tree name i.tag old (Err e) new n d a.0.1.0, inr (i.tag, n, a.0.1.1))), a.1))
      go (Err f) q =
          let e : DecodeError = record { kind = error_kind f; codec = old.rule } in
          let p : PeeksTag old (Err e) = (f, rw q refl, refl) in
          failed e old ((choice_by_decodes extensible (choice_by extensible ps) ps refl tree old (Err e) old (inl (p, refl)), (no_next_tag extensible ps tree name old e p, inl (p, refl))), kind_memory f (subst NoMemory q (identifier_none _ old.rest)))

-- A CHOICE that is read by the function of its type for the next tag.
pub chosen_settles : {D : Type 0} (extensible : Bool) (s : Shape) (ps : Parts) → s ≡ choice_by extensible ps → (tree : D → Tree) (errors : Errors) → ((tag : Tag) → SettlesAt tag (DecodesOr s tree errors))
    → Settles (DecodesOr s tree (errors_of (DecodesChosen (DecodesOr s tree errors))))
chosen_settles extensible s ps is tree errors all = or_settles (DecodesChosen (DecodesOr s tree errors)) s tree (chosen_exact extensible s ps is tree errors) settles
  where
    settles : Settles (DecodesChosen (DecodesOr s tree errors))
    settles old o b passed failed = go (identifier_at (form old.rule) old.rest) refl
      where
        go : (r : Result Identified ParseError) → identifier_at (form old.rule) old.rest ≡ r → ⊥
        go (Ok i) q = let n = next_parsed (form old.rule) old.rest i o q in all i.tag old o b n (λ v new a. passed v new (i.tag, n, a)) (λ e new a. failed e new (inr (i.tag, n, a.0), a.1))
        go (Err f) q = failed (record { kind = error_kind f; codec = old.rule }) old (inl ((f, rw q refl, refl), refl), kind_memory f (subst NoMemory q (identifier_none _ old.rest)))
