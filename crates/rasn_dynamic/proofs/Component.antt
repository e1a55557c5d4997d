-- One more component of a SET is read.
use Rattle.std.proofs.Common.{◌≡◌, ℕ, zero, suc, ◌<◌, Bool, true, false, inl, inr, List, [], ◌∷◌, ◌++◌, map, length, Option, Some, None, Result, Ok, Err, refl, sym, ap, ◌∙◌, subst, arith}
use Rattle.std.specs.Prelude.{slice_get}
use Rattle.std.specs.Borrow.{Bor}
use Rattle.std.specs.String.{string_bytes}
use Rattle.rasn_types.specs.declared.types.tag.Tag.{Tag}
use Rattle.rasn_types.specs.declared.error.decode.DecodeError.{DecodeError}
use Rattle.rasn_types.specs.Tags.{form}
use Rattle.rasn_types.specs.Framing.{NextTag}
use Rattle.rasn_types.specs.Errors.{IsOutOfMemory}
use Rattle.rasn_types.specs.Grammar.{Reads}
use Rattle.rasn_types.specs.Shapes.{Tree, chosen, Shape, any, choice, choice_by, Parts, count, IsFirstOf}
use Rattle.rasn_de.specs.declared.ber.de.parser.ParseError.TheVariants.{UnexpectedExtraData}
use Rattle.rasn_de.specs.State.{State}
use Rattle.rasn_de.specs.Steps.{PeeksTag, IsErrorOf}
use Rattle.rasn_de.specs.Constructed.{Keeps}
use Rattle.rasn_de.specs.SetPartTypes.{name_at, DecodesNext}
use Rattle.rasn_de.proofs.Leaves.Outcomes.{alloc_failed}
use Rattle.rasn_de.proofs.Constructed.Steps.{rules_same}
use Rattle.rasn_de.proofs.Constructed.Choice.{choice_by_decodes}
use Rattle.rasn_de.proofs.OwnTypes.Parts.{call_keeps}
use Rattle.rasn_de.proofs.OwnTypes.Alternatives.{no_alternative}
use Rattle.rasn_schema.specs.declared.types.Component.{Component}
use Rattle.rasn_schema.specs.declared.value.Value.{Value}
use Rattle.rasn_schema.specs.Trees.{tree_of}
use Rattle.rasn_schema.specs.Shapes.{components_by, presence_in}
use Rattle.rasn_dynamic.specs.Inside.{DecodesTree}
use Rattle.rasn_dynamic.specs.Sets.{AreLawfulMembers, HoldsUnknown}
use Rattle.rasn_dynamic.specs.Calls.{names_of, HoldsSlots, IsComponentFor, IsPut, DecodesPresent, DecodesMember}
use Rattle.rasn_dynamic.proofs.Making.{one_made}
use Rattle.rasn_dynamic.proofs.Parts.{shorter}
use Rattle.rasn_dynamic.proofs.Members.{member_got, member_refused, unknown_got, unknown_refused}
use Rattle.rasn_dynamic.proofs.Pieces.{slots_placed, slots_filled}
use Rattle.rasn_dynamic.proofs.Unknown.{value_shorter}

abbrev itself : Tree → Tree
itself t = t

name_here : (ps : List Component) (k : ℕ) (p : Component) → Some p ≡ slice_get ps k → string_bytes p.name ≡ name_at (names_of ps) k
name_here [] k p e = absurd cc
name_here (q ∷ ps) zero p e = let same : p ≡ q = cc in ap (λ (x : Component). string_bytes x.name) same
name_here (q ∷ ps) (suc k) p e = name_here ps k p e

-- What is read of a component is one more, whatever the trees of those before it are.
module _ (keep extensible : Bool) (ps : Parts) (names : List (List ℕ)) (before : List (Option Value)) (kept : List Value) (old new : State) where
  abbrev Member : Result (Option (Bor (List ℕ))) DecodeError → List (Option Value) → List Value → Type 0
  Member r after more = DecodesMember keep extensible ps names before kept old r new after more

  member_stops : (e : DecodeError) → DecodesTree (choice_by extensible ps) old (Err e) new → Member (Err e) before kept
  member_stops e d = λ slots us h g. (slots, us, h, g, inl d)

  -- The next value is of no component.
  pub member_unpeeked : (e : DecodeError) → PeeksTag old (Err e) → new ≡ old → Member (Err e) before kept
  member_unpeeked e p q = member_stops e (choice_by_decodes extensible (choice_by extensible ps) ps refl itself old (Err e) new (inl (p, q)))

  module _ (tag : Tag) (n : NextTag (form old.rule) old.rest tag) (others : IsFirstOf ps tag → ⊥) where
    pub member_none : extensible ≡ false → (e : DecodeError) → new ≡ old → Member (Err e) before kept
    member_none x e q = member_stops e (subst (λ b. DecodesTree (choice_by b ps) old (Err e) new) (sym x) (subst (DecodesTree (choice ps) old (Err e)) (sym q) (no_alternative ps tag n others e.kind)))

    -- It is an unknown one.
    module _ (x : extensible ≡ true) where
      pub unknown_unread : (e : DecodeError) → DecodesTree (any None) old (Err e) new → Member (Err e) before kept
      unknown_unread e d = member_stops e (subst (λ b. DecodesTree (choice_by b ps) old (Err e) new) (sym x) (unknown_refused ps old new tag n others e.kind d))

      pub unknown_kept : (v : Value) → DecodesTree (any None) old (Ok (tree_of v)) new → (more : List Value) → (keep ≡ true → more ≡ kept ++ v ∷ []) → Member (Ok None) before more
      unknown_kept v d more e = λ slots us h g. (
        slots,
        us ++ tree_of v ∷ [],
        h,
        one_made keep kept more us v (tree_of v) g (λ k. refl) e,
        inr (
          tree_of v,
          refl,
          refl,
          (
            subst (λ b. DecodesTree (choice_by b ps) old (Ok (chosen (count ps) (tree_of v))) new) (sym x) (unknown_got ps old new tag n others (tree_of v) d),
            λ l. let s = value_shorter old new (tree_of v) d in omega (arith, l, s),
          ),
        ),
      )

  -- There is no room for it.
  pub unknown_left : (e : DecodeError) → IsOutOfMemory e.kind → Keeps old new → (more : List Value) → Member (Err e) before more
  unknown_left e m q more = λ slots us h g. (slots, map tree_of more, h, (λ k. refl), inl (alloc_failed (λ rule. Reads rule (choice_by extensible ps)) itself old new e m q.stays q.end))

-- It is of a component.
module _ (f : ℕ → Shape) (ps : List Component) (k : ℕ) (p : Component) (tag : Tag) (h : AreLawfulMembers (components_by f ps)) (b : IsComponentFor f ps tag k p) (old new : State) (n : NextTag (form old.rule) old.rest tag)
    (keep extensible : Bool) (before : List (Option Value)) (kept : List Value) where
  abbrev Named : Result (Option (Bor (List ℕ))) DecodeError → List (Option Value) → Type 0
  Named r after = DecodesMember keep extensible (components_by f ps) (names_of ps) before kept old r new after kept

  pub member_unread : (e : DecodeError) → DecodesPresent (presence_in f p) (f p.type_id.0) old (Err e) new → Named (Err e) before
  member_unread e d = member_stops keep extensible (components_by f ps) (names_of ps) before kept old new e (member_refused f ps k p tag h b old new n extensible e d)

  module _ (t : Tree) (d : DecodesPresent (presence_in f p) (f p.type_id.0) old (Ok t) new) where
    got : DecodesTree (choice_by extensible (components_by f ps)) old (Ok (chosen k t)) new
    got = member_got f ps k p tag h b old new n extensible t d

    pub member_idle : (left : ℕ) → left ≡ length old.rest → length new.rest ≡ left → (e : DecodeError) → IsErrorOf (UnexpectedExtraData left) new e → Named (Err e) before
    member_idle left g l e x = λ slots us s u. (
      slots,
      us,
      s,
      u,
      inr (chosen k t, got, (l ∙ g, rules_same old new (UnexpectedExtraData (length old.rest)) e (call_keeps got) (subst (λ m. IsErrorOf (UnexpectedExtraData m) new e) g x))),
    )

    pub member_put : (v : Value) → (keep ≡ true → tree_of v ≡ t) → k < length before → (left : ℕ) → left ≡ length old.rest → (length new.rest ≡ left → ⊥) → (r : Option (Bor (List ℕ))) (after : List (Option Value)) → IsPut k v (string_bytes p.name) before r after
        → Named (Ok r) after
    member_put v q l left g m None after (e, a) = λ slots us s u.
        let o = slots_placed keep before slots k v t q s l e in
        (o.0, us, subst (λ z. HoldsSlots keep z o.0) (sym a) o.1, u, inl (k, t, o.2, refl, (got, λ w. m (w ∙ sym g))))
    member_put v q l left g m (Some repeated) after (e, a, w) = λ slots us s u.
        (slots, us, subst (λ z. HoldsSlots keep z slots) (sym a) s, u, (k, t, slots_filled keep before slots k s l e, refl, refl, w ∙ name_here ps k p b.0, (got, λ x. m (x ∙ sym g))))

-- Some of the octets are read.
pub member_shorter : (keep extensible : Bool) (ps : Parts) (names : List (List ℕ)) (before after : List (Option Value)) (kept more : List Value) (slots : List (Option Tree)) (us : List Tree) (old new : State) (r : Option (Bor (List ℕ)))
    → HoldsSlots keep before slots → HoldsUnknown keep kept us → DecodesMember keep extensible ps names before kept old (Ok r) new after more → length new.rest < length old.rest
member_shorter keep extensible ps names before after kept more slots us old new r h g d = let w = d slots us h g in next_shorter r w.0 w.1 w.4
  where
    next_shorter : (r : Option (Bor (List ℕ))) (others : List (Option Tree)) (vs : List Tree) → DecodesNext extensible ps names slots us old (Ok r) new others vs → length new.rest < length old.rest
    next_shorter None others vs (inl (k, u, c, e, (x, l))) = shorter old.rest new.rest x.end l
    next_shorter None others vs (inr (u, c, e, (x, l))) = shorter old.rest new.rest x.end l
    next_shorter (Some repeated) others vs (k, u, c, e, q, m, (x, l)) = shorter old.rest new.rest x.end l
