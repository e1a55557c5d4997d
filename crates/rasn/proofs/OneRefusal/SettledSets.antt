-- A SET is decoded or refused if each of its parts is.
use Rattle.std.proofs.Common.{◌≡◌, ◌+◌, ◌<◌, ◌≤◌, ◌^◌, ℕ, zero, suc, inl, inr, Bool, true, false, List, [], ◌∷◌, ◌++◌, length, map, Option, Some, None, Result, Ok, Err, refl, sym, ap, subst, arith, length-append}
use Rattle.std.proofs.lemmas.List.{length-map}
use Rattle.std.specs.Prelude.{IfOk}
use Rattle.std.specs.Option.{option_or}
use Rattle.std.specs.Borrow.{Bor}
use Rattle.std.specs.declared.alloc.AllocError.{AllocError}
use Rattle.rasn_types.specs.declared.types.tag.Tag.{Tag}
use Rattle.rasn_types.specs.declared.types.unknown.Unknown.{Unknown}
use Rattle.rasn_types.specs.declared.error.decode.DecodeError.{DecodeError}
use Rattle.rasn_types.specs.declared.error.decode.DecodeErrorKind.TheVariants.{MissingField, DuplicateField}
use Rattle.rasn_types.specs.declared.error.decode.DerDecodeErrorKind.TheVariants.{SetComponentsOutOfOrder}
use Rattle.rasn_types.specs.Errors.{IsOutOfMemory}
use Rattle.rasn_types.specs.Tags.{form, eoc, IsStrict}
use Rattle.rasn_types.specs.Framing.{AreOctets, NextTag, Ended}
use Rattle.rasn_types.specs.Shapes.{Tree, numbers, done, joined, Shape, choice_by, own, looked_for, one_tag, Parts, part, presences, Presence, required, optional, default, IsFirstOf}
use Rattle.rasn_types.specs.Shapes.Parts.{none}
use Rattle.rasn_types.specs.Trees.{list_tree, option_tree}
use Rattle.rasn_types.proofs.Headers.Frames.{not_ended}
use Rattle.rasn_de.specs.declared.ber.de.parser.ParseError.{ParseError}
use Rattle.rasn_de.specs.declared.ber.de.parser.ParseError.TheVariants as parse
use Rattle.rasn_de.specs.Causes.{error_kind}
use Rattle.rasn_de.specs.Headers.{Identified, identifier_at}
use Rattle.rasn_de.specs.State.{State, Call, at, IsEnd}
use Rattle.rasn_de.specs.Steps.{PeeksTag}
use Rattle.rasn_de.specs.Outcomes.{Got, refusal}
use Rattle.rasn_de.specs.Decodes.{DecodesExactly}
use Rattle.rasn_de.specs.Constructed.{sequence_header}
use Rattle.rasn_de.specs.NamedErrors.{IsNamedError, IsDuplicateField}
use Rattle.rasn_de.specs.Optional.{NextIs, DecodesOrDefault}
use Rattle.rasn_de.specs.Set.{IsBelowLast, PeeksInOrder}
use Rattle.rasn_de.specs.AlternativeTypes.{FailsAtValue}
use Rattle.rasn_de.specs.SetPartTypes.{held_tree, text, name_at, DecodesPlaced, IsGathered, LacksSlot, DecodesNamedContents, DecodesNamedParts, set_by}
use Rattle.rasn_de.specs.ValueErrors.{Errors, errors_of, DecodesOr, IsErrorOfAlternative}
use Rattle.rasn_de.proofs.Headers.Memory.{NoMemory, identifier_none}
use Rattle.rasn_de.proofs.Headers.NextTag.{next_parsed, kind_memory}
use Rattle.rasn_de.proofs.Constructed.Choice.{choice_by_decodes}
use Rattle.rasn_de.proofs.Constructed.SortedSetContents.{SortedSetReads}
use Rattle.rasn_de.proofs.Constructed.ValueErrors.{default_or, default_failed}
use Rattle.rasn_de.proofs.OwnTypes.Alternatives.{OneAlternative}
use Rattle.rasn_de.proofs.OwnTypes.Parts.{default_part, default_fails, own_default_fails}
use Rattle.rasn_de.proofs.OwnTypes.SetPartTypes.{placed_here, placed_other, unknown_refused, unknown_placed, named_refused, next_read, named_takes_nothing, gathered_came, gathered_missing, gathered_optional, ReadTo, none_read, next_passes, all_made, made_twice, made_named, untold_named, named_fails}
use Rattle.rasn.specs.OneRefusal.{Refuses, IsName, Settles, SettlesAt, PutsByTag, AreSlotsSettled}
use Rattle.rasn.proofs.OneRefusal.Calls.{octets_end, exactly_ends, or_settles}
use Rattle.rasn.proofs.OneRefusal.OpenRead.{open_or}
use Rattle.rasn.proofs.OneRefusal.Settled.{ends_shorter, inside_settles, present_settles}
use Rattle.rasn.proofs.OneRefusal.SettledLists.{vec_of, strict_or}
use Rattle.rasn.proofs.OneRefusal.SettledAlternatives.{named, no_part, first_unread, others_unread}
use Rattle.rasn.proofs.OneRefusal.Sets.{contents_exact, set_exact}

-- ---- slots

pub no_slots : {P S : Type 0} → P → S → (name : List ℕ) → IsName name → AreSlotsSettled {P = P} {S = S} false none (λ v. done) (λ c. []) (λ c. []) name (λ _ _ _ _. Unit {0})
no_slots v slots name is = record {
  empty = (slots, refl, refl);
  put = λ names here room tag old o b n passed failed. (let f = no_part name is tag old in failed f.0 old f.1);
  made = λ here passed lacking. passed v ([], (refl, refl), refl);
}

pub unknown_slots : (name : List ℕ) → AreSlotsSettled true none (λ (u : Unknown). joined (list_tree numbers u.values.items) done) (λ u. []) (λ (u : Unknown). map numbers u.values.items) name (λ _ _ _ _. Unit {0})
unknown_slots name = record {
  empty = (record { values = vec_of [] (omega arith) }, refl, refl);
  put = put;
  made = λ u passed lacking. passed u ([], refl, refl);
}
  where
    put : (names : List (List ℕ)) (u : Unknown) → length (map numbers u.values.items) + 1 < 2 ^ 63 → (tag : Tag)
        → SettlesAt tag (PutsByTag true none (λ u. []) (λ (u : Unknown). map numbers u.values.items) names name (λ _ _ _ _. Unit {0}) u tag)
    put names u room tag old o b n passed failed =
        let m = length-map u.values.items numbers in
        open_or eoc old o
        (λ a rest d.
        let l = length-append u.values.items (a ∷ []) in
        passed (None, record { values = vec_of (u.values.items ++ a ∷ []) (omega (arith, room, m, l)) }) (at old rest) (unknown_placed tag old (at old rest) n a d names u.values.items (u.values.items ++ a ∷ []) refl))
        (λ e k d. failed e old ((unknown_refused tag old old n e d, (d, tt)), k))

-- The names of the parts after the first.
other_names : List (List ℕ) → List (List ℕ)
other_names [] = []
other_names (n ∷ names) = names

later_name : (names : List (List ℕ)) (k : ℕ) → name_at (other_names names) k ≡ name_at names (suc k)
unfolding other_names
later_name [] k = refl
later_name (n ∷ names) k = refl

module _ {A R S D : Type 0} (extensible : Bool) (s : Shape) (ps : Parts) (name : List ℕ) (t : Tag) (others : Tag → Errors) (is : own s ≡ Some t) (apart : IsFirstOf ps t → ⊥) (tree : A → Tree) (rest_tree : R → Tree) (held : S → List (Option Tree)) (unknown : S → List Tree)
    (rest : AreSlotsSettled extensible ps rest_tree held unknown name others) (whole : D → Tree) where
  abbrev all_held : Option A × S → List (Option Tree)
  all_held c = held_tree tree c.0 ∷ held c.1

  abbrev all_unknown : Option A × S → List Tree
  all_unknown c = unknown c.1

  -- A value is read in this way if the tag is the first part's.
  module _ (p : Presence) (first : Errors) (read : Call A) (one : SettlesAt t read) (got : (old : State) (v : A) (new : State) → AreOctets old.rest → read old (Ok v) new → DecodesExactly (OneAlternative p s) old (Got (tree v) new.rest) new)
      (fails : (old : State) (e : DecodeError) (new : State) → AreOctets old.rest → read old (Err e) new → DecodesExactly (OneAlternative p s) old (refusal e.kind) new × FailsAtValue p s old e new × first old e new) where
    first_put : (names : List (List ℕ)) (slots : Option A × S) → length (unknown slots.1) + 1 < 2 ^ 63 → (tag : Tag) → SettlesAt tag (PutsByTag extensible (part p s ps) all_held all_unknown names name (IsErrorOfAlternative t first others) slots tag)
    first_put names slots room tag old o b n passed failed =
        rest.put (other_names names) slots.1 room tag old o b n
        (λ x new a. passed (x.0, (slots.0, x.1)) new
        (placed_other extensible p s ps names (other_names names) (later_name names) tag t not is old new n (held_tree tree slots.0) (held slots.1) (held x.1) (unknown slots.1) (unknown x.1) (Ok x.0) a))
        (λ e new a. failed e new (others_unread extensible p s ps name t first others is tag old new n e not a.0, a.1))
      where
        placed : tag ≡ t → (v : A) (new : State) → read old (Ok v) new → (h : Option A) → slots.0 ≡ h → ⊥
        placed h v new a None q = passed (None, (Some v, slots.1)) new (placed_here extensible p s ps tag t h is apart old new n names tree slots.0 (Some v) v (held slots.1) (unknown slots.1) None (got old v new o a) (q, refl))
        placed h v new a (Some w) q =
            let name : Bor (List ℕ) = record { ref_ptr = (0, 0); now = name_at names zero } in
            passed (Some name, slots) new (placed_here extensible p s ps tag t h is apart old new n names tree slots.0 slots.0 v (held slots.1) (unknown slots.1) (Some name) (got old v new o a) ((λ e. cc), refl, refl))

        not : tag ≡ t → ⊥
        not h =
            one old o b (subst (NextTag (form old.rule) old.rest) h n) (λ v new a. placed h v new a slots.0 refl)
            (λ e new a. let f = fails old e new o a.0 in failed e new (first_unread extensible p s ps name t first others is tag old new n e h apart f.0 f.1 f.2, a.1))

    slots_settle : ((slots : Option A × S) → ((v : D) → IsGathered extensible (part p s ps) (all_held slots) (all_unknown slots) (whole v) → ⊥) → ((k : ℕ) → LacksSlot (presences (part p s ps)) (all_held slots) k → ⊥) → ⊥)
        → AreSlotsSettled extensible (part p s ps) whole all_held all_unknown name (IsErrorOfAlternative t first others)
    slots_settle made = record {
      empty = ((None, rest.empty.0), (held rest.empty.0, refl, rest.empty.1), rest.empty.2);
      put = first_put;
      made = made;
    }

  module _ (errors : Errors) (all : Settles (DecodesOr s tree errors)) where
    -- A part that must be present, and one that may be left out.
    pub required_slots : (make : A → R → D) → ((v : A) (r : R) → whole (make v r) ≡ joined (tree v) (rest_tree r))
        → AreSlotsSettled extensible (part required s ps) whole (λ (c : Option A × S). held_tree tree c.0 ∷ held c.1) (λ (c : Option A × S). unknown c.1) name (IsErrorOfAlternative t errors others)
    required_slots make made_is = slots_settle required errors (DecodesOr s tree errors) (λ old o b n passed failed. all old o b passed failed) (λ old v new o a. a.0) (λ old e new o a. (a.0, a.0, a.1)) made
      where
        made : (slots : Option A × S) → ((v : D) → IsGathered extensible (part required s ps) (all_held slots) (all_unknown slots) (whole v) → ⊥) → ((k : ℕ) → LacksSlot (presences (part required s ps)) (all_held slots) k → ⊥) → ⊥
        made (None, slots) passed lacking = lacking 0 (refl, refl)
        made (Some v, slots) passed lacking =
            rest.made slots
            (λ r g. passed (make v r) (subst (λ z. IsGathered extensible (part required s ps) (Some (tree v) ∷ held slots) (unknown slots) z) (sym (made_is v r)) (gathered_came extensible required s ps (held slots) (unknown slots) (tree v) (rest_tree r) g)))
            (λ k l. lacking (suc k) ((λ e f. cc), l))

    pub optional_slots : (make : Option A → R → D) → ((v : Option A) (r : R) → whole (make v r) ≡ joined (option_tree tree v) (rest_tree r))
        → AreSlotsSettled extensible (part optional s ps) whole (λ (c : Option A × S). held_tree tree c.0 ∷ held c.1) (λ (c : Option A × S). unknown c.1) name (IsErrorOfAlternative t errors others)
    optional_slots make made_is = slots_settle optional errors (DecodesOr s tree errors) (λ old o b n passed failed. all old o b passed failed) (λ old v new o a. a.0) (λ old e new o a. (a.0, a.0, a.1)) made
      where
        made : (slots : Option A × S) → ((v : D) → IsGathered extensible (part optional s ps) (all_held slots) (all_unknown slots) (whole v) → ⊥) → ((k : ℕ) → LacksSlot (presences (part optional s ps)) (all_held slots) k → ⊥) → ⊥
        made (h, slots) passed lacking =
            rest.made slots
            (λ r g. passed (make h r) (subst (λ z. IsGathered extensible (part optional s ps) (held_tree tree h ∷ held slots) (unknown slots) z) (sym (made_is h r)) (gathered_optional extensible s ps tree h (held slots) (unknown slots) (rest_tree r) g)))
            (λ k l. lacking (suc k) ((λ e f. cc), l))

    -- A part that has a default.
    module _ (d : Tree) (v : A) (there : tree v ≡ d) (looked : own s ≡ looked_for t) where
      abbrev is_made : Result A AllocError → Type 0
      is_made m = IfOk m (λ x. tree x ≡ d)

      abbrev OrDefault : Call A
      OrDefault = DecodesOrDefault (DecodesOr s tree errors) tree is_made t

      next_is : (old : State) → NextTag (form old.rule) old.rest t → NextIs (one_tag (looked_for t)) old (Ok true)
      next_is old n = subst (λ g. NextIs (one_tag g) old (Ok true)) looked (subst (λ g. NextIs (one_tag g) old (Ok true)) (sym is) (not_ended old.closing old.rest t n, n))

      pub default_slots : (make : A → R → D) → ((v : A) (r : R) → whole (make v r) ≡ joined (tree v) (rest_tree r))
          → AreSlotsSettled extensible (part (default d) s ps) whole (λ (c : Option A × S). held_tree tree c.0 ∷ held c.1) (λ (c : Option A × S). unknown c.1) name
          (IsErrorOfAlternative t (errors_of (DecodesOrDefault (DecodesOr s tree errors) tree (λ m. IfOk m (λ x. tree x ≡ d)) t)) others)
      default_slots make made_is = slots_settle (default d) (errors_of OrDefault) OrDefault
          (λ old o b n passed failed. present_settles (DecodesOr s tree errors) tree is_made all v there (one_tag (looked_for t)) old o b (next_is old n) passed failed)
          (λ old x new o a. default_part t d s looked (default_or s tree errors is_made t old (Ok x) new a d (λ y q. q)))
          (λ old e new o a. (
            default_part t d s looked (default_or s tree errors is_made t old (Err e) new a d (λ y q. q)),
            own_default_fails s d looked (default_fails s tree is_made d (one_tag (looked_for t)) old new e (λ y q. q) (default_failed s tree errors is_made (one_tag (looked_for t)) old e new a)),
            a,
          )) made
        where
          made : (slots : Option A × S) → ((v : D) → IsGathered extensible (part (default d) s ps) (all_held slots) (all_unknown slots) (whole v) → ⊥) → ((k : ℕ) → LacksSlot (presences (part (default d) s ps)) (all_held slots) k → ⊥) → ⊥
          made (None, slots) passed lacking =
              rest.made slots
              (λ r g. passed (make v r) (subst (λ z. IsGathered extensible (part (default d) s ps) (None ∷ held slots) (unknown slots) z) (sym (made_is v r)) (gathered_missing extensible (default d) s ps (held slots) (unknown slots) (tree v) (rest_tree r) there g)))
              (λ k l. lacking (suc k) ((λ e f. cc), l))
          made (Some w, slots) passed lacking =
              rest.made slots
              (λ r g. passed (make w r) (subst (λ z. IsGathered extensible (part (default d) s ps) (Some (tree w) ∷ held slots) (unknown slots) z) (sym (made_is w r)) (gathered_came extensible (default d) s ps (held slots) (unknown slots) (tree w) (rest_tree r) g)))
              (λ k l. lacking (suc k) ((λ e f. cc), l))

-- ---- components up to the end

-- A component leaves an end of the input, and there is at most one more unknown one.
placed_leaves : (extensible : Bool) (ps : Parts) (names : List (List ℕ)) (before held : List (Option Tree)) (unknown after : List Tree) (old new : State) (r : Option (Bor (List ℕ))) → DecodesPlaced extensible ps names before unknown old (Ok r) new held after
    → IsEnd old.rest new.rest × (length after ≤ length unknown + 1)
placed_leaves extensible ps names before held unknown after old new None (inl (k, u, c, q, a)) = ((a.from 0).end, let e = ap length q in omega (arith, e))
placed_leaves extensible ps names before held unknown after old new None (inr (u, f, q, a)) = ((a.from 0).end, let e = ap length q in let l = length-append unknown (u ∷ []) in omega (arith, e, l))
placed_leaves extensible ps names before held unknown after old new (Some x) (k, u, c, f, q, m, a) = ((a.from 0).end, let e = ap length q in omega (arith, e))

not_empty : {X : Type 0} (l : List X) → (l ≡ [] → ⊥) → 0 < length l
not_empty [] n = absurd (n refl)
not_empty (x ∷ l) n = omega arith

module _ {P S : Type 0} (extensible : Bool) (ps : Parts) (tree : P → Tree) (held : S → List (Option Tree)) (unknown : S → List Tree) (name : List ℕ) (errors : Tag → Errors) (slots : AreSlotsSettled extensible ps tree held unknown name errors)
    (names : List (List ℕ)) (are_names : (k : ℕ) → IsName (name_at names k)) where
  abbrev Contents : Call P
  Contents = DecodesNamedContents extensible ps tree name names errors

  module _ (old : State) (b : length old.rest < 2 ^ 63) (passed : (v : P) (new : State) → Contents old (Ok v) new → ⊥) (failed : (e : DecodeError) (new : State) → Refuses (errors_of Contents) old e new → ⊥) where
    abbrev Read : State → Option Tag → Option (Bor (List ℕ)) → S → Type 0
    Read here last twice c = ReadTo extensible ps names old here last twice (held c) (unknown c)

    abbrev error : State → ParseError → DecodeError
    error here f = record { kind = error_kind f; codec = here.rule }

    -- All components are read.
    ended : (here : State) (last : Option Tag) (twice : Option (Bor (List ℕ))) (c : S) → Read here last twice c → Ended here.closing here.rest → ⊥
    ended here last None c k end =
        slots.made c (λ v g. passed v here (made_named extensible ps tree name names errors old here (Ok v) (all_made extensible ps names tree old here last (held c) (unknown c) end k (Ok v) g tt)))
        (λ i l.
        let e : DecodeError = record { kind = MissingField (named (name_at names i) (are_names i)); codec = here.rule } in
        let m : IsOutOfMemory e.kind → ⊥ = λ w. cc in
        failed e here (made_named extensible ps tree name names errors old here (Err e) (all_made extensible ps names tree old here last (held c) (unknown c) end k (Err e) (inr (i, l, (refl, inl refl))) (λ w. absurd (m w))), m))
    ended here last (Some x) c k end =
        let i = k.4.0 in
        let e : DecodeError = record { kind = DuplicateField (named (name_at names i) (are_names i)); codec = here.rule } in
        let d : IsNamedError (IsDuplicateField (text x)) here.rule e = (refl, inl (sym k.4.2)) in
        failed e here (made_named extensible ps tree name names errors old here (Err e) (made_twice extensible ps names tree old here last (held c) (unknown c) end x k e d), λ w. cc)

    -- There is one more component.
    module _ (here : State) (last : Option Tag) (twice : Option (Bor (List ℕ))) (c : S) (o : AreOctets here.rest) (l : length (unknown c) + length here.rest ≤ length old.rest) (k : Read here last twice c) (more : Ended here.closing here.rest → ⊥)
        (on : (new : State) (found : Option Tag) (again : Option (Bor (List ℕ))) (after : S) → length new.rest < length here.rest → AreOctets new.rest → length (unknown after) + length new.rest ≤ length old.rest → Read new found again after → ⊥) where
      module _ (found : Option Tag) (look : PeeksInOrder last here (Ok found)) where
        -- It is put into a slot, unless it consumes nothing.
        took : (r : Option (Bor (List ℕ))) (after : S) (new : State) → DecodesPlaced extensible ps names (held c) (unknown c) here (Ok r) new (held after) (unknown after) → ⊥
        took r after new a =
            let left = placed_leaves extensible ps names (held c) (held after) (unknown c) (unknown after) here new r a in
            let shorter = ends_shorter here.rest new.rest left.0 in
            let grown = left.1 in
            let e = error new (parse.UnexpectedExtraData (length here.rest)) in
            let stuck = λ (q : length new.rest ≡ length here.rest). failed e new
            (named_fails extensible ps tree name names errors old here last twice (held c) (unknown c) k more found look e new (named_takes_nothing extensible ps names (held c) (held after) (unknown c) (unknown after) here new name errors r a q (length here.rest) refl e refl), λ w. cc) in
            on new found (option_or twice r) after (omega (arith, shorter, stuck)) (octets_end o left.0) (omega (arith, shorter, stuck, grown, l))
            (next_passes extensible ps names old here last twice (held c) (unknown c) k more found look r new (held after) (unknown after) (next_read extensible ps names (held c) (held after) (unknown c) (unknown after) here new r a stuck))

        component : (r : Result Identified ParseError) → identifier_at (form here.rule) here.rest ≡ r → ⊥
        component (Err f) q =
            let e = error here f in
            let p : PeeksTag here (Err e) = (f, rw q refl, refl) in
            failed e here (named_fails extensible ps tree name names errors old here last twice (held c) (unknown c) k more found look e here (inl (choice_by_decodes extensible (choice_by extensible ps) ps refl (λ (t : Tree). t) here (Err e) here (inl (p, refl)), (inl (p, refl), inl (p, refl)))), kind_memory f (subst NoMemory q (identifier_none _ here.rest)))
        component (Ok i) q =
            let n = next_parsed (form here.rule) here.rest i o q in
            let some = not_empty here.rest (λ z. more (inl z)) in
            slots.put names c (omega (arith, b, l, some)) i.tag here o (omega (arith, b, l)) n (λ x new a. took x.0 x.1 new a)
            (λ e new a. failed e new
            (named_fails extensible ps tree name names errors old here last twice (held c) (unknown c) k more found look e new (named_refused extensible ps name errors i.tag here new e n a.0.0 (inl a.0.1.0) a.0.1.1), a.1))

        next : ⊥
        next = component (identifier_at (form here.rule) here.rest) refl

      -- Under the strict rule, its tag isn't below the last one.
      in_order : IsStrict here.rule → (r : Result Identified ParseError) → identifier_at (form here.rule) here.rest ≡ r → ⊥
      in_order strict (Err f) q =
          let e = error here f in
          failed e here (untold_named extensible ps tree name names errors old here last twice (held c) (unknown c) k more e (strict, inl (f, rw q refl, refl)), kind_memory f (subst NoMemory q (identifier_none _ here.rest)))
      in_order strict (Ok i) q =
          let n = next_parsed (form here.rule) here.rest i o q in
          let e = error here (parse.Der SetComponentsOutOfOrder) in
          next (Some i.tag) (n, λ (below : IsBelowLast i.tag last). failed e here (untold_named extensible ps tree name names errors old here last twice (held c) (unknown c) k more e (strict, inr (i.tag, n, below, refl)), λ w. cc))

      goes_on : ⊥
      goes_on = strict_or here.rule ⊥ (λ lax. next None lax) (λ strict never. in_order strict (identifier_at (form here.rule) here.rest) refl)

    components : (n : ℕ) (here : State) (last : Option Tag) (twice : Option (Bor (List ℕ))) (c : S) → length here.rest < n → AreOctets here.rest → length (unknown c) + length here.rest ≤ length old.rest → Read here last twice c → ⊥
    components zero here last twice c h o l k = omega (arith, h)
    components (suc n) here last twice c h o l k =
        goes_on here last twice c o l k (λ end. ended here last twice c k end)
        (λ new found again after s p m r. components n new found again after (omega (arith, s, h)) p m r)

  contents_settle : Settles Contents
  contents_settle old o b passed failed =
      let s = slots.empty in
      let z = ap length s.2 in
      components old b passed failed (suc (length old.rest)) old None None s.0 (omega arith) o (omega (arith, z)) (none_read extensible ps names old (held s.0) (unknown s.0) s.1 s.2)

  pub set_settles : (tag : Tag) → Settles (DecodesOr (set_by extensible tag ps) tree (errors_of (DecodesNamedParts extensible ps tree name names errors tag)))
  set_settles tag =
      or_settles (DecodesNamedParts extensible ps tree name names errors tag) (set_by extensible tag ps) tree (set_exact extensible ps name errors tree names tag)
      (inside_settles Contents (exactly_ends Contents (SortedSetReads extensible ps) tree (contents_exact extensible ps name errors tree names)) contents_settle (sequence_header tag))
