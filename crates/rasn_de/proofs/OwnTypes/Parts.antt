-- How the reads of parts, one after the other, are a read of all. A closure that reads the parts of a SEQUENCE writes one
-- clause, `ensures { DecodesParts PARTS TREE decoder.old result decoder.new }`, and its proof has a line for each `?` and one for `Ok`:
--
--     pub returns-in_err-first : goal.returns-in_err-first
--     returns-in_err-first c = refused _ _ _ c.from_residual.ensures.1 (part_refused _ _ _ _ c.in_err-first.ensures)
--
--     pub returns-in_err-second : goal.returns-in_err-second
--     returns-in_err-second c =
--         refused _ _ _ c.from_residual-in_err-second.ensures.1 (after_part_refused _ _ _ _ c.in_ok-first.ensures (part_refused _ _ _ _ c.in_err-second.ensures))
--
--     pub returns : goal.returns
--     returns c = part_got _ _ _ c.in_ok-first.ensures (part_got _ _ _ c.in_ok-second.ensures no_parts)
use Rattle.std.proofs.Common.{◌≡◌, ℕ, Bool, List, [], ◌∷◌, Option, Result, Ok, Err, refl, sym, ap, ◌∙◌, subst}
use Rattle.std.specs.Prelude.{IsErrAnd, IfOk, IfErr}
use Rattle.std.specs.declared.alloc.AllocError.{AllocError}
use Rattle.rasn_types.specs.declared.types.codec.Codec.{Codec}
use Rattle.rasn_types.specs.declared.types.tag.Tag.{Tag}
use Rattle.rasn_types.specs.declared.error.decode.DecodeError.{DecodeError}
use Rattle.rasn_types.specs.declared.error.decode.DecodeErrorKind.{DecodeErrorKind}
use Rattle.rasn_types.specs.Tags.{form}
use Rattle.rasn_types.specs.Shapes.{Shape, Tree, items, done, joined, absent, option, Parts, part, Presence, optional, default, prefix, own, Sought, one_tag, looked_for}
use Rattle.rasn_types.specs.Shapes.Parts.{none}
use Rattle.rasn_types.specs.Readings.{Reading, ReadsPart, ReadsOptional, ReadsInOrder}
use Rattle.rasn_types.specs.Grammar.{Reads, parts_of}
use Rattle.rasn_de.specs.State.{State, at}
use Rattle.rasn_de.specs.Outcomes.{Exact, Outcome, Got, refusal, outcome}
use Rattle.rasn_de.specs.Decodes.{DecodesExactly, Decodes, ReadsParts, DecodesParts}
use Rattle.rasn_de.specs.Optional.{ReadsDefault, DecodesIfSought, DecodesSoughtOrDefault, no_look, no_default, no_read, not_compared, present}
use Rattle.rasn_de.specs.PartTypes.{DecodesTree, FailsAtPart, DecodesInParts}
use Rattle.rasn_de.specs.ValueErrors.{Errors}
pub use Rattle.rasn_de.specs.PartTypes.{OnePart}
use Rattle.rasn_de.proofs.Leaves.Returns.{residual}
use Rattle.rasn_de.proofs.Leaves.Outcomes.{Exact-refusal}
use Rattle.rasn_de.proofs.Leaves.Errors.{rule_is}
use Rattle.rasn_de.proofs.Headers.Ends.{IsEnd-refl, IsEnd-trans}
use Rattle.rasn_de.specs.Constructed.{Keeps}
use Rattle.rasn_de.proofs.Constructed.Steps.{kept_after}

-- no part
pub no_parts : {old : State} → DecodesExactly (ReadsParts none) old (Got done old.rest) old
unfolding ReadsParts parts_of
no_parts {old} = record { stays = refl; end = IsEnd-refl old.rest; exact = (([], refl, (refl, refl)), λ t r w. (w.1 ∙ ap items w.2.0, w.2.1)) }

-- The first part is refused, of any presence.
pub one_refused : (p : Presence) (s : Shape) (ps : Parts) (old new : State) (k : DecodeErrorKind) → DecodesExactly (OnePart p s) old (refusal k) new → DecodesExactly (ReadsParts (part p s ps)) old (refusal k) new
unfolding ReadsParts parts_of
one_refused p s ps old new k a = record {
  stays = a.stays;
  end = a.end;
  exact = Exact-refusal k (OnePart p s old.rule old.depth old.closing) (ReadsParts (part p s ps) old.rule old.depth old.closing) old.rest old.rest (λ n t r w. let i = w.2 in n i.0 i.2 i.4) a.exact;
}

depth_is : (old mid : State) → mid ≡ at old mid.rest → mid.depth ≡ old.depth
depth_is old mid e = ap (λ (x : State). x.depth) e

closing_is : (old mid : State) → mid ≡ at old mid.rest → mid.closing ≡ old.closing
closing_is old mid e = ap (λ (x : State). x.closing) e

stays_after : (old mid new : State) → mid ≡ at old mid.rest → new ≡ at mid new.rest → new ≡ at old new.rest
stays_after old mid new a e = e ∙ ap (λ (x : State). at x new.rest) a

module _ (p : Presence) (s : Shape) (ps : Parts) (old mid new : State) (t : Tree) (a : DecodesExactly (OnePart p s) old (Got t mid.rest) mid) where
  later_exact : (o : Outcome) → Exact (ReadsParts ps mid.rule mid.depth mid.closing) mid.rest o → Exact (ReadsParts ps old.rule old.depth old.closing) mid.rest o
  later_exact o x = subst (λ c. Exact (ReadsParts ps old.rule old.depth c) mid.rest o) (closing_is old mid a.stays)
      (subst (λ d. Exact (ReadsParts ps old.rule d mid.closing) mid.rest o) (depth_is old mid a.stays) (subst (λ r. Exact (ReadsParts ps r mid.depth mid.closing) mid.rest o) (rule_is old mid a.stays) x))

  -- what is related goes on after the first part
  behind_first : (v : Tree) (r : List ℕ) → ReadsParts (part p s ps) old.rule old.depth old.closing old.rest v r → (u : Tree) × (v ≡ joined t u) × ReadsParts ps old.rule old.depth old.closing mid.rest u r
  unfolding ReadsParts parts_of
  behind_first v r (ts, e, (x, xs, middle, f, y, z)) =
      let q = a.exact.1 x middle y in
      (items xs, e ∙ ap items f ∙ ap (λ w. joined w (items xs)) q.0, (xs, refl, subst (λ l. ReadsInOrder old.rule (parts_of old.rule ps old.depth old.closing) old.closing l xs r) q.1 z))

  -- A later part is refused.
  pub others_refused : (k : DecodeErrorKind) → DecodesExactly (ReadsParts ps) mid (refusal k) new → DecodesExactly (ReadsParts (part p s ps)) old (refusal k) new
  others_refused k b = record {
    stays = stays_after old mid new a.stays b.stays;
    end = IsEnd-trans old.rest mid.rest new.rest a.end b.end;
    exact = Exact-refusal k (ReadsParts ps old.rule old.depth old.closing) (ReadsParts (part p s ps) old.rule old.depth old.closing) mid.rest old.rest (λ n v r w. let q = behind_first v r w in n q.0 r q.2) (later_exact (refusal k) b.exact);
  }

  -- All parts are there.
  pub others_got : (u : Tree) → DecodesExactly (ReadsParts ps) mid (Got u new.rest) new → DecodesExactly (ReadsParts (part p s ps)) old (Got (joined t u) new.rest) new
  unfolding ReadsParts parts_of
  others_got u b =
      let x = later_exact (Got u new.rest) b.exact in
      let i = x.0 in
      record {
        stays = stays_after old mid new a.stays b.stays;
        end = IsEnd-trans old.rest mid.rest new.rest a.end b.end;
        exact = (
          (t ∷ i.0, ap (λ z. joined t z) i.1, (t, i.0, mid.rest, refl, a.exact.0, i.2)),
          λ v r w. let q = behind_first v r w in let y = x.1 q.0 r q.2 in (q.1 ∙ ap (λ z. joined t z) y.0, y.1),
        );
      }

-- A part that may be left out is read as the value of such a type is.
pub optional_part : {g : Option Tag} (s : Shape) → own s ≡ g → {old new : State} {o : Outcome} → DecodesExactly (λ rule. Reads rule (option g s)) old o new → DecodesExactly (OnePart optional s) old o new
unfolding Reads
optional_part {g} s e {old} {new} {o} a = record { stays = a.stays; end = a.end; exact = subst (λ h. Exact (ReadsOptional (form old.rule) (one_tag h) absent (Reads old.rule s old.depth old.closing) old.closing) old.rest o) (sym e) a.exact }

-- So is one that has a default.
pub default_part : (tag : Tag) (d : Tree) (s : Shape) → own s ≡ looked_for tag → {old new : State} {o : Outcome} → DecodesExactly (ReadsDefault tag d s) old o new → DecodesExactly (OnePart (default d) s) old o new
default_part tag d s e {old} {new} {o} a = record { stays = a.stays; end = a.end; exact = subst (λ h. Exact (ReadsPart old.rule (default d) (one_tag h) (Reads old.rule s old.depth old.closing) old.closing) old.rest o) (sym e) a.exact }

-- Why a value that has a default isn't read, stated of its tree.
pub default_fails : {D : Type 0} (s : Shape) (tree : D → Tree) (made : Result D AllocError → Type 0) (d : Tree) (tags : Sought) (old new : State) (e : DecodeError) → ((v : D) → made (Ok v) → tree v ≡ d)
    → DecodesSoughtOrDefault (Decodes s tree) tree made tags old (Err e) new → DecodesSoughtOrDefault (DecodesTree s) (λ (t : Tree). t) (λ m. IfOk m (λ t. t ≡ d)) tags old (Err e) new
default_fails s tree made d tags old new e is (no_look a q) = no_look a q
default_fails s tree made d tags old new e is (no_default a (x, m, w) q) = no_default a (x, tt, w) q
default_fails s tree made d tags old new e is (no_read a r) = no_read a r
default_fails s tree made d tags old new e is (not_compared a v r h (x, m, w)) = not_compared a (tree v) r h (x, tt, w)
default_fails s tree made d tags old new e is (present a v r h u m same w) = present a (tree v) r h (tree u) (is u m) same w

-- A part that is looked for by a tag is looked for by its own.
pub optional_fails : (s : Shape) {g : Option Tag} → own s ≡ g → {old new : State} {x : DecodeError} → DecodesIfSought (DecodesTree s) (one_tag g) old (Err x) new
    → DecodesIfSought (DecodesTree s) (one_tag (own s)) old (Err x) new
optional_fails s e {old} {new} {x} k = subst (λ o. DecodesIfSought (DecodesTree s) (one_tag o) old (Err x) new) (sym e) k

pub own_default_fails : (s : Shape) (d : Tree) {g : Option Tag} → own s ≡ g → {old new : State} {x : DecodeError}
    → DecodesSoughtOrDefault (DecodesTree s) (λ (t : Tree). t) (λ m. IfOk m (λ t. t ≡ d)) (one_tag g) old (Err x) new
    → DecodesSoughtOrDefault (DecodesTree s) (λ (t : Tree). t) (λ m. IfOk m (λ t. t ≡ d)) (one_tag (own s)) old (Err x) new
own_default_fails s d e {old} {new} {x} k =
    subst (λ o. DecodesSoughtOrDefault (DecodesTree s) (λ (t : Tree). t) (λ m. IfOk m (λ t. t ≡ d)) (one_tag o) old (Err x) new) (sym e) k

-- The same of a part under a prefix whose tag is known by another name.
pub under_tag : {t tag : Tag} → t ≡ tag → (d : Tree) (s : Shape) {old new : State} {o : Outcome} → DecodesExactly (ReadsDefault t d (prefix t s)) old o new
    → DecodesExactly (ReadsDefault tag d (prefix tag s)) old o new
under_tag e d s {old} {new} {o} a = subst (λ x. DecodesExactly (ReadsDefault x d (prefix x s)) old o new) e a

-- The steps of a user's closure: the next part is refused; one was read, and a later one is refused; one was read, and the others.
pub part_refused : (p : Presence) (s : Shape) (ps : Parts) (k : DecodeErrorKind) {old new : State} → DecodesExactly (OnePart p s) old (refusal k) new → DecodesExactly (ReadsParts (part p s ps)) old (refusal k) new
part_refused p s ps k {old} {new} a = one_refused p s ps old new k a

pub after_part_refused : (p : Presence) (s : Shape) (ps : Parts) (k : DecodeErrorKind) {old mid new : State} {t : Tree} → DecodesExactly (OnePart p s) old (Got t mid.rest) mid → DecodesExactly (ReadsParts ps) mid (refusal k) new
    → DecodesExactly (ReadsParts (part p s ps)) old (refusal k) new
after_part_refused p s ps k {old} {mid} {new} {t} a b = others_refused p s ps old mid new t a k b

pub part_got : (p : Presence) (s : Shape) (ps : Parts) {old mid new : State} {t u : Tree} → DecodesExactly (OnePart p s) old (Got t mid.rest) mid → DecodesExactly (ReadsParts ps) mid (Got u new.rest) new
    → DecodesExactly (ReadsParts (part p s ps)) old (Got (joined t u) new.rest) new
part_got p s ps {old} {mid} {new} {t} {u} a b = others_got p s ps old mid new t a u b

-- The error that `?` answers is the one that was met.
pub refused : {X : Type 0} {R : Codec → ℕ → Bool → Reading Tree} {old new : State} (tree : X → Tree) (r : Result X DecodeError) (e : DecodeError) → IsErrAnd r (λ y. y ≡ e) → DecodesExactly R old (refusal e.kind) new → DecodesExactly R old (outcome tree r new.rest) new
refused {X} {R} {old} {new} tree r e h a = subst (λ z. DecodesExactly R old (outcome tree z new.rest) new) (sym (residual r h)) a

-- Parts are read, or the first that isn't is known.
pub in_parts : {D : Type 0} (ps : Parts) (tree : D → Tree) (errors : Errors) (old : State) (r : Result D DecodeError) (new : State)
    → DecodesParts ps tree old r new → IfErr r (λ e. FailsAtPart ps old e new) → IfErr r (λ e. errors old e new) → DecodesInParts ps tree errors old r new
in_parts ps tree errors old (Ok v) new a f x = a
in_parts ps tree errors old (Err e) new a f x = (f, x)

-- What a reading closure has to keep by any calls: each one keeps it, and so do two, one after the other.
pub call_keeps : {R : Codec → ℕ → Bool → Reading Tree} {o : Outcome} {old new : State} → DecodesExactly R old o new → Keeps old new
call_keeps a = record { stays = a.stays; end = a.end }

pub keeps_then : {old mid new : State} → Keeps old mid → Keeps mid new → Keeps old new
keeps_then {old} {mid} {new} a b = kept_after old mid new a b
