-- What is read inside values that hold others: elements and components.
use Rattle.std.proofs.Common.{◌≡◌, ℕ, inl, inr, Bool, List, String, [], ◌∷◌, ◌++◌, map, Vec, Global, Result, Ok, Err, refl, sym, ap, ◌∙◌, subst}
use Rattle.std.specs.Prelude.{Option}
use Rattle.rasn_types.specs.declared.types.tag.Tag.{Tag}
use Rattle.rasn_types.specs.declared.types.constraints.Bound.{Bound}
use Rattle.rasn_types.specs.declared.error.decode.DecodeError.{DecodeError}
use Rattle.rasn_types.specs.declared.error.decode.DecodeErrorKind.{DecodeErrorKind}
use Rattle.rasn_types.specs.Shapes.{Tree, items, done, joined, Shape, prefix, seq, sorted_set, list, set_of, Parts, part, Presence}
use Rattle.rasn_types.specs.Shapes.Parts.{none}
use Rattle.rasn_types.specs.Lawful.{IsLawful, AreLawfulInOrder}
use Rattle.rasn_types.specs.Grammar.{Reads}
use Rattle.rasn_de.specs.State.{State}
use Rattle.rasn_de.specs.Outcomes.{Outcome, Got, refusal}
use Rattle.rasn_de.specs.Decodes.{DecodesBy, DecodesExactly, ReadsParts}
use Rattle.rasn_de.specs.Constructed.{Keeps}
use Rattle.rasn_types.specs.Errors.{IsOutOfMemory}
use Rattle.rasn_de.proofs.Leaves.Outcomes.{Exact-none, alloc_failed}
use Rattle.rasn_de.proofs.Headers.Ends.{IsEnd-refl}
use Rattle.rasn_de.proofs.Constructed.Opening.{kept}
use Rattle.rasn_de.proofs.Constructed.Steps.{kept_after}
use Rattle.rasn_de.proofs.OwnTypes.Parts.{OnePart, no_parts, part_refused, after_part_refused, part_got, call_keeps}
use Rattle.rasn_schema.specs.declared.value.Value.{Value}
use Rattle.rasn_schema.specs.Trees.{tree_of}
use Rattle.rasn_types.specs.declared.types.constraints.Constraints.{Constraints}
use Rattle.rasn_schema.specs.declared.types.«Type».{«Type»}
use Rattle.rasn_schema.specs.declared.types.«Type».TheVariants.{Leaf, Enumerated, Any, Tagged, Choice, Sequence, Set, SequenceOf, SetOf, Unknown}
use Rattle.rasn_schema.specs.declared.type_id.TypeId.{TypeId}
use Rattle.rasn_schema.specs.declared.types.Component.{Component}
use Rattle.rasn_schema.specs.Shapes.{IsReadable}
use Rattle.rasn_dynamic.specs.Inside.{ReadsInside, ReadsSequence}
use Rattle.rasn_de.specs.SetPartTypes.{DecodesSetPartContents}
use Rattle.rasn_de.proofs.OwnTypes.SortedSetParts.{members_decode}
use Rattle.rasn_dynamic.specs.Typed.{HoldsOthers}
use Rattle.rasn_de.specs.PartTypes.{FailsAtOnePart, FailsAtPart}

-- ---- nothing

-- If nothing is read of a shape, any refusal is right.
pub refused_none : (s : Shape) (old : State) (k : DecodeErrorKind) → ((t : Tree) (r : List ℕ) → Reads old.rule s old.depth old.closing old.rest t r → ⊥) → DecodesExactly (λ rule. Reads rule s) old (refusal k) old
refused_none s old k n = record { stays = refl; end = IsEnd-refl old.rest; exact = Exact-none k (Reads old.rule s old.depth old.closing) old.rest n }

-- ---- parts

-- these trees, before those that follow
abbrev pub before : List Tree → Tree → Tree
before [] u = u
before (t ∷ ts) u = joined t (before ts u)

before_done : (ts : List Tree) → before ts done ≡ items ts
before_done [] = refl
before_done (t ∷ ts) = ap (joined t) (before_done ts)

before_more : (ts : List Tree) (t u : Tree) → before (ts ++ t ∷ []) u ≡ before ts (joined t u)
before_more [] t u = refl
before_more (v ∷ ts) t u = ap (joined v) (before_more ts t u)

-- Some components are read, and the rest is left.
pub record PartsSoFar (all rest : Parts) (ts : List Tree) (old here : State) : Type 0 where
  pub keeps : Keeps old here
  pub got : (u : Tree) (new : State) → DecodesExactly (ReadsParts rest) here (Got u new.rest) new → DecodesExactly (ReadsParts all) old (Got (before ts u) new.rest) new
  pub refused : (k : DecodeErrorKind) (new : State) → DecodesExactly (ReadsParts rest) here (refusal k) new → DecodesExactly (ReadsParts all) old (refusal k) new
  pub fails : (e : DecodeError) (new : State) → FailsAtPart rest here e new → FailsAtPart all old e new

pub parts_start : (all : Parts) (old : State) → PartsSoFar all all [] old old
parts_start all old = record { keeps = kept old; got = λ u new a. a; refused = λ k new a. a; fails = λ e new a. a }

module _ (all rest others : Parts) (p : Presence) (s : Shape) (ts : List Tree) (old here : State) (k : PartsSoFar all rest ts old here) (e : rest ≡ part p s others) where
  pub parts_more : (t : Tree) (us : List Tree) (mid : State) → us ≡ ts ++ t ∷ [] → DecodesExactly (OnePart p s) here (Got t mid.rest) mid → PartsSoFar all others us old mid
  parts_more t us mid f a = record {
    keeps = kept_after old here mid k.keeps (call_keeps a);
    got = λ u new b.
        subst (λ z. DecodesExactly (ReadsParts all) old (Got z new.rest) new) (sym (ap (λ l. before l u) f ∙ before_more ts t u))
        (k.got (joined t u) new (subst (λ z. DecodesExactly (ReadsParts z) here (Got (joined t u) new.rest) new) (sym e) (part_got p s others a b)));
    refused = λ q new b. k.refused q new (subst (λ z. DecodesExactly (ReadsParts z) here (refusal q) new) (sym e) (after_part_refused p s others q a b));
    fails = λ x new b. k.fails x new (subst (λ z. FailsAtPart z here x new) (sym e) (inr (t, mid, a, b)));
  }

  pub part_fails : (q : DecodeErrorKind) (new : State) → DecodesExactly (OnePart p s) here (refusal q) new → DecodesExactly (ReadsParts all) old (refusal q) new
  part_fails q new a = k.refused q new (subst (λ z. DecodesExactly (ReadsParts z) here (refusal q) new) (sym e) (part_refused p s others q a))

  pub part_fails_at : (x : DecodeError) (new : State) → FailsAtOnePart p s here x new → FailsAtPart all old x new
  part_fails_at x new a = k.fails x new (subst (λ z. FailsAtPart z here x new) (sym e) (inl a))

-- Memory runs out after a component.
pub parts_run_out : (all rest : Parts) (ts : List Tree) (old here new : State) → PartsSoFar all rest ts old here → Keeps here new → (e : DecodeError) → IsOutOfMemory e.kind → DecodesExactly (ReadsParts all) old (refusal e.kind) new
parts_run_out all rest ts old here new k n e m = let a = kept_after old here new k.keeps n in alloc_failed (ReadsParts all) tree_of old new e m a.stays a.end

pub one_more : (vs : List Value) (v : Value) → map tree_of (vs ++ v ∷ []) ≡ map tree_of vs ++ tree_of v ∷ []
one_more [] v = refl
one_more (w ∷ vs) v = ap (λ l. tree_of w ∷ l) (one_more vs v)

pub parts_end : (all rest : Parts) (ts : List Tree) (old here : State) → PartsSoFar all rest ts old here → rest ≡ none → DecodesExactly (ReadsParts all) old (Got (items ts) here.rest) here
parts_end all rest ts old here k e =
    subst (λ z. DecodesExactly (ReadsParts all) old (Got z here.rest) here) (before_done ts)
    (k.got done here (subst (λ z. DecodesExactly (ReadsParts z) here (Got done here.rest) here) (sym e) no_parts))

-- ---- contents

pub inside_prefix : (tag : Tag) (s : Shape) (old new : State) (o : Outcome) → DecodesExactly (λ rule. Reads rule s) old o new → DecodesExactly (ReadsInside (prefix tag s)) old o new
unfolding ReadsInside
inside_prefix tag s old new o k = k

abbrev itself : Tree → Tree
itself t = t

pub inside_seq : (tag : Tag) (ps : Parts) (old new : State) (e : DecodeError) → DecodesBy (ReadsSequence ps) items old (Err e) new → DecodesBy (ReadsInside (seq tag ps)) itself old (Err e) new
unfolding ReadsInside
inside_seq tag ps old new e k = k

pub inside_seq_got : (tag : Tag) (ps : Parts) (old new : State) (ts : List Tree) → DecodesBy (ReadsSequence ps) items old (Ok ts) new → DecodesBy (ReadsInside (seq tag ps)) itself old (Ok (items ts)) new
unfolding ReadsInside
inside_seq_got tag ps old new ts k = k

-- A SET, whose unknown components are the last part if there may be some.
pub inside_set : (extensible : Bool) (tag : Tag) (ps : Parts) (names : List (List ℕ)) (old new : State) (r : Result (List Tree) DecodeError) → DecodesSetPartContents extensible ps items names old r new
    → DecodesBy (ReadsInside (sorted_set extensible tag ps)) items old r new
unfolding ReadsInside
inside_set extensible tag ps names old new r k = members_decode extensible ps items names old r new k

-- Memory runs out before anything is read.
pub sequence_runs_out : (ps : Parts) (old : State) (e : DecodeError) → IsOutOfMemory e.kind → DecodesBy (ReadsSequence ps) items old (Err e) old
sequence_runs_out ps old e m = alloc_failed (ReadsSequence ps) items old old e m refl (IsEnd-refl old.rest)

-- No type is left that holds others.
pub none_holds : (ty : «Type») → ((tag : Tag) (k : TypeId) → ty ≡ Tagged tag k → ⊥) → ((tag : Tag) (ps : Vec Component Global) → ty ≡ Sequence tag ps → ⊥) → ((name : String Global) (tag : Tag) (ps : Vec Component Global) → ty ≡ Set name tag ps → ⊥)
    → ((tag : Tag) (k : TypeId) (c : Constraints) → ty ≡ SequenceOf tag k c → ⊥) → ((tag : Tag) (k : TypeId) (c : Constraints) → ty ≡ SetOf tag k c → ⊥) → HoldsOthers ty → ⊥
none_holds (Leaf kind tag c names) a b d e g h = h
none_holds (Enumerated tag ns) a b d e g h = h
none_holds (Any tag) a b d e g h = h
none_holds Unknown a b d e g h = h
none_holds (Tagged tag k) a b d e g h = a tag k refl
none_holds (Choice name ks) a b d e g h = h
none_holds (Sequence tag ps) a b d e g h = b tag ps refl
none_holds (Set name tag ps) a b d e g h = d name tag ps refl
none_holds (SequenceOf tag k c) a b d e g h = e tag k c refl
none_holds (SetOf tag k c) a b d e g h = g tag k c refl

-- ---- what is lawful in a lawful shape

pub prefix_lawful : (tag : Tag) (s : Shape) → IsReadable (prefix tag s) → IsReadable s
unfolding IsLawful
prefix_lawful tag s (inl h) = inl (h.1.1, h.1.2)
prefix_lawful tag s (inr e) = cc

pub list_lawful : (tag : Tag) (s : Shape) (size : Option (Bound ℕ)) → IsReadable (list tag s size) → IsReadable s
unfolding IsLawful
list_lawful tag s size (inl h) = inl (h.1.1, h.1.2)
list_lawful tag s size (inr e) = cc

pub set_of_lawful : (tag : Tag) (s : Shape) (size : Option (Bound ℕ)) → IsReadable (set_of tag s size) → IsReadable s
unfolding IsLawful
set_of_lawful tag s size (inl h) = inl (h.1.1, h.1.2)
set_of_lawful tag s size (inr e) = cc

pub seq_lawful : (tag : Tag) (ps : Parts) → IsReadable (seq tag ps) → AreLawfulInOrder ps
unfolding IsLawful
seq_lawful tag ps (inl h) = h.1.1
seq_lawful tag ps (inr e) = cc
