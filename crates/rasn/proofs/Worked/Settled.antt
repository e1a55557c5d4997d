-- What isn't settled or determined, worked out by hand.
use Rattle.std.proofs.Common.{◌≡◌, ℕ, inl, inr, List, [], ◌∷◌, map, Vec, None, Result, Ok, Err, refl, sym, ap, ◌∙◌, arith, true, false}
use Rattle.std.specs.Global.{Global}
use lib.Utf8.{encode}
use Rattle.rasn_types.specs.declared.types.any.Any.{Any}
use Rattle.rasn_types.specs.declared.types.codec.Codec.{Codec}
use Rattle.rasn_types.specs.declared.types.codec.Codec.TheVariants.{Ber, Der}
use Rattle.rasn_types.specs.declared.error.decode.DecodeError.{DecodeError}
use Rattle.rasn_types.specs.Errors.{IsOutOfMemory}
use Rattle.rasn_types.specs.Tags.{form, in_universal}
use Rattle.rasn_types.specs.Framing.{NextTag}
use Rattle.rasn_types.specs.Shapes.{Tree, numbers, done, leaf, null, choice, part, required}
use Rattle.rasn_types.specs.Trees.{unconstrained}
use Rattle.rasn_types.specs.Shapes.Parts.{none}
use Rattle.rasn_types.specs.Grammar.{parts_of}
use Rattle.rasn_types.proofs.Headers.Frames.{frame_next}
use Rattle.rasn_de.specs.declared.ber.de.parser.ParseError.TheVariants.{UnexpectedEmptyInput}
use Rattle.rasn_de.specs.Causes.{error_kind}
use Rattle.rasn_de.specs.Headers.{number128_at, tag_number_at, identifier_by, number256_at, long_at, length_at, header_by}
use Rattle.rasn_de.specs.State.{State, Call, at}
use Rattle.rasn_de.specs.Constructed.{sequence_header, Keeps, inside, DecodesInside}
use Rattle.rasn_de.specs.Sequence.{is_read_by_initializer, MakesInitial, DecodesContents}
use Rattle.rasn_de.specs.Set.{DecodesComponents, DecodesSetBy}
use Rattle.rasn_de.specs.ValueErrors.{DecodesOr, IsErrorOfAlternative}
use Rattle.rasn_de.specs.SetPartTypes.{ReadsPartAt}
use Rattle.rasn.specs.Headline.{front}
use Rattle.rasn.specs.OneRefusal.{IsName, IsSameError, IsRefusedOnce, IsMadeOnce}
use Rattle.rasn.specs.WorkedKinds.{bool_errors, null_errors}
use Rattle.rasn.specs.WorkedSettled.{WorkedSettled}
use Rattle.rasn.specs.WorkedWholes.{a_boolean, two, errors_by_tag, choice_errors}
use Rattle.rasn.proofs.OneRefusal.Alternatives.{no_alternative_apart, alternative_apart, choice_apart}
use Rattle.rasn.proofs.OneRefusal.Leaves.{boolean_apart, null_apart}
use Rattle.rasn.proofs.OneRefusal.SetWith.{set_determined}
use Rattle.rasn.proofs.OneRefusal.SettledAlternatives.{no_alternative_settles}
use Rattle.rasn.proofs.OneRefusal.SettledLists.{vec_of}
use Rattle.rasn.proofs.OneRefusal.SettledSets.{no_slots}
use Rattle.rasn.proofs.ReadBack.Headers.{short}
use Rattle.rasn.proofs.Worked.RefusedSets.{held, within, own_tags}

a_name : IsName (83 ∷ [])
unfolding encode
a_name = ((83 ∷ [], (refl, refl)), omega arith)

-- A NULL is read as none of no alternatives.
nothing_read : (old new : State) (k : ℕ) (u : Tree) → ReadsPartAt false none k u old new → ⊥
unfolding parts_of
nothing_read old new k u a = (a.from 0).exact.0

null_next : NextTag (form Der) (5 ∷ 0 ∷ []) (in_universal 5)
null_next = frame_next (short {spelling = form Der} 5 false [] [] (omega arith) (omega arith) (omega arith))

-- An error, by each rule.
some_error : Codec → DecodeError
some_error rule = record { kind = error_kind UnexpectedEmptyInput; codec = rule }

no_memory : (rule : Codec) → IsOutOfMemory (some_error rule).kind → ⊥
unfolding some_error
no_memory rule e = cc

errors_differ : IsSameError (some_error Ber) (some_error Der) → ⊥
unfolding some_error
errors_differ s = let p = s.1 in cc

abbrev nothing : State
nothing = front Der []

-- A SET and a SEQUENCE without components.
abbrev empty : ℕ → State
empty tag = front Der (tag ∷ 0 ∷ [])

keeps : (tag : ℕ) → Keeps (empty tag) (at (empty tag) [])
keeps tag = record { stays = refl; end = (tag ∷ 0 ∷ [], refl) }

abbrev no_items : Vec Tree Global
no_items = vec_of [] (omega arith)

abbrev AnySet : Call (Unit {0})
AnySet = DecodesSetBy {F = Tree} {D = Unit {0}} (DecodesOr (choice two) (λ t. t) choice_errors) (λ v r. Unit {0}) (in_universal 17)

no_components : DecodesComponents (DecodesOr (choice two) (λ t. t) choice_errors) (λ (v : Vec Tree Global). v.items) (within [] []) (Ok no_items) (within [] [])
no_components = ([], ((refl, refl), λ strict. ([], refl, tt)), inl refl)

set_made : AnySet (empty 49) (Ok tt) (at (empty 49) [])
unfolding number128_at tag_number_at identifier_by number256_at long_at length_at header_by
set_made = (keeps 49, record { header = held (in_universal 17) [] []; opened = refl; left = within [] []; call = (no_items, no_components, tt); closed = refl })

set_rejected : AnySet (empty 49) (Err (some_error Der)) (at (empty 49) [])
unfolding number128_at tag_number_at identifier_by number256_at long_at length_at header_by
set_rejected = (keeps 49, inside (held (in_universal 17) [] []) refl (within [] []) (inr (no_items, no_components, tt)) refl)

one_value_made : {L : Type 0} (readings : L → List Tree) → IsMadeOnce readings (λ (l : L) (r : Result (Unit {0}) DecodeError). r ≡ Ok tt)
one_value_made readings = record { unrefused = λ l m p v e a b. (let q = b.0 in cc); once = λ l m p e f a b. (let q = a.0 in cc) }

-- A BOOLEAN or a NULL is refused as one error.
two_once : IsRefusedOnce choice_errors
two_once =
    let last = alternative_apart false required (leaf null (in_universal 5) unconstrained) none (67 ∷ []) (in_universal 5) null_errors (λ _ _ _ _. Unit {0}) refl (null_apart (in_universal 5)).once (no_alternative_apart false (67 ∷ []) _) in
    let both = alternative_apart false required a_boolean (part required (leaf null (in_universal 5) unconstrained) none) (67 ∷ []) (in_universal 1) bool_errors (IsErrorOfAlternative (in_universal 5) null_errors (λ _ _ _ _. Unit {0})) refl (boolean_apart (in_universal 1)).once last in
    (choice_apart false two (λ (t : Tree). t) (67 ∷ []) errors_by_tag own_tags both).once

abbrev AnySequence : Call (Unit {0})
AnySequence = DecodesInside (DecodesContents {D = Unit {0}} (is_read_by_initializer 1 false true) (MakesInitial {I = Unit {0}} (λ i r. ⊥) None) (λ old r new. new ≡ old)) (sequence_header (in_universal 16))

sequence_made : AnySequence (empty 48) (Ok tt) (at (empty 48) [])
unfolding number128_at tag_number_at identifier_by number256_at long_at length_at header_by
sequence_made = (keeps 48, record { header = held (in_universal 16) [] []; opened = refl; left = within [] []; call = inr (refl, refl); closed = refl })

sequence_rejected : AnySequence (empty 48) (Err (some_error Der)) (at (empty 48) [])
unfolding number128_at tag_number_at identifier_by number256_at long_at length_at header_by
sequence_rejected = (keeps 48, inside (held (in_universal 16) [] []) refl (within [] []) (inr (refl, refl)) refl)

pub worked : WorkedSettled
worked = record {
  does_nothing = λ all. all (front Der []) tt (omega arith) (λ v new a. a) (λ e new a. a.0);
  a_name = a_name;
  no_alternatives = λ name is. no_alternative_settles (λ (a : Any). 0) numbers name is;
  without_errors = λ name all. all (in_universal 5) (front Der (5 ∷ 0 ∷ [])) (omega arith, (omega arith, tt)) (omega arith) null_next (λ v new a. nothing_read (front Der (5 ∷ 0 ∷ [])) new 0 (numbers v) a) (λ e new a. a.0.1.1);
  no_parts = λ name is. no_slots tt tt name is;
  without_value = λ name all. all.made all.empty.0 (λ v g. absurd v) (λ k l. l);
  one_result = record { unrefused = λ old o v e new other a b. (let p = b.0.0 in cc); left = λ old o v w new other a b. a.1 ∙ sym b.1; once = λ old o e f new other a b. (let p = a.0.0 in cc) };
  any_result = λ d. d.unrefused nothing tt tt (some_error Der) nothing nothing refl (refl, no_memory Der);
  any_error = λ d. errors_differ (d.once nothing tt (some_error Ber) (some_error Der) nothing nothing ((tt, refl), no_memory Ber) ((tt, refl), no_memory Der)).0;
  any_rest = λ d. (let p = ap (λ (z : State). z.rest) (d.left nothing tt tt tt nothing (front Der (0 ∷ [])) refl refl) in cc);
  one_made = one_value_made (λ (l : List Tree). l);
  any_made = λ m. m.unrefused [] [] refl tt (some_error Der) tt (tt, no_memory Der);
  any_rejected = λ m. errors_differ (m.once [] [] refl (some_error Ber) (some_error Der) (tt, no_memory Ber) (tt, no_memory Der));
  made_of_more = λ m. m.unrefused [] (done ∷ []) refl tt (some_error Der) refl (tt, no_memory Der);
  always_made = λ l passed failed. passed tt refl;
  never_made = λ m. m [] (λ v a. a) (λ e a. a.0);
  no_initializer = tt;
  makes_nothing = λ m. m (λ v a. a);
  set_of_one_result = λ tag. set_determined (choice two) (λ (t : Tree). t) choice_errors (λ v r. r ≡ Ok tt) tag false two refl two_once (one_value_made (λ (v : Vec Tree Global). map (λ (t : Tree). t) v.items));
  set_of_any_result = λ d. d.unrefused (empty 49) (omega arith, (omega arith, tt)) tt (some_error Der) (at (empty 49) []) (at (empty 49) []) set_made (set_rejected, no_memory Der);
  sequence_of_any_result = λ d. d.unrefused (empty 48) (omega arith, (omega arith, tt)) tt (some_error Der) (at (empty 48) []) (at (empty 48) []) sequence_made (sequence_rejected, no_memory Der);
}
