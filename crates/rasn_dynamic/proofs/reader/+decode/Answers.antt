use Rattle.std.proofs.Common.{rules, arith, append_assoc, length-append, map, true≢false, ◌≡◌, ◌+◌, ◌-◌, [], ◌∷◌, ◌++◌, length, true, false, Some, None, Ok, Err, refl, sym, ap, ◌∙◌, subst, inl, inr}
use Rattle.std.specs.Prelude.{get_or, slice_get, IfOk, IfErr}
use Rattle.std.proofs.lemmas.Option.{slice_get_within}
use Rattle.rasn_types.specs.Shapes.{Tree, Same, items, choice_by, IsFirstOf, own_tag, sought_by}
use Rattle.rasn_types.proofs.Headers.Frames.{next_one, not_ended}
use Rattle.rasn_de.specs.NamedErrors.{IsNamedError, IsDuplicateField}
use Rattle.rasn_de.specs.SetPartTypes.{text}
use Rattle.rasn_de.proofs.Leaves.Outcomes.{alloc_failed}
use Rattle.rasn_schema.proofs.Alternatives.{first_of_all}
use Rattle.rasn_types.specs.Tags.{IsStrict}
use Rattle.rasn_types.specs.Order.{IsLess}
use Rattle.rasn_types.specs.declared.error.decode.DerDecodeErrorKind.TheVariants.{SetOfOutOfOrder}
use Rattle.rasn_types.proofs.SetOf.Ascending.{ends_more, in_order, out_of_order}
use Rattle.rasn_de.specs.State.{State}
use Rattle.rasn_de.specs.declared.ber.de.parser.ParseError.TheVariants.{Der, UnexpectedExtraData, OutOfMemory}
use Rattle.rasn_de.specs.Steps.{IsErrorOf}
use Rattle.rasn_de.specs.Optional.{NextIs}
use Rattle.rasn_de.proofs.Leaves.Returns.{residual}
use Rattle.rasn_de.proofs.Constructed.NextElement.{passes_more, turn_rules}
use Rattle.rasn_de.proofs.Leaves.Rules.{codec_is, same_rules, peek_rules, look_rules, order_rules}
use Rattle.rasn_de.proofs.Constructed.SetOfElements.{passes_from, came_stays}
use Rattle.rasn_de.proofs.Constructed.Steps.{rules_same}
use Rattle.rasn_de.proofs.Constructed.Optional.{strict_before, strict_after}
use Rattle.rasn_de.proofs.OwnTypes.Parts.{call_keeps}
use Rattle.rasn_schema.specs.declared.types.Alternative.{Alternative}
use Rattle.rasn_schema.specs.declared.value.Value.{Value}
use Rattle.rasn_schema.specs.Trees.{tree_of}
use Rattle.rasn_schema.specs.Shapes.{numbers_of, shape_of_type, type_by, alternatives_by, choice_among, components_by, key_of, presence_in, AreReadable, IsReadable}
use Rattle.rasn_schema.proofs.Presences.{always_by}
use Rattle.rasn_schema.proofs.TypeShapes.{shape_below}
use Rattle.rasn_schema.proofs.Lists.{split, nothing_left, read_at}
use Rattle.rasn_dynamic.specs.Inside.{DecodesTree, DecodesComponent}
use Rattle.rasn_dynamic.specs.Making.{Making, outcome, reported}
use Rattle.rasn_dynamic.specs.Calls.{held, Gathers, names_of, nones, DecodesPresent}
use Rattle.rasn_dynamic.proofs.Making.{made_as, made_fails_as, choice_exact, if_kept, one_made, choice_made, choice_fits}
use Rattle.rasn_schema.specs.Fitting.{IsNumber, AreOctets, EachFits}
use Rattle.rasn_dynamic.specs.Times.{Covers, FitsFromBy, FitsFrom}
use Rattle.rasn_dynamic.proofs.Times.{covers_itself, covers_after, covers_turns, covers_components, leaf_times}
use Rattle.rasn_dynamic.proofs.FitsRead.{if_ok, fits_below, each_more, fit_more, fit_end, made_fits, gathered_fit, all_fit, all_left_fit, nones_fit, found_length, found_kept, put_fits}
use Rattle.rasn_dynamic.proofs.Nothing.{refused_at_zero, refused_not_there}
use Rattle.rasn_dynamic.proofs.OpenChoice.{lawful_at}
use Rattle.rasn_dynamic.proofs.ChoicesInside.{part_named}
use Rattle.rasn_dynamic.proofs.Chosen.{no_tag, none_for, for_both, chosen_got, chosen_refused}
use Rattle.rasn_dynamic.proofs.InOrder.{lawful_parts, all_left_read, in_turn}
use Rattle.rasn_dynamic.proofs.OnePart.{always, always_fails, looked, looked_fails, made, made_fails, unread, unread_fails, plain, loose, differs, default_is_written, not_required, next_of, made_of}
use Rattle.rasn_dynamic.proofs.Contents.{prefix_lawful, list_lawful, set_of_lawful, seq_lawful, sequence_runs_out, parts_start, parts_more, part_fails, part_fails_at, parts_run_out, parts_end}
use Rattle.rasn_dynamic.proofs.Pieces.{got_below, first_of_part, part_lawful, nones_come, nones_held, made_parts, lacks_part}
use Rattle.rasn_dynamic.proofs.Component.{member_unpeeked, member_none, unknown_unread, unknown_kept, unknown_left, member_unread, member_idle, member_put, member_shorter}
use Rattle.rasn_dynamic.proofs.AllMembers.{set_trees, all_trees, none_unknown, members_lack, members_made, members_keep, lacks_member, repeats_member}
use Rattle.rasn_de.proofs.OwnTypes.SetPartTypes.{ReadTo, read_rules, none_read, untold, next_fails, next_passes, one_twice}
use Rattle.rasn_dynamic.proofs.Members.{passed_unknown}
use Rattle.rasn_dynamic.proofs.Named.{named_lawful, last_unknown}
use Rattle.rasn_dynamic.specs.Sets.{AreLawfulMembers}
use Rattle.rasn_de.proofs.Constructed.Opening.{kept}
use Rattle.rasn_dynamic.proofs.Parts.{shorter, seen_inside, seen_short}
use Rattle.rasn_dynamic.proofs.reader.+decode.Goals.{decode_elements_in_order-else-is_strict-via-then-is_strict+else-is_less, decode_elements_in_order-else-is_strict-via-else-is_strict}
use Rattle.rasn_dynamic.specs.Listed.{Lists, Inside, PartListed, ComponentAt, MemberListed}
use Rattle.rasn_dynamic.specs.declared.span.Spans.{Spans}
use Rattle.std.specs.Prelude.{IfOk}
use Rattle.rasn_dynamic.proofs.Listed.{if_any, lists_start, lists_more, part_listed, value_listed, choice_listed, alternative_listed, elements_listed, component_present, component_absent, component_more, components_left_out, components_listed, member_listed, unknown_passed, members_listed}
use Rattle.rasn_dynamic.proofs.reader.+decode.Goals as goal
use Rattle.rasn_de.specs.Set.{not_read}
use Rattle.rasn_de.proofs.Headers.Tags.{look_refused, look_follows}
use Rattle.rasn_dynamic.specs.Faults.{octets_after, IsFaultOf, IsFaultIn, IsOnly, IsAlternativeAt, StopsAtMember, StopsInSet, TellsOf}
use Rattle.rasn_dynamic.proofs.Faults.{any_err, if_err_map, unnamed, one_taken, turns_long, marked, stepped, further, weaker, entered, told_map, tells, tells_err, alternative_there, element_there, forgotten, one_part_more, part_there, member_there, member_behind, unknown_there, turns_keep, named, not_named, found_itself, present_stops, itself_choice, element_stops, set_element_stops, default_stops, unmade_stops, only_memory, taken_none, fails_missing}
-- ---- the type with a number

use Rattle.rasn_dynamic.specs.Readers.{DecodesHeld, IsSizedAs, count_of}
use Rattle.rasn_de.specs.Any.{BorrowsOpenType}
use Rattle.rasn_de.specs.ValueErrors.{errors_of}
use Rattle.rasn_dynamic.specs.Calls.{FailsAtNumber}
use Rattle.rasn_dynamic.specs.LeafErrors.{leaf_errors, unknown_errors, RunsOutOr}
use Rattle.rasn_dynamic.proofs.LeafErrors.{ends_somewhere}
use Rattle.rasn_types.specs.Errors.{IsOutOfMemory}
use Rattle.rasn_schema.specs.Fitting.{IsChosen, AlternativeFits}
use Rattle.rasn_dynamic.proofs.Readers.{unopened, may_count, refused, may_close, unclosed, closed, tagged_contents, sequence_contents, set_contents, list_contents, set_of_contents, inside_held, count_is, holds_others, enclosed_refused, enclosed_read, leaf_read, components_refused, components_put, members_refused, members_put, elements_put, set_of_put}

pub decode_at-returns-in_default-clause-reads : goal.decode_at-returns-in_default-clause-reads
decode_at-returns-in_default-clause-reads g t c = elim c.in_default.ensures [
  | inl z ↦ refused_at_zero _ _ _ _ _ z
  | inr m ↦ refused_not_there _ _ _ _ _ m
]

pub decode_at-returns-in_default-clause-nothing : goal.decode_at-returns-in_default-clause-nothing
decode_at-returns-in_default-clause-nothing g t c = λ h. (c.refuse_no_value.ensures, refl)

pub decode_at-returns-in_default-clause-told : goal.decode_at-returns-in_default-clause-told
decode_at-returns-in_default-clause-told g t c =
    let unread : DecodesTree (shape_of_type c.args.types.now.list.now c.args.types.now.levels c.args.id.0) c.args.decoder.now (Err c.refuse_no_value.new.error) c.args.decoder.now = elim c.in_default.ensures [
      | inl z ↦ refused_at_zero _ _ _ _ _ z
      | inr m ↦ refused_not_there _ _ _ _ _ m
    ] in
    marked c.args.types.now.list.now c.args.types.now.levels c.args.id _ c.args.decoder.now _ _ _ (λ f s. absurd (not_named _ f s c.requires.clear)) c.mark.ensures c.octets_left-left.ensures unread.exact
    (λ n. fails_missing c.args.types.now.list.now c.args.types.now.levels c.args.id.0 c.args.decoder.now _ c.in_default.ensures c.refuse_no_value.ensures)

pub decode_at-decode_type-requires : goal.decode_at-decode_type-requires
decode_at-decode_type-requires g t c = λ κs o. (search rules, (search rules, (subst IsReadable (shape_below c.args.types.now.list.now c.args.types.now.levels (c.args.types.now.levels - 1) c.args.id.0 c.in-Some.ty.now (let n = c.in-Some.ensures.0 in omega arith) c.in-Some.ensures.1) c.requires.lawful, (omega (arith, c.octets_left-left.ensures, c.octets_left-left.type_inv), c.requires.clear))))

pub decode_at-returns-in-Ok-clause-reads : goal.decode_at-returns-in-Ok-clause-reads
decode_at-returns-in-Ok-clause-reads g t c = rw (shape_below c.args.types.now.list.now c.args.types.now.levels (c.args.types.now.levels - 1) c.args.id.0 c.in-Some.ty.now (let n = c.in-Some.ensures.0 in omega arith) c.in-Some.ensures.1) c.in-Ok.ensures.reads

pub decode_at-returns-in-Ok-clause-fits : goal.decode_at-returns-in-Ok-clause-fits
decode_at-returns-in-Ok-clause-fits g t c = λ k s v. fits_below s c.args.types.now.list.now c.args.types.now.levels (c.args.types.now.levels - 1) c.args.id.0 c.in-Some.ty.now _ (let n = c.in-Some.ensures.0 in omega arith) c.in-Some.ensures.1 (c.in-Ok.ensures.fits k s v)

pub decode_at-returns-in-Ok-clause-listed : goal.decode_at-returns-in-Ok-clause-listed
decode_at-returns-in-Ok-clause-listed g t c = value_listed c.args.types.now.list.now c.args.types.now.levels (c.args.types.now.levels - 1) c.args.id.0 c.in-Some.ty.now c.args.decoder.now _ _ (let n = c.in-Some.ensures.0 in omega arith) (sym c.in-Some.ensures.1) c.in-Ok.ensures.listed

pub decode_at-returns-in-Err-clause-reads : goal.decode_at-returns-in-Err-clause-reads
decode_at-returns-in-Err-clause-reads g t c = rw (shape_below c.args.types.now.list.now c.args.types.now.levels (c.args.types.now.levels - 1) c.args.id.0 c.in-Some.ty.now (let n = c.in-Some.ensures.0 in omega arith) c.in-Some.ensures.1) c.in-Err.ensures.reads

pub decode_at-returns-in-Err-clause-nothing : goal.decode_at-returns-in-Err-clause-nothing
decode_at-returns-in-Err-clause-nothing g t c = λ h. let g : Some c.in-Some.ty.now ≡ None = c.in-Some.ensures.1 ∙ sym h in absurd cc

pub decode_at-returns-in-Err-clause-told : goal.decode_at-returns-in-Err-clause-told
decode_at-returns-in-Err-clause-told g t c =
    let unread : DecodesTree (shape_of_type c.args.types.now.list.now c.args.types.now.levels c.args.id.0) c.args.decoder.now (Err c.decode_type.new.walk.error) c.decode_type.new.decoder = rw (shape_below c.args.types.now.list.now c.args.types.now.levels (c.args.types.now.levels - 1) c.args.id.0 c.in-Some.ty.now (let n = c.in-Some.ensures.0 in omega arith) c.in-Some.ensures.1) c.in-Err.ensures.reads in
    marked c.args.types.now.list.now c.args.types.now.levels c.args.id _ c.args.decoder.now _ _ _ (λ f s. entered c.args.types.now.list.now c.args.types.now.levels c.args.id.0 (c.args.types.now.levels - 1) c.in-Some.ty.now c.args.decoder.now (let n = c.in-Some.ensures.0 in omega arith) (sym c.in-Some.ensures.1) _ f (c.in-Err.ensures.told f s)) c.mark-in-Err.ensures c.octets_left-left.ensures unread.exact
    (found_itself {T = Value} c.args.types.now.list.now c.args.types.now.levels c.args.id.0 (c.args.types.now.levels - 1) c.in-Some.ty.now c.args.decoder.now _ (let n = c.in-Some.ensures.0 in omega arith) (sym c.in-Some.ensures.1) (Err c.decode_type.new.walk.error) c.in-Err.ensures.itself)

-- ---- a type

pub decode_type-returns-in-Leaf : goal.decode_type-returns-in-Leaf
decode_type-returns-in-Leaf g t c =
    leaf_read c.args.types.now.list.now c.args.types.now.levels g.M.Made.KEEP c.args.decoder.now c.args.walk.now.spans (outcome c.put_leaf.result c.put_leaf.new.out c.put_leaf.new.error) c.put_leaf.new.decoder c.args.walk.now.fault c.args.ty.now (rw c.in-Leaf.is tt)
    (rw c.in-Leaf.is c.put_leaf.ensures.reads) (λ k s v. rw c.in-Leaf.is (leaf_times s c.in-Leaf.kind c.in-Leaf.tag c.args.decoder.now c.put_leaf.new.decoder _ v (c.put_leaf.ensures.fits k) (c.put_leaf.ensures.offset k))) c.put_leaf.ensures.rules
    (rw c.in-Leaf.is (ends_somewhere (leaf_errors c.in-Leaf.kind c.in-Leaf.tag c.in-Leaf.constraints) c.args.decoder.now _ _ c.put_leaf.ensures.fails)) c.requires.clear

pub decode_type-returns-in-Enumerated : goal.decode_type-returns-in-Enumerated
decode_type-returns-in-Enumerated g t c =
    leaf_read c.args.types.now.list.now c.args.types.now.levels g.M.Made.KEEP c.args.decoder.now c.args.walk.now.spans (outcome c.put_number.result c.put_number.new.out c.put_number.new.error) c.put_number.new.decoder c.args.walk.now.fault c.args.ty.now (rw c.in-Enumerated.is tt)
    (rw (c.in-Enumerated.is, ← c.deref.ensures.value) c.put_number.ensures.reads) (λ k s v. rw c.in-Enumerated.is (subst (λ l. IfOk (outcome c.put_number.result c.put_number.new.out c.put_number.new.error) (λ v. IsNumber (numbers_of l) v)) c.deref.ensures.value (c.put_number.ensures.fits k))) c.put_number.ensures.rules
    (rw c.in-Enumerated.is (subst (λ l. IfErr (outcome c.put_number.result c.put_number.new.out c.put_number.new.error) (λ e. (n : State) × FailsAtNumber (numbers_of l) c.in-Enumerated.tag c.args.decoder.now e n)) c.deref.ensures.value
    (ends_somewhere (FailsAtNumber (numbers_of c.deref.result.now) c.in-Enumerated.tag) c.args.decoder.now _ _ c.put_number.ensures.fails))) c.requires.clear

pub decode_type-returns-in-Any : goal.decode_type-returns-in-Any
decode_type-returns-in-Any g t c =
    leaf_read c.args.types.now.list.now c.args.types.now.levels g.M.Made.KEEP c.args.decoder.now c.args.walk.now.spans (outcome c.put_any.result c.put_any.new.out c.put_any.new.error) c.put_any.new.decoder c.args.walk.now.fault c.args.ty.now (rw c.in-Any.is tt)
    (rw c.in-Any.is c.put_any.ensures.reads) (λ k s v. rw c.in-Any.is (c.put_any.ensures.fits k)) c.put_any.ensures.rules
    (rw c.in-Any.is (ends_somewhere (errors_of (BorrowsOpenType c.in-Any.tag)) c.args.decoder.now _ _ c.put_any.ensures.fails)) c.requires.clear

pub decode_type-returns-in-Unknown : goal.decode_type-returns-in-Unknown
decode_type-returns-in-Unknown g t c =
    leaf_read c.args.types.now.list.now c.args.types.now.levels g.M.Made.KEEP c.args.decoder.now c.args.walk.now.spans (outcome c.put_unknown.result c.put_unknown.new.out c.put_unknown.new.error) c.put_unknown.new.decoder c.args.walk.now.fault c.args.ty.now (rw c.in-Unknown.is tt)
    (rw c.in-Unknown.is c.put_unknown.ensures.reads) (λ k s v. rw c.in-Unknown.is (c.put_unknown.ensures.fits k)) c.put_unknown.ensures.rules
    (rw c.in-Unknown.is (ends_somewhere (RunsOutOr unknown_errors) c.args.decoder.now _ _ c.put_unknown.ensures.fails)) c.requires.clear

pub decode_type-returns-in-Choice : goal.decode_type-returns-in-Choice
decode_type-returns-in-Choice g t c = record {
  exact = choice_exact (shape_of_type c.args.types.now.list.now c.args.types.now.levels) c.args.ty.now _ c.args.decoder.now (outcome c.decode_choice.result c.decode_choice.new.out c.decode_choice.new.walk.error) _ c.in-Choice.name c.in-Choice.alternatives c.deref-in-Choice.result.now c.as_str.result.now c.in-Choice.is c.deref-in-Choice.ensures.value c.as_str.ensures.value c.decode_choice.ensures.reads c.decode_choice.ensures.unknown;
  fits = λ k s v. subst (λ z. IfOk (outcome c.decode_choice.result c.decode_choice.new.out c.decode_choice.new.walk.error) (FitsFromBy s (FitsFrom s c.args.types.now.list.now c.args.types.now.levels) z)) (sym c.in-Choice.is) (subst (λ l. IfOk (outcome c.decode_choice.result c.decode_choice.new.out c.decode_choice.new.walk.error) (λ v. IsChosen (AlternativeFits (FitsFrom s c.args.types.now.list.now c.args.types.now.levels) l) v)) c.deref-in-Choice.ensures.value (c.decode_choice.ensures.fits k s v));
  reads = subst (λ z. Making g.M.Made.KEEP tree_of (DecodesTree (type_by (shape_of_type c.args.types.now.list.now c.args.types.now.levels) z)) c.args.decoder.now (outcome c.decode_choice.result c.decode_choice.new.out c.decode_choice.new.walk.error) c.decode_choice.new.decoder) (sym c.in-Choice.is) (subst (λ l. Making g.M.Made.KEEP tree_of (DecodesTree (choice_among (alternatives_by (shape_of_type c.args.types.now.list.now c.args.types.now.levels) l))) c.args.decoder.now (outcome c.decode_choice.result c.decode_choice.new.out c.decode_choice.new.walk.error) c.decode_choice.new.decoder) c.deref-in-Choice.ensures.value c.decode_choice.ensures.reads);
  told = told_map _ _ (λ k f i. subst (λ n. IsFaultOf c.args.types.now.list.now c.args.types.now.levels n c.args.decoder.now k f) (sym c.in-Choice.is)
      (c.args.decoder.now, refl, subst (λ l. IsFaultIn c.args.types.now.list.now c.args.types.now.levels (IsAlternativeAt (shape_of_type c.args.types.now.list.now c.args.types.now.levels) l c.args.decoder.now) c.args.decoder.now c.args.decoder.now k f) c.deref-in-Choice.ensures.value i)) _ _ c.decode_choice.ensures.told;
  itself = itself_choice (shape_of_type c.args.types.now.list.now c.args.types.now.levels) c.args.ty.now c.args.decoder.now _ c.in-Choice.name c.in-Choice.alternatives _ _ c.in-Choice.is c.as_str.ensures.value c.deref-in-Choice.ensures.value _ c.decode_choice.ensures.itself;
  listed = if_ok _ _ _ (λ v. choice_listed (shape_of_type c.args.types.now.list.now c.args.types.now.levels) c.args.types.now.levels (Inside c.args.types.now.list.now c.args.types.now.levels) c.args.ty.now c.deref-in-Choice.result.now c.args.decoder.now _ _ (rw c.in-Choice.is c.deref-in-Choice.ensures.value)) c.decode_choice.ensures.listed;
  rules = c.decode_choice.ensures.rules;
}

pub decode_type-decode_enclosed-requires : goal.decode_type-decode_enclosed-requires
decode_type-decode_enclosed-requires g t c = λ κs o. (search rules, (search rules, (c.requires.lawful, (c.in-Some.ensures, (c.requires.short, c.requires.clear)))))

-- ---- a header, what is inside, and its end

pub decode_enclosed-returns-in-Err : goal.decode_enclosed-returns-in-Err
decode_enclosed-returns-in-Err g t c =
    enclosed_refused c.args.types.now.list.now c.args.types.now.levels g.M.Made.KEEP c.args.decoder.now c.args.walk.now.spans c.open.new.self c.args.walk.now.fault c.args.walk.now.spans c.args.ty.now c.args.header c.requires.header 0 c.in-Err.error
    (unopened c.args.types.now.list.now c.args.types.now.levels g.M.Made.KEEP c.args.ty.now (DecodesHeld (shape_of_type c.args.types.now.list.now c.args.types.now.levels) c.args.ty.now 0) c.args.header c.args.decoder.now c.open.ensures.octets c.args.walk.now.spans (Err c.in-Err.error) c.in-Err.error c.open.new.self c.args.walk.now.fault c.args.walk.now.spans refl c.in-Err.ensures.exact c.requires.clear)

pub decode_enclosed-decode_inside-read-requires : goal.decode_enclosed-decode_inside-read-requires
decode_enclosed-decode_inside-read-requires g t c = λ κs o. (search rules, (search rules, (c.requires.lawful, (holds_others c.args.ty.now c.args.header c.requires.header, (let n = seen_short c.args.decoder.now.rest c.in-Ok.opened.0.rest (length c.args.decoder.now.rest) _ (seen_inside c.args.header c.args.decoder.now c.open.ensures.octets c.in-Ok.opened.0 c.in-Ok.opened.1 c.open.new.self c.in-Ok.ensures.exact (length c.args.decoder.now.rest) (omega arith)) (omega arith) in omega (arith, n, c.requires.short), c.requires.clear)))))

pub decode_enclosed-count_after-requires : goal.decode_enclosed-count_after-requires
decode_enclosed-count_after-requires g t c = may_count c.args.types.now.list.now c.args.types.now.levels g.M.Made.KEEP c.args.ty.now (DecodesHeld (shape_of_type c.args.types.now.list.now c.args.types.now.levels) c.args.ty.now (count_of c.decode_inside-read.result)) c.args.header c.args.decoder.now c.open.ensures.octets c.args.walk.now.spans (inside_held (shape_of_type c.args.types.now.list.now c.args.types.now.levels) c.args.ty.now (count_of c.decode_inside-read.result)) c.in-Ok.opened.0 c.in-Ok.opened.1 c.open.new.self c.in-Ok.ensures.exact c.decode_inside-read.result c.decode_inside-read.new.out c.decode_inside-read.new.walk.error c.decode_inside-read.new.decoder c.decode_inside-read.new.walk.fault c.go_inside-after.new.spans c.decode_inside-read.new.walk.spans c.decode_inside-read.ensures _ refl c.requires.short

pub decode_enclosed-returns-in_err-count : goal.decode_enclosed-returns-in_err-count
decode_enclosed-returns-in_err-count g t c = rw (residual _ c.from_residual.ensures.1)
    (enclosed_refused c.args.types.now.list.now c.args.types.now.levels g.M.Made.KEEP c.args.decoder.now c.args.walk.now.spans c.open.new.self c.count_after.new.fault c.decode_inside-read.new.walk.spans c.args.ty.now c.args.header c.requires.header (count_of c.decode_inside-read.result) c.decode_inside-read.new.walk.error
    (refused c.args.types.now.list.now c.args.types.now.levels g.M.Made.KEEP c.args.ty.now (DecodesHeld (shape_of_type c.args.types.now.list.now c.args.types.now.levels) c.args.ty.now (count_of c.decode_inside-read.result)) c.args.header c.args.decoder.now c.open.ensures.octets c.args.walk.now.spans (inside_held (shape_of_type c.args.types.now.list.now c.args.types.now.levels) c.args.ty.now (count_of c.decode_inside-read.result)) c.in-Ok.opened.0 c.in-Ok.opened.1 c.open.new.self c.in-Ok.ensures.exact c.decode_inside-read.result c.decode_inside-read.new.out c.decode_inside-read.new.walk.error c.decode_inside-read.new.decoder c.decode_inside-read.new.walk.fault c.go_inside-after.new.spans c.decode_inside-read.new.walk.spans c.decode_inside-read.ensures _ _ _ c.in_err-count.ensures))

pub decode_enclosed-close-requires : goal.decode_enclosed-close-requires
decode_enclosed-close-requires g t c = may_close c.args.types.now.list.now c.args.types.now.levels g.M.Made.KEEP c.args.ty.now (DecodesHeld (shape_of_type c.args.types.now.list.now c.args.types.now.levels) c.args.ty.now (count_of c.decode_inside-read.result)) c.args.header c.args.decoder.now c.open.ensures.octets c.args.walk.now.spans (inside_held (shape_of_type c.args.types.now.list.now c.args.types.now.levels) c.args.ty.now (count_of c.decode_inside-read.result)) c.in-Ok.opened.0 c.in-Ok.opened.1 c.open.new.self c.in-Ok.ensures.exact c.decode_inside-read.result c.decode_inside-read.new.out c.decode_inside-read.new.walk.error c.decode_inside-read.new.decoder c.decode_inside-read.new.walk.fault c.go_inside-after.new.spans c.decode_inside-read.new.walk.spans c.decode_inside-read.ensures _ _ c.in_ok-count.ensures _ c.remaining.ensures.value

pub decode_enclosed-returns-in-Err-close : goal.decode_enclosed-returns-in-Err-close
decode_enclosed-returns-in-Err-close g t c =
    enclosed_refused c.args.types.now.list.now c.args.types.now.levels g.M.Made.KEEP c.args.decoder.now c.args.walk.now.spans c.close.new.self c.count_after.new.fault c.decode_inside-read.new.walk.spans c.args.ty.now c.args.header c.requires.header (count_of c.decode_inside-read.result) c.in-Err-close.error
    (unclosed c.args.types.now.list.now c.args.types.now.levels g.M.Made.KEEP c.args.ty.now (DecodesHeld (shape_of_type c.args.types.now.list.now c.args.types.now.levels) c.args.ty.now (count_of c.decode_inside-read.result)) c.args.header c.args.decoder.now c.open.ensures.octets c.args.walk.now.spans (inside_held (shape_of_type c.args.types.now.list.now c.args.types.now.levels) c.args.ty.now (count_of c.decode_inside-read.result)) c.in-Ok.opened.0 c.in-Ok.opened.1 c.open.new.self c.in-Ok.ensures.exact c.decode_inside-read.result c.decode_inside-read.new.out c.decode_inside-read.new.walk.error c.decode_inside-read.new.decoder c.decode_inside-read.new.walk.fault c.go_inside-after.new.spans c.decode_inside-read.new.walk.spans c.decode_inside-read.ensures _ c.count_after.new.fault c.in_ok-count.ensures c.decode_inside-read.new.walk.spans c.remaining.result.now c.remaining.ensures.value c.close.new.self c.in-Err-close.error c.in-Err-close.ensures)

pub decode_enclosed-returns : goal.decode_enclosed-returns
decode_enclosed-returns g t c =
    enclosed_read c.args.types.now.list.now c.args.types.now.levels g.M.Made.KEEP c.args.decoder.now c.args.walk.now.spans c.close.new.self c.count_after.new.fault c.go_outside.new.spans c.args.ty.now c.args.header c.requires.header (count_of c.decode_inside-read.result) c.decode_inside-read.new.out
    (closed c.args.types.now.list.now c.args.types.now.levels g.M.Made.KEEP c.args.ty.now (DecodesHeld (shape_of_type c.args.types.now.list.now c.args.types.now.levels) c.args.ty.now (count_of c.decode_inside-read.result)) c.args.header c.args.decoder.now c.open.ensures.octets c.args.walk.now.spans (inside_held (shape_of_type c.args.types.now.list.now c.args.types.now.levels) c.args.ty.now (count_of c.decode_inside-read.result)) c.in-Ok.opened.0 c.in-Ok.opened.1 c.open.new.self c.in-Ok.ensures.exact c.decode_inside-read.result c.decode_inside-read.new.out c.decode_inside-read.new.walk.error c.decode_inside-read.new.decoder c.decode_inside-read.new.walk.fault c.go_inside-after.new.spans c.decode_inside-read.new.walk.spans c.decode_inside-read.ensures _ c.count_after.new.fault c.in_ok-count.ensures c.go_outside.new.spans c.remaining.result.now c.remaining.ensures.value c.close.new.self c.go_inside-after.result c.go_inside-after.ensures c.go_outside.ensures c.in-Ok-close.ensures) c.check_size.result c.check_size.new.error
    (subst (λ z. IsSizedAs c.args.ty.now c.close.new.self z (reported c.check_size.result c.check_size.new.error)) (count_is (octets_after c.decode_inside-read.new.decoder.closing (length c.open.new.self.rest)) c.decode_inside-read.result c.decode_inside-read.new.walk.fault c.in_ok-count.count c.count_after.new.fault c.in_ok-count.ensures) c.check_size.ensures.sized) c.check_size.ensures.rules

-- ---- what is inside

pub decode_inside-decode_part-requires : goal.decode_inside-decode_part-requires
decode_inside-decode_part-requires g t c = λ κs o. (search rules, (search rules, (prefix_lawful _ _ (subst (λ n. IsReadable (type_by (shape_of_type c.args.types.now.list.now c.args.types.now.levels) n)) c.in-Tagged.is c.requires.lawful), c.requires.clear)))

pub decode_inside-returns-in_err-decode_part-in-Tagged : goal.decode_inside-returns-in_err-decode_part-in-Tagged
decode_inside-returns-in_err-decode_part-in-Tagged g t c =
    rw (residual _ c.from_residual.ensures.1) (rw c.in-Tagged.is (tagged_contents c.args.types.now.list.now c.args.types.now.levels g.M.Made.KEEP c.args.decoder.now c.args.walk.now.spans (Err c.decode_part.new.walk.error) c.decode_part.new.decoder c.decode_part.new.walk.fault c.decode_part.new.walk.spans _ _ c.in_err-decode_part-in-Tagged.ensures.reads (λ k s v. tt) c.in_err-decode_part-in-Tagged.ensures.rules c.in_err-decode_part-in-Tagged.ensures.told tt))

pub decode_inside-returns-in_ok-decode_part-in-Tagged : goal.decode_inside-returns-in_ok-decode_part-in-Tagged
decode_inside-returns-in_ok-decode_part-in-Tagged g t c =
    rw c.in-Tagged.is (tagged_contents c.args.types.now.list.now c.args.types.now.levels g.M.Made.KEEP c.args.decoder.now c.args.walk.now.spans (Ok c.decode_part.new.out) c.decode_part.new.decoder c.decode_part.new.walk.fault c.decode_part.new.walk.spans _ _ c.in_ok-decode_part-in-Tagged.ensures.reads c.in_ok-decode_part-in-Tagged.ensures.fits tt c.in_ok-decode_part-in-Tagged.ensures.told c.in_ok-decode_part-in-Tagged.ensures.listed)

pub decode_inside-put_components-requires : goal.decode_inside-put_components-requires
decode_inside-put_components-requires g t c = λ κs o. (search rules, (search rules, (lawful_parts (shape_of_type c.args.types.now.list.now c.args.types.now.levels) _ (seq_lawful _ _ (subst (λ n. IsReadable (type_by (shape_of_type c.args.types.now.list.now c.args.types.now.levels) n)) c.in-Sequence.is c.requires.lawful)), c.requires.clear)))

pub decode_inside-returns-in_err-put_components-in-Sequence : goal.decode_inside-returns-in_err-put_components-in-Sequence
decode_inside-returns-in_err-put_components-in-Sequence g t c =
    rw (residual _ c.from_residual-in_err-put_components-in-Sequence.ensures.1) (rw c.in-Sequence.is (sequence_contents c.args.types.now.list.now c.args.types.now.levels g.M.Made.KEEP c.args.decoder.now c.args.walk.now.spans (Err c.put_components.new.walk.error) c.put_components.new.decoder c.put_components.new.walk.fault c.put_components.new.walk.spans _ _ c.in_err-put_components-in-Sequence.ensures))

pub decode_inside-returns-in_ok-put_components-in-Sequence : goal.decode_inside-returns-in_ok-put_components-in-Sequence
decode_inside-returns-in_ok-put_components-in-Sequence g t c =
    rw c.in-Sequence.is (sequence_contents c.args.types.now.list.now c.args.types.now.levels g.M.Made.KEEP c.args.decoder.now c.args.walk.now.spans (Ok c.put_components.new.out) c.put_components.new.decoder c.put_components.new.walk.fault c.put_components.new.walk.spans _ _ c.in_ok-put_components-in-Sequence.ensures)

pub decode_inside-put_set_components-requires : goal.decode_inside-put_set_components-requires
decode_inside-put_set_components-requires g t c = λ κs o. (search rules, (search rules, (named_lawful (shape_of_type c.args.types.now.list.now c.args.types.now.levels) c.in-Set.tag c.in-Set.components.items _ refl (subst (λ n. IsReadable (type_by (shape_of_type c.args.types.now.list.now c.args.types.now.levels) n)) c.in-Set.is c.requires.lawful), c.requires.clear)))

pub decode_inside-returns-in_err-put_set_components-in-Set : goal.decode_inside-returns-in_err-put_set_components-in-Set
decode_inside-returns-in_err-put_set_components-in-Set g t c =
    rw (residual _ c.from_residual-in_err-put_set_components-in-Set.ensures.1) (rw c.in-Set.is (set_contents c.args.types.now.list.now c.args.types.now.levels g.M.Made.KEEP c.args.decoder.now c.args.walk.now.spans (Err c.put_set_components.new.walk.error) c.put_set_components.new.decoder c.put_set_components.new.walk.fault c.put_set_components.new.walk.spans _ _ _ c.in_err-put_set_components-in-Set.ensures))

pub decode_inside-returns-in_ok-put_set_components-in-Set : goal.decode_inside-returns-in_ok-put_set_components-in-Set
decode_inside-returns-in_ok-put_set_components-in-Set g t c =
    rw c.in-Set.is (set_contents c.args.types.now.list.now c.args.types.now.levels g.M.Made.KEEP c.args.decoder.now c.args.walk.now.spans (Ok c.put_set_components.new.out) c.put_set_components.new.decoder c.put_set_components.new.walk.fault c.put_set_components.new.walk.spans _ _ _ c.in_ok-put_set_components-in-Set.ensures)

pub decode_inside-put_elements-requires : goal.decode_inside-put_elements-requires
decode_inside-put_elements-requires g t c = λ κs o. (search rules, (search rules, (list_lawful _ _ c.in-SequenceOf.constraints.size (subst (λ n. IsReadable (type_by (shape_of_type c.args.types.now.list.now c.args.types.now.levels) n)) c.in-SequenceOf.is c.requires.lawful), (c.requires.short, c.requires.clear))))

pub decode_inside-returns-in-SequenceOf : goal.decode_inside-returns-in-SequenceOf
decode_inside-returns-in-SequenceOf g t c =
    rw c.in-SequenceOf.is (list_contents c.args.types.now.list.now c.args.types.now.levels g.M.Made.KEEP c.args.decoder.now c.args.walk.now.spans (outcome c.put_elements.result c.put_elements.new.out c.put_elements.new.walk.error) c.put_elements.new.decoder c.put_elements.new.walk.fault c.put_elements.new.walk.spans _ _ _ (count_of c.put_elements.result) c.put_elements.ensures)

pub decode_inside-put_elements_in_order-requires : goal.decode_inside-put_elements_in_order-requires
decode_inside-put_elements_in_order-requires g t c = λ κs o. (search rules, (search rules, (set_of_lawful _ _ c.in-SetOf.constraints.size (subst (λ n. IsReadable (type_by (shape_of_type c.args.types.now.list.now c.args.types.now.levels) n)) c.in-SetOf.is c.requires.lawful), (c.requires.short, c.requires.clear))))

pub decode_inside-returns-in-SetOf : goal.decode_inside-returns-in-SetOf
decode_inside-returns-in-SetOf g t c =
    rw c.in-SetOf.is (set_of_contents c.args.types.now.list.now c.args.types.now.levels g.M.Made.KEEP c.args.decoder.now c.args.walk.now.spans (outcome c.put_elements_in_order.result c.put_elements_in_order.new.out c.put_elements_in_order.new.walk.error) c.put_elements_in_order.new.decoder c.put_elements_in_order.new.walk.fault c.put_elements_in_order.new.walk.spans _ _ _ (count_of c.put_elements_in_order.result) c.put_elements_in_order.ensures)

-- ---- CHOICE

pub decode_choice-returns-in_err-tag-clause-reads : goal.decode_choice-returns-in_err-tag-clause-reads
decode_choice-returns-in_err-tag-clause-reads g t c = rw (residual _ c.from_residual.ensures.1) (no_tag (shape_of_type c.args.types.now.list.now c.args.types.now.levels) c.args.alternatives.now _ _ c.in_err-tag.ensures.exact)

pub decode_choice-returns-in_err-tag-clause-unknown : goal.decode_choice-returns-in_err-tag-clause-unknown
decode_choice-returns-in_err-tag-clause-unknown g t c = rw (residual _ c.from_residual.ensures.1) (λ tag n others. absurd (c.in_err-tag.ensures.next tag n))

pub decode_choice-returns-in_err-tag-clause-rules : goal.decode_choice-returns-in_err-tag-clause-rules
decode_choice-returns-in_err-tag-clause-rules g t c = rw (residual _ c.from_residual.ensures.1) (peek_rules c.args.decoder.now _ c.in_err-tag.ensures.exact)

pub decode_choice-returns-in_default-clause-reads : goal.decode_choice-returns-in_default-clause-reads
decode_choice-returns-in_default-clause-reads g t c = none_for (shape_of_type c.args.types.now.list.now c.args.types.now.levels) c.args.alternatives.now c.in_ok-tag.tag _ c.in_ok-tag.ensures.next c.in_default.ensures _

pub decode_choice-returns-in_default-clause-unknown : goal.decode_choice-returns-in_default-clause-unknown
decode_choice-returns-in_default-clause-unknown g t c = λ tag n others. (c.refuse_choice.ensures, refl)

pub decode_choice-returns-in_default-clause-rules : goal.decode_choice-returns-in_default-clause-rules
decode_choice-returns-in_default-clause-rules g t c = c.refuse_choice.ensures.0

pub decode_choice-bounds-alternatives-number : goal.decode_choice-bounds-alternatives-number
decode_choice-bounds-alternatives-number g t c = slice_get_within c.args.alternatives.now c.in-Some.number c.in-Some.ensures.0 (sym c.in-Some.ensures.1.0)

pub decode_choice-decode_alternative-requires : goal.decode_choice-decode_alternative-requires
decode_choice-decode_alternative-requires g t c =
    let el = get_or c.args.alternatives.now c.in-Some.number c.index-alternatives-number.result in
    let at : Some el ≡ slice_get c.args.alternatives.now c.in-Some.number = subst (λ (a : Alternative). Some a ≡ slice_get c.args.alternatives.now c.in-Some.number) c.index-alternatives-number.is
    (read_at c.args.alternatives.now c.in-Some.number c.index-alternatives-number.result (slice_get_within c.args.alternatives.now c.in-Some.number c.in-Some.ensures.0 (sym c.in-Some.ensures.1.0)) c.index-alternatives-number.is) in
    λ κs o. (search rules, (search rules, (lawful_at (shape_of_type c.args.types.now.list.now c.args.types.now.levels) c.args.alternatives.now c.in-Some.number el c.requires.1.1.1.0 at, (c.requires.1.1.1.1, c.in_ok-tag.ensures.next))))

pub decode_choice-returns-in_err-decode_alternative-clause-reads : goal.decode_choice-returns-in_err-decode_alternative-clause-reads
decode_choice-returns-in_err-decode_alternative-clause-reads g t c =
    let el = get_or c.args.alternatives.now c.in-Some.number c.index-alternatives-number.result in
    let at : Some el ≡ slice_get c.args.alternatives.now c.in-Some.number = subst (λ (a : Alternative). Some a ≡ slice_get c.args.alternatives.now c.in-Some.number) c.index-alternatives-number.is
    (read_at c.args.alternatives.now c.in-Some.number c.index-alternatives-number.result (slice_get_within c.args.alternatives.now c.in-Some.number c.in-Some.ensures.0 (sym c.in-Some.ensures.1.0)) c.index-alternatives-number.is) in
    rw (residual _ c.from_residual-in_err-decode_alternative.ensures.1)
    (chosen_refused (shape_of_type c.args.types.now.list.now c.args.types.now.levels) c.args.alternatives.now c.in-Some.number el c.in_ok-tag.tag c.requires.1.1.1.0
    (for_both (shape_of_type c.args.types.now.list.now c.args.types.now.levels) c.args.alternatives.now c.in-Some.number c.in-Some.ensures.0 _ c.in_ok-tag.tag c.in-Some.ensures.1 at) _ _ c.in_ok-tag.ensures.next _ c.in_err-decode_alternative.ensures.reads)

pub decode_choice-returns-in_err-decode_alternative-clause-unknown : goal.decode_choice-returns-in_err-decode_alternative-clause-unknown
decode_choice-returns-in_err-decode_alternative-clause-unknown g t c = rw (residual _ c.from_residual-in_err-decode_alternative.ensures.1) (λ tag n others.
    absurd (others (subst (IsFirstOf (alternatives_by (shape_of_type c.args.types.now.list.now c.args.types.now.levels) c.args.alternatives.now)) (next_one c.args.decoder.now.rest c.in_ok-tag.tag tag c.in_ok-tag.ensures.next n)
    (first_of_all (shape_of_type c.args.types.now.list.now c.args.types.now.levels) c.in_ok-tag.tag c.args.alternatives.now c.in-Some.number c.in-Some.ensures.0 c.in-Some.ensures.1.0 c.in-Some.ensures.1.1))))

pub decode_choice-returns-clause-unknown : goal.decode_choice-returns-clause-unknown
decode_choice-returns-clause-unknown g t c = any_err _ (λ e tag n others.
    absurd (others (subst (IsFirstOf (alternatives_by (shape_of_type c.args.types.now.list.now c.args.types.now.levels) c.args.alternatives.now)) (next_one c.args.decoder.now.rest c.in_ok-tag.tag tag c.in_ok-tag.ensures.next n)
    (first_of_all (shape_of_type c.args.types.now.list.now c.args.types.now.levels) c.in_ok-tag.tag c.args.alternatives.now c.in-Some.number c.in-Some.ensures.0 c.in-Some.ensures.1.0 c.in-Some.ensures.1.1)))) (outcome c.choose.result c.choose.new.out c.choose.new.error)

pub decode_choice-returns-clause-told : goal.decode_choice-returns-clause-told
decode_choice-returns-clause-told g t c = unnamed _ (outcome c.choose.result c.choose.new.out c.choose.new.error) _ c.in_ok-decode_alternative.ensures.told

pub decode_choice-returns-clause-rules : goal.decode_choice-returns-clause-rules
decode_choice-returns-clause-rules g t c = subst (λ z. IfErr (outcome c.choose.result c.choose.new.out c.choose.new.error) (λ e. e.codec ≡ z)) (same_rules c.in_ok-decode_alternative.ensures.reads.2.stays) c.choose.ensures.rules

pub decode_choice-returns-clause-fits : goal.decode_choice-returns-clause-fits
decode_choice-returns-clause-fits g t c =
    let at = read_at c.args.alternatives.now c.in-Some.number c.index-alternatives-number.result (slice_get_within c.args.alternatives.now c.in-Some.number c.in-Some.ensures.0 (sym c.in-Some.ensures.1.0)) c.index-alternatives-number.is in
    λ k s v. choice_fits _ c.in-Some.number c.decode_alternative.new.out (AlternativeFits (FitsFrom s c.args.types.now.list.now c.args.types.now.levels) c.args.alternatives.now) (outcome c.choose.result c.choose.new.out c.choose.new.error) c.choose.ensures.ok
    (λ k. (c.index-alternatives-number.result, at, subst (λ (a : Alternative). FitsFrom s c.args.types.now.list.now c.args.types.now.levels a.type_id.0 c.decode_alternative.new.out) (sym c.index-alternatives-number.is) (c.in_ok-decode_alternative.ensures.fits k s v))) k

pub decode_choice-returns-clause-reads : goal.decode_choice-returns-clause-reads
decode_choice-returns-clause-reads g t c =
    let el = get_or c.args.alternatives.now c.in-Some.number c.index-alternatives-number.result in
    let at : Some el ≡ slice_get c.args.alternatives.now c.in-Some.number = subst (λ (a : Alternative). Some a ≡ slice_get c.args.alternatives.now c.in-Some.number) c.index-alternatives-number.is
    (read_at c.args.alternatives.now c.in-Some.number c.index-alternatives-number.result (slice_get_within c.args.alternatives.now c.in-Some.number c.in-Some.ensures.0 (sym c.in-Some.ensures.1.0)) c.index-alternatives-number.is) in
    let w = c.in_ok-decode_alternative.ensures.reads in
    choice_made _ c.in-Some.number c.decode_alternative.new.out (DecodesTree (choice_among (alternatives_by (shape_of_type c.args.types.now.list.now c.args.types.now.levels) c.args.alternatives.now))) c.args.decoder.now w.0 (outcome c.choose.result c.choose.new.out c.choose.new.error) _ w.1 c.choose.ensures.ok c.choose.ensures.kind
    (chosen_got (shape_of_type c.args.types.now.list.now c.args.types.now.levels) c.args.alternatives.now c.in-Some.number el c.in_ok-tag.tag c.requires.1.1.1.0
    (for_both (shape_of_type c.args.types.now.list.now c.args.types.now.levels) c.args.alternatives.now c.in-Some.number c.in-Some.ensures.0 _ c.in_ok-tag.tag c.in-Some.ensures.1 at) _ _ c.in_ok-tag.ensures.next w.0 w.2)
    (λ e m. alloc_failed _ (λ (z : Tree). z) c.args.decoder.now _ e m w.2.stays w.2.end)

-- ---- CHOICEs directly in one another

pub decode_alternative-returns-in-Some : goal.decode_alternative-returns-in-Some
decode_alternative-returns-in-Some g t c = c.decode_nested.ensures

pub decode_alternative-returns-in-None : goal.decode_alternative-returns-in-None
decode_alternative-returns-in-None g t c = record {
  reads = c.decode_part.ensures.reads;
  fits = c.decode_part.ensures.fits;
  rules = c.decode_part.ensures.rules;
  told = c.decode_part.ensures.told;
  listed = c.decode_part.ensures.listed;
}

pub decode_nested-returns : goal.decode_nested-returns
decode_nested-returns g t c = c.ascend.ensures c.args.types.now c.args.decoder.now c.args.part c.args.walk.now.spans c.decode_innermost-innermost.ensures

pub decode_innermost-decode_part-requires : goal.decode_innermost-decode_part-requires
decode_innermost-decode_part-requires g t c = λ κs o. (search rules, (search rules, (c.in-Ok.ensures.goes.1, search rules)))

pub decode_innermost-returns-in-Ok : goal.decode_innermost-returns-in-Ok
decode_innermost-returns-in-Ok g t c = (
  c.descend-entered.new.nested.part,
  c.descend-entered.new.walk.spans,
  refl,
  c.in-Ok.ensures.goes.0,
  record {
    reads = c.decode_part.ensures.reads;
    fits = c.decode_part.ensures.fits;
    rules = c.decode_part.ensures.rules;
    told = c.decode_part.ensures.told;
    listed = c.decode_part.ensures.listed;
  },
)

pub decode_innermost-returns-in-Err : goal.decode_innermost-returns-in-Err
decode_innermost-returns-in-Err g t c =
    let part = c.descend-entered.new.nested.part in
    let e = c.descend-entered.new.walk.error in
    let d = c.in-Err.ensures.goes in
    let same = c.in-Err.ensures.unnamed ∙ c.requires.clear in (
      part,
      d.0,
      refl,
      d.1,
      record {
        reads = d.2.0;
        fits = λ k s v. tt;
        rules = d.2.2;
        told = part_named c.args.types.now part _ c.args.decoder.now e _ c.mark_part.ensures.0 _ (λ f i. absurd (not_named _ f i same)) (λ i. d.2.1) d.2.0 (ap length c.remaining-left.ensures.value) c.mark_part.ensures.1 c.mark_part.ensures.2;
        listed = tt;
      },
    )

-- ---- contents

pub decode_elements-loop-element-preserved : goal.decode_elements-loop-element-preserved
decode_elements-loop-element-preserved g t c =
    let i = c.loop-element.invariant.0 in
    let w = c.in_ok-decode_part.ensures.reads in (
      (
        i.0 ++ w.0 ∷ [],
        one_made _ c.loop-element.values.items _ i.0 c.decode_part.new.out w.0 i.1 w.1 c.in_ok-keep.ensures.appended.0,
        ap (λ n. n + 1) i.2 ∙ sym (length-append i.0 (w.0 ∷ [])),
        passes_more (DecodesTree (shape_of_type c.args.types.now.list.now c.args.types.now.levels c.args.element.0)) c.loop-element.decoder _ w.0 c.loop-element-test.ensures w.2
            (λ e. c.in_ok-keep.ensures.appended.1 (e ∙ sym (ap length c.remaining-left.ensures.value))) c.args.decoder.now i.0 _ refl i.3,
      ),
      (λ k s v. each_more (FitsFrom s c.args.types.now.list.now c.args.types.now.levels c.args.element.0) c.loop-element.values.items _ c.decode_part.new.out (c.in_ok-keep.ensures.appended.0 k) (c.loop-element.invariant.1 k s v) (c.in_ok-decode_part.ensures.fits k s (covers_turns (shape_of_type c.args.types.now.list.now c.args.types.now.levels c.args.element.0) (λ (z : Tree). z) s c.args.decoder.now c.loop-element.decoder i.0 v i.3))),
      c.in_ok-decode_part.ensures.told,
      lists_more (λ b k. PartListed (shape_of_type c.args.types.now.list.now c.args.types.now.levels) c.args.types.now.levels (Inside c.args.types.now.list.now c.args.types.now.levels) c.args.element.0 k b) c.loop-element.count c.args.decoder.now c.loop-element.decoder _ _ _ _ c.loop-element.invariant.3 c.in_ok-decode_part.ensures.listed,
    )

pub decode_elements-returns-in_err-keep-clause-reads : goal.decode_elements-returns-in_err-keep-clause-reads
decode_elements-returns-in_err-keep-clause-reads g t c =
    let i = c.loop-element.invariant.0 in
    let w = c.in_ok-decode_part.ensures.reads in
    let k = call_keeps w.2 in
    let e = c.keep.new.error in
    let at : length c.remaining-left.result.now ≡ length c.loop-element.decoder.rest = ap length c.remaining-left.ensures.value in
    rw (residual _ c.from_residual-in_err-keep.ensures.1) (
      i.0,
      c.loop-element.decoder,
      i.3,
      c.loop-element-test.ensures,
      inr (
        w.0,
        w.2,
        elim c.in_err-keep.ensures.appended [
          | inl p ↦ inl (p.0 ∙ at, subst (λ n. IsErrorOf (UnexpectedExtraData n) c.loop-element.decoder e) at (rules_same c.loop-element.decoder _ (UnexpectedExtraData _) e k p.1))
          | inr q ↦ inr (rules_same c.loop-element.decoder _ OutOfMemory e k q)
        ],
      ),
    )

pub decode_elements-returns-in_err-decode_part-clause-reads : goal.decode_elements-returns-in_err-decode_part-clause-reads
decode_elements-returns-in_err-decode_part-clause-reads g t c =
    let i = c.loop-element.invariant.0 in
    rw (residual _ c.from_residual.ensures.1) (i.0, c.loop-element.decoder, i.3, c.loop-element-test.ensures, inl c.in_err-decode_part.ensures.reads)

pub decode_elements-returns-clause-reads : goal.decode_elements-returns-clause-reads
decode_elements-returns-clause-reads g t c =
    let i = c.loop-element.invariant.0 in (i.0, i.1, i.2, (i.3, c.loop-element-test.ensures))

pub decode_elements-overflow_add-count : goal.decode_elements-overflow_add-count
decode_elements-overflow_add-count g t c =
    let i = c.loop-element.invariant.0 in
    let w = c.in_ok-decode_part.ensures.reads in
    let n = turns_long (shape_of_type c.args.types.now.list.now c.args.types.now.levels c.args.element.0) (λ (z : Tree). z) c.args.decoder.now i.0 c.loop-element.decoder i.3 in
    let m = one_taken c.loop-element.decoder.rest w.2.end.0 _ w.2.end.1 (λ e. c.in_ok-keep.ensures.appended.1 (e ∙ sym (ap length c.remaining-left.ensures.value))) in
    let l = i.2 in
    omega (arith, l, n, m, c.requires.short)

pub decode_elements-loop-element-init : goal.decode_elements-loop-element-init
decode_elements-loop-element-init g t c = rw c.requires.empty (([], (λ k. refl), refl, refl), (λ k s v. tt), c.requires.clear, lists_start (λ b k. PartListed (shape_of_type c.args.types.now.list.now c.args.types.now.levels) c.args.types.now.levels (Inside c.args.types.now.list.now c.args.types.now.levels) c.args.element.0 k b) _ c.args.decoder.now _ refl)

pub decode_elements-returns-clause-told : goal.decode_elements-returns-clause-told
decode_elements-returns-clause-told g t c = c.loop-element.invariant.2

pub decode_elements-returns-clause-fits : goal.decode_elements-returns-clause-fits
decode_elements-returns-clause-fits g t c = c.loop-element.invariant.1

pub decode_elements-loop-element-smaller : goal.decode_elements-loop-element-smaller
decode_elements-loop-element-smaller g t c = shorter _ _ c.in_ok-decode_part.ensures.reads.2.end (λ e. c.in_ok-keep.ensures.appended.1 (e ∙ sym (ap length c.remaining-left.ensures.value)))

pub decode_elements-returns-in_err-decode_part-clause-rules : goal.decode_elements-returns-in_err-decode_part-clause-rules
decode_elements-returns-in_err-decode_part-clause-rules g t c = rw (residual _ c.from_residual.ensures.1) (c.in_err-decode_part.ensures.rules ∙ turn_rules (shape_of_type c.args.types.now.list.now c.args.types.now.levels c.args.element.0) (λ (z : Tree). z) _ _ _ c.loop-element.invariant.0.3)

pub decode_elements-returns-in_err-keep-clause-rules : goal.decode_elements-returns-in_err-keep-clause-rules
decode_elements-returns-in_err-keep-clause-rules g t c = rw (residual _ c.from_residual-in_err-keep.ensures.1) (c.in_err-keep.ensures.rules ∙ same_rules c.in_ok-decode_part.ensures.reads.2.stays ∙ turn_rules (shape_of_type c.args.types.now.list.now c.args.types.now.levels c.args.element.0) (λ (z : Tree). z) _ _ _ c.loop-element.invariant.0.3)

pub decode_elements_in_order-loop-last-init : goal.decode_elements_in_order-loop-last-init
decode_elements_in_order-loop-last-init g t c = rw c.requires.empty (([], [], (λ k. refl), refl, (refl, refl), (λ strict. tt), refl), (λ k s v. tt), c.requires.clear, lists_start (λ b k. PartListed (shape_of_type c.args.types.now.list.now c.args.types.now.levels) c.args.types.now.levels (Inside c.args.types.now.list.now c.args.types.now.levels) c.args.element.0 k b) _ c.args.decoder.now _ refl)

pub decode_elements_in_order-returns-clause-told : goal.decode_elements_in_order-returns-clause-told
decode_elements_in_order-returns-clause-told g t c = c.loop-last.invariant.2

pub decode_elements_in_order-returns-clause-fits : goal.decode_elements_in_order-returns-clause-fits
decode_elements_in_order-returns-clause-fits g t c = c.loop-last.invariant.1

pub decode_elements_in_order-loop-last-smaller : goal.decode_elements_in_order-loop-last-smaller
decode_elements_in_order-loop-last-smaller g t c = shorter _ _ c.in_ok-decode_part.ensures.reads.2.end (λ e. c.in_ok-keep.ensures.appended.1 (e ∙ sym (ap length c.remaining-start.ensures.value)))

pub decode_elements_in_order-returns-in_err-decode_part-clause-reads : goal.decode_elements_in_order-returns-in_err-decode_part-clause-reads
decode_elements_in_order-returns-in_err-decode_part-clause-reads g t c =
    let i = c.loop-last.invariant.0 in
    rw (residual _ c.from_residual.ensures.1) (i.0, i.1, c.loop-last.decoder, i.4, i.5, c.loop-last-test.ensures, inl (inl c.in_err-decode_part.ensures.reads))

pub decode_elements_in_order-returns-clause-reads : goal.decode_elements_in_order-returns-clause-reads
decode_elements_in_order-returns-clause-reads g t c =
    let i = c.loop-last.invariant.0 in (i.0, i.2, i.3, (i.1, i.4, i.5, c.loop-last-test.ensures))

pub decode_elements_in_order-overflow_add-count : goal.decode_elements_in_order-overflow_add-count
decode_elements_in_order-overflow_add-count g t c =
    let i = c.loop-last.invariant.0 in
    let w = c.in_ok-decode_part.ensures.reads in
    let p = forgotten (DecodesTree (shape_of_type c.args.types.now.list.now c.args.types.now.levels c.args.element.0)) c.args.decoder.now i.0 i.1 c.loop-last.decoder i.4 in
    let n = turns_long (shape_of_type c.args.types.now.list.now c.args.types.now.levels c.args.element.0) (λ (z : Tree). z) c.args.decoder.now i.0 c.loop-last.decoder p in
    let m = one_taken c.loop-last.decoder.rest w.2.end.0 _ w.2.end.1 (λ e. c.in_ok-keep.ensures.appended.1 (e ∙ sym (ap length c.remaining-start.ensures.value))) in
    let l = i.3 in
    omega (arith, l, n, m, c.requires.short)

-- ---- elements in order

pub decode_elements_in_order-returns-in_err-keep-clause-reads : goal.decode_elements_in_order-returns-in_err-keep-clause-reads
decode_elements_in_order-returns-in_err-keep-clause-reads g t c =
    let i = c.loop-last.invariant.0 in
    let w = c.in_ok-decode_part.ensures.reads in
    let k = call_keeps w.2 in
    let e = c.keep.new.error in
    let at : length c.remaining-start.result.now ≡ length c.loop-last.decoder.rest = ap length c.remaining-start.ensures.value in
    rw (residual _ c.from_residual-in_err-keep.ensures.1) (
      i.0,
      i.1,
      c.loop-last.decoder,
      i.4,
      i.5,
      c.loop-last-test.ensures,
      inl (inr (
        w.0,
        w.2,
        elim c.in_err-keep.ensures.appended [
          | inl p ↦ inl (p.0 ∙ at, subst (λ n. IsErrorOf (UnexpectedExtraData n) c.loop-last.decoder e) at (rules_same c.loop-last.decoder _ (UnexpectedExtraData (length c.remaining-start.result.now)) e k p.1))
          | inr q ↦ inr (rules_same c.loop-last.decoder _ OutOfMemory e k q)
        ],
      )),
    )

pub decode_elements_in_order-returns-then-is_less-clause-reads : goal.decode_elements_in_order-returns-then-is_less-clause-reads
decode_elements_in_order-returns-then-is_less-clause-reads g t c =
    let i = c.loop-last.invariant.0 in
    let w = c.in_ok-decode_part.ensures.reads in
    let k = call_keeps w.2 in (
      i.0,
      i.1,
      c.loop-last.decoder,
      i.4,
      i.5,
      c.loop-last-test.ensures,
      inr (
        w.0,
        c.octets_before-octets.result.now,
        w.2,
        rw (← c.remaining-start.ensures.value, ← c.remaining.ensures.value) c.octets_before-octets.ensures,
        (λ e. c.in_ok-keep.ensures.appended.1 (e ∙ sym (ap length c.remaining-start.ensures.value))),
        strict_before c.loop-last.decoder _ k c.if-is_strict.ensures,
        out_of_order i.1 c.loop-last.last.now c.octets_before-octets.result.now i.6 c.if-is_less.ensures,
        rules_same c.loop-last.decoder _ (Der SetOfOutOfOrder) c.refuse_order.new.error k c.refuse_order.ensures,
      ),
    )

pub decode_elements_in_order-loop-last-preserved : goal.decode_elements_in_order-loop-last-preserved
decode_elements_in_order-loop-last-preserved g t c =
    let i = c.loop-last.invariant.0 in
    let w = c.in_ok-decode_part.ensures.reads in
    let k = call_keeps w.2 in
    let strict_here : IsStrict c.args.decoder.now.rule → IsStrict c.loop-last.decoder.rule = λ h.
    subst (λ (s : State). IsStrict s.rule) (sym (came_stays (shape_of_type c.args.types.now.list.now c.args.types.now.levels c.args.element.0) (λ (z : Tree). z) c.args.decoder.now c.loop-last.decoder i.0 i.1 i.4)) h in
    let not_less : IsStrict c.args.decoder.now.rule → IsLess c.octets_before-octets.result.now c.loop-last.last.now → ⊥ = λ s h. elim c.else-is_strict.branch [
      | decode_elements_in_order-else-is_strict-via-then-is_strict+else-is_less x ↦ x.if-is_less.ensures h
      | decode_elements_in_order-else-is_strict-via-else-is_strict x ↦ x.if-is_strict.ensures (strict_after c.loop-last.decoder _ k (strict_here s))
    ] in (
      (
        i.0 ++ w.0 ∷ [],
        i.1 ++ (c.octets_before-octets.result.now ∷ []),
        one_made _ c.loop-last.values.items _ i.0 c.decode_part.new.out w.0 i.2 w.1 c.in_ok-keep.ensures.appended.0,
        ap (λ n. n + 1) i.3 ∙ sym (length-append i.0 (w.0 ∷ [])),
        passes_from (DecodesTree (shape_of_type c.args.types.now.list.now c.args.types.now.levels c.args.element.0)) c.loop-last.decoder _ w.0 c.octets_before-octets.result.now
            (rw (← c.remaining-start.ensures.value, ← c.remaining.ensures.value) c.octets_before-octets.ensures) c.loop-last-test.ensures w.2
            (λ e. c.in_ok-keep.ensures.appended.1 (e ∙ sym (ap length c.remaining-start.ensures.value))) c.args.decoder.now i.0 _ i.1 refl i.4,
        (λ s. in_order i.1 c.loop-last.last.now c.octets_before-octets.result.now (i.5 s) i.6 (not_less s)),
        ends_more i.1 c.octets_before-octets.result.now,
      ),
      (λ q s v. each_more (FitsFrom s c.args.types.now.list.now c.args.types.now.levels c.args.element.0) c.loop-last.values.items _ c.decode_part.new.out (c.in_ok-keep.ensures.appended.0 q) (c.loop-last.invariant.1 q s v) (c.in_ok-decode_part.ensures.fits q s (covers_turns (shape_of_type c.args.types.now.list.now c.args.types.now.levels c.args.element.0) (λ (z : Tree). z) s c.args.decoder.now c.loop-last.decoder i.0 v (forgotten (DecodesTree (shape_of_type c.args.types.now.list.now c.args.types.now.levels c.args.element.0)) c.args.decoder.now i.0 i.1 c.loop-last.decoder i.4)))),
      c.in_ok-decode_part.ensures.told,
      lists_more (λ b k. PartListed (shape_of_type c.args.types.now.list.now c.args.types.now.levels) c.args.types.now.levels (Inside c.args.types.now.list.now c.args.types.now.levels) c.args.element.0 k b) c.loop-last.count c.args.decoder.now c.loop-last.decoder _ _ _ _ c.loop-last.invariant.3 c.in_ok-decode_part.ensures.listed,
    )

pub decode_elements_in_order-returns-in_err-decode_part-clause-rules : goal.decode_elements_in_order-returns-in_err-decode_part-clause-rules
decode_elements_in_order-returns-in_err-decode_part-clause-rules g t c = rw (residual _ c.from_residual.ensures.1) (c.in_err-decode_part.ensures.rules ∙ same_rules (came_stays (shape_of_type c.args.types.now.list.now c.args.types.now.levels c.args.element.0) (λ (z : Tree). z) c.args.decoder.now c.loop-last.decoder c.loop-last.invariant.0.0 c.loop-last.invariant.0.1 c.loop-last.invariant.0.4))

pub decode_elements_in_order-returns-in_err-keep-clause-rules : goal.decode_elements_in_order-returns-in_err-keep-clause-rules
decode_elements_in_order-returns-in_err-keep-clause-rules g t c = rw (residual _ c.from_residual-in_err-keep.ensures.1) (c.in_err-keep.ensures.rules ∙ same_rules c.in_ok-decode_part.ensures.reads.2.stays ∙ same_rules (came_stays (shape_of_type c.args.types.now.list.now c.args.types.now.levels c.args.element.0) (λ (z : Tree). z) c.args.decoder.now c.loop-last.decoder c.loop-last.invariant.0.0 c.loop-last.invariant.0.1 c.loop-last.invariant.0.4))

pub decode_elements_in_order-returns-then-is_less-clause-rules : goal.decode_elements_in_order-returns-then-is_less-clause-rules
decode_elements_in_order-returns-then-is_less-clause-rules g t c = codec_is c.refuse_order.ensures ∙ same_rules c.in_ok-decode_part.ensures.reads.2.stays ∙ same_rules (came_stays (shape_of_type c.args.types.now.list.now c.args.types.now.levels c.args.element.0) (λ (z : Tree). z) c.args.decoder.now c.loop-last.decoder c.loop-last.invariant.0.0 c.loop-last.invariant.0.1 c.loop-last.invariant.0.4)

-- ---- components

pub decode_component-returns-then-is_always_there-clause-reads : goal.decode_component-returns-then-is_always_there-clause-reads
decode_component-returns-then-is_always_there-clause-reads g t c =
    made_as _ tree_of (DecodesPresent (presence_in (shape_of_type c.args.types.now.list.now c.args.types.now.levels) c.args.component.now) ((shape_of_type c.args.types.now.list.now c.args.types.now.levels) c.args.component.now.type_id.0)) (DecodesComponent (presence_in (shape_of_type c.args.types.now.list.now c.args.types.now.levels) c.args.component.now) ((shape_of_type c.args.types.now.list.now c.args.types.now.levels) c.args.component.now.type_id.0)) c.args.decoder.now _ _ (λ q h. always ((shape_of_type c.args.types.now.list.now c.args.types.now.levels) c.args.component.now.type_id.0) _ (presence_in (shape_of_type c.args.types.now.list.now c.args.types.now.levels) c.args.component.now) (always_by own_tag (key_of ((shape_of_type c.args.types.now.list.now c.args.types.now.levels) c.args.component.now.type_id.0)) c.args.component.now.presence c.if-is_always_there.ensures) q _ h) c.decode_present.ensures.reads

pub decode_component-returns-then-is_always_there-clause-fits : goal.decode_component-returns-then-is_always_there-clause-fits
decode_component-returns-then-is_always_there-clause-fits g t c = λ k s v. if_ok _ _ _ (λ w h. inr h) (c.decode_present.ensures.fits k s v)

pub decode_component-returns-in-Ok-true-clause-reads : goal.decode_component-returns-in-Ok-true-clause-reads
decode_component-returns-in-Ok-true-clause-reads g t c =
    made_as _ tree_of (DecodesPresent (presence_in (shape_of_type c.args.types.now.list.now c.args.types.now.levels) c.args.component.now) ((shape_of_type c.args.types.now.list.now c.args.types.now.levels) c.args.component.now.type_id.0)) (DecodesComponent (presence_in (shape_of_type c.args.types.now.list.now c.args.types.now.levels) c.args.component.now) ((shape_of_type c.args.types.now.list.now c.args.types.now.levels) c.args.component.now.type_id.0)) c.args.decoder.now _ _ (λ q h. looked ((shape_of_type c.args.types.now.list.now c.args.types.now.levels) c.args.component.now.type_id.0) _ (presence_in (shape_of_type c.args.types.now.list.now c.args.types.now.levels) c.args.component.now) (λ a. c.if-is_always_there.ensures (always_by (key_of ((shape_of_type c.args.types.now.list.now c.args.types.now.levels) c.args.component.now.type_id.0)) own_tag c.args.component.now.presence a)) (let w = c.in-Ok-true.field-0-test in let h : c.in-Ok-true.field-0 ≡ true = cc in next_of (key_of ((shape_of_type c.args.types.now.list.now c.args.types.now.levels) c.args.component.now.type_id.0)) ((shape_of_type c.args.types.now.list.now c.args.types.now.levels) c.args.component.now.type_id.0) c.args.component.now.presence c.args.decoder.now (Ok true) c.if-is_always_there.ensures (subst (λ b. NextIs (sought_by (key_of ((shape_of_type c.args.types.now.list.now c.args.types.now.levels) c.args.component.now.type_id.0)) ((shape_of_type c.args.types.now.list.now c.args.types.now.levels) c.args.component.now.type_id.0)) c.args.decoder.now (Ok b)) h c.in-Ok-true.ensures)) q _ h) c.decode_present-in-Ok-true.ensures.reads

pub decode_component-returns-in-Ok-true-clause-fits : goal.decode_component-returns-in-Ok-true-clause-fits
decode_component-returns-in-Ok-true-clause-fits g t c = λ k s v. if_ok _ _ _ (λ w h. inr h) (c.decode_present-in-Ok-true.ensures.fits k s v)

pub decode_component-put_missing-requires : goal.decode_component-put_missing-requires
decode_component-put_missing-requires g t c = not_required c.args.component.now.presence c.if-is_always_there.ensures

pub decode_component-returns-in-Ok-false-clause-reads : goal.decode_component-returns-in-Ok-false-clause-reads
decode_component-returns-in-Ok-false-clause-reads g t c = made ((shape_of_type c.args.types.now.list.now c.args.types.now.levels) c.args.component.now.type_id.0) _ _ (presence_in (shape_of_type c.args.types.now.list.now c.args.types.now.levels) c.args.component.now) (λ a. c.if-is_always_there.ensures (always_by (key_of ((shape_of_type c.args.types.now.list.now c.args.types.now.levels) c.args.component.now.type_id.0)) own_tag c.args.component.now.presence a)) (let w = c.in-Ok-false.field-0-test in let h : c.in-Ok-false.field-0 ≡ false = cc in next_of (key_of ((shape_of_type c.args.types.now.list.now c.args.types.now.levels) c.args.component.now.type_id.0)) ((shape_of_type c.args.types.now.list.now c.args.types.now.levels) c.args.component.now.type_id.0) c.args.component.now.presence c.args.decoder.now (Ok false) c.if-is_always_there.ensures (subst (λ b. NextIs (sought_by (key_of ((shape_of_type c.args.types.now.list.now c.args.types.now.levels) c.args.component.now.type_id.0)) ((shape_of_type c.args.types.now.list.now c.args.types.now.levels) c.args.component.now.type_id.0)) c.args.decoder.now (Ok b)) h c.in-Ok-false.ensures)) _ (made_of _ (key_of ((shape_of_type c.args.types.now.list.now c.args.types.now.levels) c.args.component.now.type_id.0)) c.args.component.now.presence c.args.decoder.now _ c.put_missing.ensures.made)

pub decode_component-returns-in-Ok-false-clause-fits : goal.decode_component-returns-in-Ok-false-clause-fits
decode_component-returns-in-Ok-false-clause-fits g t c = λ k s v. made_fits (FitsFrom s c.args.types.now.list.now c.args.types.now.levels) _ k c.args.component.now c.args.decoder.now _ c.put_missing.ensures.made

pub decode_component-returns-in-Err-clause-reads : goal.decode_component-returns-in-Err-clause-reads
decode_component-returns-in-Err-clause-reads g t c = unread ((shape_of_type c.args.types.now.list.now c.args.types.now.levels) c.args.component.now.type_id.0) _ (presence_in (shape_of_type c.args.types.now.list.now c.args.types.now.levels) c.args.component.now) (λ a. c.if-is_always_there.ensures (always_by (key_of ((shape_of_type c.args.types.now.list.now c.args.types.now.levels) c.args.component.now.type_id.0)) own_tag c.args.component.now.presence a)) c.follows.new.error (next_of (key_of ((shape_of_type c.args.types.now.list.now c.args.types.now.levels) c.args.component.now.type_id.0)) ((shape_of_type c.args.types.now.list.now c.args.types.now.levels) c.args.component.now.type_id.0) c.args.component.now.presence c.args.decoder.now (Err c.follows.new.error) c.if-is_always_there.ensures c.in-Err.ensures)

pub decode_component-returns-then-is_always_there-clause-fails : goal.decode_component-returns-then-is_always_there-clause-fails
decode_component-returns-then-is_always_there-clause-fails g t c =
    made_fails_as _ tree_of (DecodesPresent (presence_in (shape_of_type c.args.types.now.list.now c.args.types.now.levels) c.args.component.now) ((shape_of_type c.args.types.now.list.now c.args.types.now.levels) c.args.component.now.type_id.0)) c.args.decoder.now _ _ (λ q h. always_fails ((shape_of_type c.args.types.now.list.now c.args.types.now.levels) c.args.component.now.type_id.0) _ (presence_in (shape_of_type c.args.types.now.list.now c.args.types.now.levels) c.args.component.now) (always_by own_tag (key_of ((shape_of_type c.args.types.now.list.now c.args.types.now.levels) c.args.component.now.type_id.0)) c.args.component.now.presence c.if-is_always_there.ensures) q _ h) c.decode_present.ensures.reads

pub decode_component-returns-in-Ok-true-clause-fails : goal.decode_component-returns-in-Ok-true-clause-fails
decode_component-returns-in-Ok-true-clause-fails g t c =
    made_fails_as _ tree_of (DecodesPresent (presence_in (shape_of_type c.args.types.now.list.now c.args.types.now.levels) c.args.component.now) ((shape_of_type c.args.types.now.list.now c.args.types.now.levels) c.args.component.now.type_id.0)) c.args.decoder.now _ _ (λ q h. looked_fails ((shape_of_type c.args.types.now.list.now c.args.types.now.levels) c.args.component.now.type_id.0) _ (presence_in (shape_of_type c.args.types.now.list.now c.args.types.now.levels) c.args.component.now) (λ a. c.if-is_always_there.ensures (always_by (key_of ((shape_of_type c.args.types.now.list.now c.args.types.now.levels) c.args.component.now.type_id.0)) own_tag c.args.component.now.presence a)) (let w = c.in-Ok-true.field-0-test in let h : c.in-Ok-true.field-0 ≡ true = cc in next_of (key_of ((shape_of_type c.args.types.now.list.now c.args.types.now.levels) c.args.component.now.type_id.0)) ((shape_of_type c.args.types.now.list.now c.args.types.now.levels) c.args.component.now.type_id.0) c.args.component.now.presence c.args.decoder.now (Ok true) c.if-is_always_there.ensures (subst (λ b. NextIs (sought_by (key_of ((shape_of_type c.args.types.now.list.now c.args.types.now.levels) c.args.component.now.type_id.0)) ((shape_of_type c.args.types.now.list.now c.args.types.now.levels) c.args.component.now.type_id.0)) c.args.decoder.now (Ok b)) h c.in-Ok-true.ensures)) q _ h) c.decode_present-in-Ok-true.ensures.reads

pub decode_component-returns-in-Ok-false-clause-fails : goal.decode_component-returns-in-Ok-false-clause-fails
decode_component-returns-in-Ok-false-clause-fails g t c = made_fails ((shape_of_type c.args.types.now.list.now c.args.types.now.levels) c.args.component.now.type_id.0) _ _ (presence_in (shape_of_type c.args.types.now.list.now c.args.types.now.levels) c.args.component.now) (λ a. c.if-is_always_there.ensures (always_by (key_of ((shape_of_type c.args.types.now.list.now c.args.types.now.levels) c.args.component.now.type_id.0)) own_tag c.args.component.now.presence a)) (let w = c.in-Ok-false.field-0-test in let h : c.in-Ok-false.field-0 ≡ false = cc in next_of (key_of ((shape_of_type c.args.types.now.list.now c.args.types.now.levels) c.args.component.now.type_id.0)) ((shape_of_type c.args.types.now.list.now c.args.types.now.levels) c.args.component.now.type_id.0) c.args.component.now.presence c.args.decoder.now (Ok false) c.if-is_always_there.ensures (subst (λ b. NextIs (sought_by (key_of ((shape_of_type c.args.types.now.list.now c.args.types.now.levels) c.args.component.now.type_id.0)) ((shape_of_type c.args.types.now.list.now c.args.types.now.levels) c.args.component.now.type_id.0)) c.args.decoder.now (Ok b)) h c.in-Ok-false.ensures)) _ (made_of _ (key_of ((shape_of_type c.args.types.now.list.now c.args.types.now.levels) c.args.component.now.type_id.0)) c.args.component.now.presence c.args.decoder.now _ c.put_missing.ensures.made)

pub decode_component-returns-in-Err-clause-fails : goal.decode_component-returns-in-Err-clause-fails
decode_component-returns-in-Err-clause-fails g t c = unread_fails ((shape_of_type c.args.types.now.list.now c.args.types.now.levels) c.args.component.now.type_id.0) _ (presence_in (shape_of_type c.args.types.now.list.now c.args.types.now.levels) c.args.component.now) (λ a. c.if-is_always_there.ensures (always_by (key_of ((shape_of_type c.args.types.now.list.now c.args.types.now.levels) c.args.component.now.type_id.0)) own_tag c.args.component.now.presence a)) c.follows.new.error (next_of (key_of ((shape_of_type c.args.types.now.list.now c.args.types.now.levels) c.args.component.now.type_id.0)) ((shape_of_type c.args.types.now.list.now c.args.types.now.levels) c.args.component.now.type_id.0) c.args.component.now.presence c.args.decoder.now (Err c.follows.new.error) c.if-is_always_there.ensures c.in-Err.ensures)

pub decode_component-returns-in-Err-clause-rules : goal.decode_component-returns-in-Err-clause-rules
decode_component-returns-in-Err-clause-rules g t c = look_rules (sought_by (key_of ((shape_of_type c.args.types.now.list.now c.args.types.now.levels) c.args.component.now.type_id.0)) ((shape_of_type c.args.types.now.list.now c.args.types.now.levels) c.args.component.now.type_id.0)) c.args.decoder.now _ c.in-Err.ensures

pub decode_present-returns-in_default-clause-reads : goal.decode_present-returns-in_default-clause-reads
decode_present-returns-in_default-clause-reads g t c =
    made_as _ tree_of (DecodesTree ((shape_of_type c.args.types.now.list.now c.args.types.now.levels) c.args.component.now.type_id.0)) (DecodesPresent (presence_in (shape_of_type c.args.types.now.list.now c.args.types.now.levels) c.args.component.now) ((shape_of_type c.args.types.now.list.now c.args.types.now.levels) c.args.component.now.type_id.0)) c.args.decoder.now _ _ (λ r h. plain (key_of ((shape_of_type c.args.types.now.list.now c.args.types.now.levels) c.args.component.now.type_id.0)) ((shape_of_type c.args.types.now.list.now c.args.types.now.levels) c.args.component.now.type_id.0) c.args.component.now.presence _ _ c.in_default.not-Default r h) c.decode_part.ensures.reads

pub decode_present-returns-in_err-decode_compared-clause-reads : goal.decode_present-returns-in_err-decode_compared-clause-reads
decode_present-returns-in_err-decode_compared-clause-reads g t c = rw (residual _ c.from_residual.ensures.1) (inl c.in_err-decode_compared.ensures.reads)

pub decode_present-returns-then-not-is_strict-clause-reads : goal.decode_present-returns-then-not-is_strict-clause-reads
decode_present-returns-then-not-is_strict-clause-reads g t c =
    made_as _ tree_of (DecodesTree ((shape_of_type c.args.types.now.list.now c.args.types.now.levels) c.args.component.now.type_id.0)) (DecodesPresent (presence_in (shape_of_type c.args.types.now.list.now c.args.types.now.levels) c.args.component.now) ((shape_of_type c.args.types.now.list.now c.args.types.now.levels) c.args.component.now.type_id.0)) c.args.decoder.now _ _ (λ r h. loose (key_of ((shape_of_type c.args.types.now.list.now c.args.types.now.levels) c.args.component.now.type_id.0)) ((shape_of_type c.args.types.now.list.now c.args.types.now.levels) c.args.component.now.type_id.0) c.args.component.now.presence _ _ c.if-not-is_strict.ensures r h) c.decode_part-then-not-is_strict.ensures.reads

pub decode_present-returns-then-not-is_strict-clause-itself : goal.decode_present-returns-then-not-is_strict-clause-itself
decode_present-returns-then-not-is_strict-clause-itself g t c = named _ _ _ _ c.decode_part-then-not-is_strict.ensures.told

pub decode_present-returns-then-not-is_strict-clause-told : goal.decode_present-returns-then-not-is_strict-clause-told
decode_present-returns-then-not-is_strict-clause-told g t c = tells _ _ (λ k f i. i) _ _ c.decode_part-then-not-is_strict.ensures.told

pub decode_present-returns-then-means_same-clause-reads : goal.decode_present-returns-then-means_same-clause-reads
decode_present-returns-then-means_same-clause-reads g t c =
    let w = c.in_ok-decode_compared.ensures.reads in
    default_is_written (key_of ((shape_of_type c.args.types.now.list.now c.args.types.now.levels) c.args.component.now.type_id.0)) ((shape_of_type c.args.types.now.list.now c.args.types.now.levels) c.args.component.now.type_id.0) c.args.component.now.presence c.in-Default.default c.in-Default.is _ _ w.0 w.2 c.if-not-is_strict.ensures (subst (λ z. Same z (tree_of c.in-Default.default)) (w.1 refl) (c.means_same.ensures.same c.if-means_same.true)) c.refuse_default.new.error c.refuse_default.ensures

pub decode_present-returns-then-means_same-clause-rules : goal.decode_present-returns-then-means_same-clause-rules
decode_present-returns-then-means_same-clause-rules g t c = codec_is c.refuse_default.ensures ∙ same_rules c.in_ok-decode_compared.ensures.reads.2.stays

pub decode_present-returns-clause-reads : goal.decode_present-returns-clause-reads
decode_present-returns-clause-reads g t c =
    let w = c.in_ok-decode_compared.ensures.reads in
    (w.0, (λ k. w.1 refl), differs (key_of ((shape_of_type c.args.types.now.list.now c.args.types.now.levels) c.args.component.now.type_id.0)) ((shape_of_type c.args.types.now.list.now c.args.types.now.levels) c.args.component.now.type_id.0) c.args.component.now.presence c.in-Default.default c.in-Default.is _ _ w.0 w.2 (λ s. let h = c.means_same.ensures.equal (subst (λ z. Same z (tree_of c.in-Default.default)) (sym (w.1 refl)) s) in let f = c.if-means_same.false in cc))

pub decode_present-returns-clause-fits : goal.decode_present-returns-clause-fits
decode_present-returns-clause-fits g t c = λ k. c.in_ok-decode_compared.ensures.fits

-- ---- a part that has to be compared

pub decode_compared-decode_part-requires : goal.decode_compared-decode_part-requires
decode_compared-decode_part-requires g t c = λ κs o. (search rules, (search rules, (c.requires.lawful, c.in-None.ensures.reads.2)))

pub decode_compared-returns-in-None-clause-reads : goal.decode_compared-returns-in-None-clause-reads
decode_compared-returns-in-None-clause-reads g t c =
    let w = c.in-None.ensures.reads in
    let s = shape_of_type c.args.types.now.list.now c.args.types.now.levels c.args.id.0 in
    subst (λ k. Making k tree_of (DecodesTree s) c.args.decoder.now (outcome c.decode_part.result c.decode_part.new.out c.decode_part.new.walk.error) c.decode_part.new.decoder) w.0 (subst (λ z. Making g.M.Made.KEEP tree_of (DecodesTree s) z (outcome c.decode_part.result c.decode_part.new.out c.decode_part.new.walk.error) c.decode_part.new.decoder) w.1 c.decode_part.ensures.reads)

pub decode_compared-returns-in-None-clause-fits : goal.decode_compared-returns-in-None-clause-fits
decode_compared-returns-in-None-clause-fits g t c = λ s v. c.decode_part.ensures.fits c.in-None.ensures.reads.0 s (subst (Covers s) (sym c.in-None.ensures.reads.1) v)

pub decode_compared-returns-in-None-clause-rules : goal.decode_compared-returns-in-None-clause-rules
decode_compared-returns-in-None-clause-rules g t c = subst (λ (z : State). IfErr (outcome c.decode_part.result c.decode_part.new.out c.decode_part.new.walk.error) (λ e. e.codec ≡ z.rule)) c.in-None.ensures.reads.1 c.decode_part.ensures.rules

pub decode_compared-returns-in-None-clause-told : goal.decode_compared-returns-in-None-clause-told
decode_compared-returns-in-None-clause-told g t c = subst (λ (z : State). TellsOf (IsFaultIn c.args.types.now.list.now c.args.types.now.levels (IsOnly c.args.index c.args.id.0 z) z z) (outcome c.decode_part.result c.decode_part.new.out c.decode_part.new.walk.error) c.decode_part.new.walk.fault) c.in-None.ensures.reads.1 c.decode_part.ensures.told

-- ---- the components of a SEQUENCE

pub decode_components-returns-then-leaves_all_out-clause-reads : goal.decode_components-returns-then-leaves_all_out-clause-reads
decode_components-returns-then-leaves_all_out-clause-reads g t c =
    all_left_read (shape_of_type c.args.types.now.list.now c.args.types.now.levels) c.args.components.now c.args.decoder.now _ c.if-leaves_all_out.ensures _ c.put_all_absent.ensures.settled c.put_all_absent.ensures.memory

pub decode_components-put_all_absent-requires : goal.decode_components-put_all_absent-requires
decode_components-put_all_absent-requires g t c = c.if-leaves_all_out.ensures.0

pub decode_components-returns-then-leaves_all_out-clause-fits : goal.decode_components-returns-then-leaves_all_out-clause-fits
decode_components-returns-then-leaves_all_out-clause-fits g t c = λ k s v. all_left_fit (FitsFrom s c.args.types.now.list.now c.args.types.now.levels) c.args.components.now _ (c.put_all_absent.ensures.settled k)

pub decode_components-loop-rest-init : goal.decode_components-loop-rest-init
decode_components-loop-rest-init g t c = rw c.requires.empty (([], (λ k. refl), parts_start _ _), c.requires.lawful, (λ k s v us h. h), c.requires.clear, [], refl, refl, lists_start (λ b. ComponentAt (shape_of_type c.args.types.now.list.now c.args.types.now.levels) c.args.types.now.levels (Inside c.args.types.now.list.now c.args.types.now.levels) c.args.components.now b) _ c.args.decoder.now _ refl)

pub decode_components-overflow_sub-index : goal.decode_components-overflow_sub-index
decode_components-overflow_sub-index g t c =
    let k = c.loop-rest.invariant in
    let len : length c.args.components.now ≡ length k.4 + length c.loop-rest.rest.now = ap length k.5 ∙ length-append k.4 c.loop-rest.rest.now in
    omega (arith, len)

pub decode_components-returns-in_err-decode_component-clause-reads : goal.decode_components-returns-in_err-decode_component-clause-reads
decode_components-returns-in_err-decode_component-clause-reads g t c =
    rw (residual _ c.from_residual.ensures.1)
    (in_turn (shape_of_type c.args.types.now.list.now c.args.types.now.levels) c.args.components.now c.args.decoder.now c.if-leaves_all_out.ensures _ _
    (part_fails _ _ _ (presence_in (shape_of_type c.args.types.now.list.now c.args.types.now.levels) c.component-item.result) ((shape_of_type c.args.types.now.list.now c.args.types.now.levels) c.component-item.result.type_id.0) _ _ _ c.loop-rest.invariant.0.2 (ap (components_by (shape_of_type c.args.types.now.list.now c.args.types.now.levels)) (split c.loop-rest.rest.now _ c.in-len1-up.len_at_least c.component-item.is)) _ _ c.in_err-decode_component.ensures.reads))

pub decode_components-returns-in_err-take-clause-reads : goal.decode_components-returns-in_err-take-clause-reads
decode_components-returns-in_err-take-clause-reads g t c =
    rw (residual _ c.from_residual-in_err-take.ensures.1)
    (in_turn (shape_of_type c.args.types.now.list.now c.args.types.now.levels) c.args.components.now c.args.decoder.now c.if-leaves_all_out.ensures _ _
    (parts_run_out _ _ _ _ _ _ c.loop-rest.invariant.0.2 (record { stays = c.in_ok-decode_component.ensures.reads.2.stays; end = c.in_ok-decode_component.ensures.reads.2.end }) c.take.new.error c.in_err-take.ensures.kind))

pub decode_components-loop-rest-preserved : goal.decode_components-loop-rest-preserved
decode_components-loop-rest-preserved g t c =
    let at = split c.loop-rest.rest.now _ c.in-len1-up.len_at_least c.component-item.is in
    let e = ap (components_by (shape_of_type c.args.types.now.list.now c.args.types.now.levels)) at in
    let i = c.loop-rest.invariant.0 in
    let w = c.in_ok-decode_component.ensures.reads in (
      (
        i.0 ++ w.0 ∷ [],
        one_made _ c.loop-rest.values.items _ i.0 c.decode_component.new.out w.0 i.1 w.1 c.in_ok-take.ensures.ok,
        parts_more _ _ _ (presence_in (shape_of_type c.args.types.now.list.now c.args.types.now.levels) c.component-item.result) ((shape_of_type c.args.types.now.list.now c.args.types.now.levels) c.component-item.result.type_id.0) _ _ _ i.2 e w.0 _ _ refl w.2,
      ),
      (subst AreReadable e c.loop-rest.invariant.1).1,
      (λ k s v. fit_more (FitsFrom s c.args.types.now.list.now c.args.types.now.levels) _ _ _ c.component-item.result c.loop-rest.values.items _ c.decode_component.new.out (c.loop-rest.invariant.2 k s v) at (c.in_ok-take.ensures.ok k) (c.in_ok-decode_component.ensures.fits k s (covers_components (shape_of_type c.args.types.now.list.now c.args.types.now.levels) c.loop-rest.invariant.4 s c.args.decoder.now c.loop-rest.decoder v c.loop-rest.invariant.6))),
      c.in_ok-decode_component.ensures.told,
      c.loop-rest.invariant.4 ++ c.component-item.result ∷ [],
      c.loop-rest.invariant.5 ∙ ap (λ l. c.loop-rest.invariant.4 ++ l) at ∙ sym (append_assoc c.loop-rest.invariant.4 (c.component-item.result ∷ []) _),
      one_part_more (shape_of_type c.args.types.now.list.now c.args.types.now.levels) c.loop-rest.invariant.4 c.component-item.result c.args.decoder.now c.loop-rest.decoder _ w.0 c.loop-rest.invariant.6 w.2,
      component_more (shape_of_type c.args.types.now.list.now c.args.types.now.levels) c.args.types.now.levels (Inside c.args.types.now.list.now c.args.types.now.levels) c.args.components.now c.loop-rest.invariant.4 _ c.component-item.result (length c.args.components.now - length c.loop-rest.rest.now) c.args.decoder.now c.loop-rest.decoder _ _ _ _
          (c.loop-rest.invariant.5 ∙ ap (λ z. c.loop-rest.invariant.4 ++ z) at)
          (let len : length c.args.components.now ≡ length c.loop-rest.invariant.4 + length c.loop-rest.rest.now = ap length c.loop-rest.invariant.5 ∙ length-append c.loop-rest.invariant.4 c.loop-rest.rest.now in omega (arith, len))
          c.loop-rest.invariant.7 c.in_ok-decode_component.ensures.listed,
    )

pub decode_components-returns-clause-reads : goal.decode_components-returns-clause-reads
decode_components-returns-clause-reads g t c =
    let i = c.loop-rest.invariant.0 in (
      i.0,
      i.1,
      in_turn (shape_of_type c.args.types.now.list.now c.args.types.now.levels) c.args.components.now c.args.decoder.now c.if-leaves_all_out.ensures _ _ (parts_end _ _ _ _ _ i.2 (ap (components_by (shape_of_type c.args.types.now.list.now c.args.types.now.levels)) (nothing_left _ c.in_default.len_below))),
    )

pub decode_components-returns-clause-fits : goal.decode_components-returns-clause-fits
decode_components-returns-clause-fits g t c = λ k s v. fit_end (FitsFrom s c.args.types.now.list.now c.args.types.now.levels) _ _ _ (c.loop-rest.invariant.2 k s v) (nothing_left _ c.in_default.len_below)

pub decode_components-returns-then-leaves_all_out-clause-fails : goal.decode_components-returns-then-leaves_all_out-clause-fails
decode_components-returns-then-leaves_all_out-clause-fails g t c = if_err_map _ _ (λ e m. inr m) (outcome c.put_all_absent.result c.put_all_absent.new.values c.put_all_absent.new.error) c.put_all_absent.ensures.memory

pub decode_components-returns-in_err-decode_component-clause-fails : goal.decode_components-returns-in_err-decode_component-clause-fails
decode_components-returns-in_err-decode_component-clause-fails g t c = rw (residual _ c.from_residual.ensures.1) (inl (part_fails_at _ _ _ (presence_in (shape_of_type c.args.types.now.list.now c.args.types.now.levels) c.component-item.result) ((shape_of_type c.args.types.now.list.now c.args.types.now.levels) c.component-item.result.type_id.0) _ _ _ c.loop-rest.invariant.0.2 (ap (components_by (shape_of_type c.args.types.now.list.now c.args.types.now.levels)) (split c.loop-rest.rest.now _ c.in-len1-up.len_at_least c.component-item.is)) _ _ c.in_err-decode_component.ensures.fails))

pub decode_components-returns-in_err-take-clause-fails : goal.decode_components-returns-in_err-take-clause-fails
decode_components-returns-in_err-take-clause-fails g t c = rw (residual _ c.from_residual-in_err-take.ensures.1) (inr c.in_err-take.ensures.kind)

pub decode_components-returns-in_err-decode_component-clause-rules : goal.decode_components-returns-in_err-decode_component-clause-rules
decode_components-returns-in_err-decode_component-clause-rules g t c = rw (residual _ c.from_residual.ensures.1) (c.in_err-decode_component.ensures.rules ∙ same_rules c.loop-rest.invariant.0.2.keeps.stays)

pub decode_components-returns-in_err-take-clause-rules : goal.decode_components-returns-in_err-take-clause-rules
decode_components-returns-in_err-take-clause-rules g t c = rw (residual _ c.from_residual-in_err-take.ensures.1) (c.in_err-take.ensures.rules ∙ same_rules c.in_ok-decode_component.ensures.reads.2.stays ∙ same_rules c.loop-rest.invariant.0.2.keeps.stays)

-- ---- the components of a SET

pub decode_set_components-loop-last-init : goal.decode_set_components-loop-last-init
decode_set_components-loop-last-init g t c = (
  (
    held (nones c.args.members.now.components.now),
    [],
    nones_held _ c.args.members.now.components.now _ c.requires.none,
    (λ k. ap (map tree_of) c.new-unknown.ensures.items),
    none_read c.args.members.now.extensible (components_by (shape_of_type c.args.types.now.list.now c.args.types.now.levels) c.args.members.now.components.now) (names_of c.args.members.now.components.now) _ _ [] (nones_come (shape_of_type c.args.types.now.list.now c.args.types.now.levels) c.args.members.now.components.now (nones c.args.members.now.components.now) refl) refl,
    (λ x. refl),
  ),
  (λ s v. nones_fit _ c.args.members.now.components.now _ c.requires.none),
  (λ k. subst (EachFits AreOctets) (sym c.new-unknown.ensures.items) tt),
  c.requires.clear,
  0,
  lists_start (λ b k. MemberListed (shape_of_type c.args.types.now.list.now c.args.types.now.levels) c.args.types.now.levels (Inside c.args.types.now.list.now c.args.types.now.levels) c.args.members.now.extensible c.args.members.now.components.now c.args.members.now.other_id.0 b) 0 c.args.decoder.now _ refl,
)

pub decode_set_components-loop-last-smaller : goal.decode_set_components-loop-last-smaller
decode_set_components-loop-last-smaller g t c =
    let i = c.loop-last.invariant.0 in
    member_shorter _ c.args.members.now.extensible (components_by (shape_of_type c.args.types.now.list.now c.args.types.now.levels) c.args.members.now.components.now) (names_of c.args.members.now.components.now) c.loop-last.found.items c.decode_set_component.new.found.items c.loop-last.unknown.items c.decode_set_component.new.unknown.items i.0 i.1 c.loop-last.decoder _ _ i.2 i.3 c.in_ok-next.ensures.next

pub decode_set_components-returns-in_err-last-clause-exact : goal.decode_set_components-returns-in_err-last-clause-exact
decode_set_components-returns-in_err-last-clause-exact g t c =
    let at = c.loop-last in
    rw (residual _ c.from_residual.ensures.1) (inl (untold c.args.members.now.extensible (components_by (shape_of_type c.args.types.now.list.now c.args.types.now.levels) c.args.members.now.components.now) (names_of c.args.members.now.components.now) c.args.decoder.now at.decoder at.last at.twice _ _ at.invariant.0.4 items c.loop-last-test.ensures _ c.in_err-last.ensures))

pub decode_set_components-returns-in_err-next-clause-exact : goal.decode_set_components-returns-in_err-next-clause-exact
decode_set_components-returns-in_err-next-clause-exact g t c =
    let at = c.loop-last in
    let i = at.invariant.0 in
    let w = c.in_err-next.ensures.next i.0 i.1 i.2 i.3 in
    rw (residual _ c.from_residual-in_err-next.ensures.1)
    (inl (next_fails c.args.members.now.extensible (components_by (shape_of_type c.args.types.now.list.now c.args.types.now.levels) c.args.members.now.components.now) (names_of c.args.members.now.components.now) c.args.decoder.now at.decoder at.last at.twice _ _ i.4 items c.loop-last-test.ensures _ c.in_ok-last.ensures _ _ w.0 w.1 w.4))

pub decode_set_components-loop-last-preserved : goal.decode_set_components-loop-last-preserved
decode_set_components-loop-last-preserved g t c =
    let at = c.loop-last in
    let i = at.invariant.0 in
    let w = c.in_ok-next.ensures.next i.0 i.1 i.2 i.3 in (
      (
        w.0,
        w.1,
        w.2,
        w.3,
        rw c.or-twice.ensures (next_passes c.args.members.now.extensible (components_by (shape_of_type c.args.types.now.list.now c.args.types.now.levels) c.args.members.now.components.now) (names_of c.args.members.now.components.now) c.args.decoder.now at.decoder at.last at.twice _ _ i.4 c.loop-last-test.ensures _ c.in_ok-last.ensures _ _ _ _ w.4),
        none_unknown c.args.members.now.extensible (components_by (shape_of_type c.args.types.now.list.now c.args.types.now.levels) c.args.members.now.components.now) (names_of c.args.members.now.components.now) i.0 w.0 i.1 w.1 at.decoder _ _ w.4 i.5,
      ),
      (λ s v. c.in_ok-next.ensures.found s (covers_after s c.args.decoder.now at.decoder v (members_keep c.args.members.now.extensible (components_by (shape_of_type c.args.types.now.list.now c.args.types.now.levels) c.args.members.now.components.now) (names_of c.args.members.now.components.now) c.args.decoder.now at.decoder at.last i.0 i.1 at.twice i.4)) (at.invariant.1 s v)),
      (λ k. c.in_ok-next.ensures.octets k (at.invariant.2 k)),
      c.in_ok-next.ensures.told,
      at.invariant.4 + 1,
      lists_more (λ b k. MemberListed (shape_of_type c.args.types.now.list.now c.args.types.now.levels) c.args.types.now.levels (Inside c.args.types.now.list.now c.args.types.now.levels) c.args.members.now.extensible c.args.members.now.components.now c.args.members.now.other_id.0 b) at.invariant.4 c.args.decoder.now at.decoder _ _ _ _ at.invariant.5 c.in_ok-next.ensures.listed,
    )

pub decode_set_components-returns-in-Some-clause-exact : goal.decode_set_components-returns-in-Some-clause-exact
decode_set_components-returns-in-Some-clause-exact g t c =
    let at = c.loop-last in
    let i = at.invariant.0 in
    let ps = (components_by (shape_of_type c.args.types.now.list.now c.args.types.now.levels) c.args.members.now.components.now) in
    let names = names_of c.args.members.now.components.now in
    let h : at.twice ≡ Some c.in-Some.repeated = search rules in
    inl (one_twice c.args.members.now.extensible ps names items c.args.decoder.now at.decoder at.last i.0 i.1 c.loop-last-test.ensures c.in-Some.repeated
    (subst (λ z. ReadTo c.args.members.now.extensible ps names c.args.decoder.now at.decoder at.last z i.0 i.1) h i.4) _
    (subst (λ z. IsNamedError (IsDuplicateField (text c.in-Some.repeated)) z c.duplicate_field.result) c.codec.ensures c.duplicate_field.ensures))

pub decode_set_components-decode_set_component-requires : goal.decode_set_components-decode_set_component-requires
decode_set_components-decode_set_component-requires g t c = λ κs o. (search rules, (search rules, (c.requires.lawful, (found_length _ c.args.members.now.components.now _ (c.loop-last.invariant.1 c.args.decoder.now (covers_itself c.args.decoder.now)), (c.loop-last.invariant.3, c.requires.other)))))

pub decode_set_components-gather-requires : goal.decode_set_components-gather-requires
decode_set_components-gather-requires g t c = found_length _ c.args.members.now.components.now _ (c.loop-last.invariant.1 c.args.decoder.now (covers_itself c.args.decoder.now))

pub decode_set_components-returns-in_err-values-clause-exact : goal.decode_set_components-returns-in_err-values-clause-exact
decode_set_components-returns-in_err-values-clause-exact g t c =
    let at = c.loop-last in
    let i = at.invariant.0 in
    let ps = (components_by (shape_of_type c.args.types.now.list.now c.args.types.now.levels) c.args.members.now.components.now) in
    let names = names_of c.args.members.now.components.now in
    let h : at.twice ≡ None = search rules in
    rw (residual _ c.from_residual-in_err-values.ensures.1)
    (members_lack c.args.members.now.extensible ps names c.args.decoder.now at.decoder at.last i.0 i.1 c.loop-last-test.ensures (subst (λ z. ReadTo c.args.members.now.extensible ps names c.args.decoder.now at.decoder at.last z i.0 i.1) h i.4) _
    (lacks_part _ (shape_of_type c.args.types.now.list.now c.args.types.now.levels) c.args.members.now.components.now at.decoder.rule at.found.items i.0 _ i.2 (subst (λ z. Gathers g.M.Made.KEEP c.args.members.now.components.now c.loop-last.decoder.rule c.loop-last.found.items z) (sym c.in_err-values.ensures) c.gather.ensures.gathers)))

pub decode_set_components-returns-in_err-take-clause-exact : goal.decode_set_components-returns-in_err-take-clause-exact
decode_set_components-returns-in_err-take-clause-exact g t c =
    let at = c.loop-last in
    let i = at.invariant.0 in
    let ps = (components_by (shape_of_type c.args.types.now.list.now c.args.types.now.levels) c.args.members.now.components.now) in
    let names = names_of c.args.members.now.components.now in
    rw (residual _ c.from_residual-in_err-take.ensures.1)
    (inr (c.in_err-take.ensures.kind, members_keep c.args.members.now.extensible ps names c.args.decoder.now at.decoder at.last i.0 i.1 at.twice i.4))

pub decode_set_components-returns-clause-exact : goal.decode_set_components-returns-clause-exact
decode_set_components-returns-clause-exact g t c =
    let on : c.args.members.now.extensible ≡ true = search rules in
    let at = c.loop-last in
    let i = at.invariant.0 in
    let ps = components_by (shape_of_type c.args.types.now.list.now c.args.types.now.levels) c.args.members.now.components.now in
    let names = names_of c.args.members.now.components.now in
    let h : at.twice ≡ None = search rules in
    let m = made_parts _ (shape_of_type c.args.types.now.list.now c.args.types.now.levels) c.args.members.now.components.now at.decoder.rule at.found.items i.0 c.in_ok-values.values (found_length _ c.args.members.now.components.now _ (at.invariant.1 c.args.decoder.now (covers_itself c.args.decoder.now))) i.2 (subst (λ z. Gathers g.M.Made.KEEP c.args.members.now.components.now c.loop-last.decoder.rule c.loop-last.found.items z) (sym c.in_ok-values.ensures) c.gather.ensures.gathers) in (
      set_trees c.args.members.now.extensible m.0 i.1,
      all_trees c.args.members.now.extensible _ c.in_ok-values.values.items c.take.new.values.items m.0 i.1 at.unknown m.1 i.3 (λ e k. c.in_ok-take.ensures.ok k) (λ e. absurd (true≢false (sym on ∙ e))),
      members_made c.args.members.now.extensible ps names c.args.decoder.now at.decoder at.last i.0 i.1 c.loop-last-test.ensures (subst (λ z. ReadTo c.args.members.now.extensible ps names c.args.decoder.now at.decoder at.last z i.0 i.1) h i.4) m.0 m.2 i.5,
    )

pub decode_set_components-returns-then-not-members-clause-exact : goal.decode_set_components-returns-then-not-members-clause-exact
decode_set_components-returns-then-not-members-clause-exact g t c =
    let off : c.args.members.now.extensible ≡ false = search rules in
    let at = c.loop-last in
    let i = at.invariant.0 in
    let ps = components_by (shape_of_type c.args.types.now.list.now c.args.types.now.levels) c.args.members.now.components.now in
    let names = names_of c.args.members.now.components.now in
    let h : at.twice ≡ None = search rules in
    let m = made_parts _ (shape_of_type c.args.types.now.list.now c.args.types.now.levels) c.args.members.now.components.now at.decoder.rule at.found.items i.0 c.in_ok-values.values (found_length _ c.args.members.now.components.now _ (at.invariant.1 c.args.decoder.now (covers_itself c.args.decoder.now))) i.2 (subst (λ z. Gathers g.M.Made.KEEP c.args.members.now.components.now c.loop-last.decoder.rule c.loop-last.found.items z) (sym c.in_ok-values.ensures) c.gather.ensures.gathers) in (
      set_trees c.args.members.now.extensible m.0 i.1,
      all_trees c.args.members.now.extensible _ c.in_ok-values.values.items c.in_ok-values.values.items m.0 i.1 at.unknown m.1 i.3 (λ e k. absurd (true≢false (sym e ∙ off))) (λ e. refl),
      members_made c.args.members.now.extensible ps names c.args.decoder.now at.decoder at.last i.0 i.1 c.loop-last-test.ensures (subst (λ z. ReadTo c.args.members.now.extensible ps names c.args.decoder.now at.decoder at.last z i.0 i.1) h i.4) m.0 m.2 i.5,
    )

pub decode_set_components-returns-clause-fits : goal.decode_set_components-returns-clause-fits
decode_set_components-returns-clause-fits g t c = λ k s v.
    let at = c.loop-last in
    let on : c.args.members.now.extensible ≡ true = search rules in
    all_fit (FitsFrom s c.args.types.now.list.now c.args.types.now.levels) c.args.members.now.extensible c.args.members.now.components.now c.in_ok-values.values.items c.take.new.values.items at.unknown
    (gathered_fit (FitsFrom s c.args.types.now.list.now c.args.types.now.levels) g.M.Made.KEEP k c.args.members.now.components.now at.decoder.rule at.found.items (Ok c.in_ok-values.values) (found_kept g.M.Made.KEEP (FitsFrom s c.args.types.now.list.now c.args.types.now.levels) k c.args.members.now.components.now at.found.items (at.invariant.1 s v)) (subst (λ z. Gathers g.M.Made.KEEP c.args.members.now.components.now c.loop-last.decoder.rule c.loop-last.found.items z) (sym c.in_ok-values.ensures) c.gather.ensures.gathers))
    (at.invariant.2 k) (λ e. c.in_ok-take.ensures.ok k) (λ e. absurd (true≢false (sym on ∙ e)))

pub decode_set_components-returns-then-not-members-clause-fits : goal.decode_set_components-returns-then-not-members-clause-fits
decode_set_components-returns-then-not-members-clause-fits g t c = λ k s v.
    let at = c.loop-last in
    let off : c.args.members.now.extensible ≡ false = search rules in
    all_fit (FitsFrom s c.args.types.now.list.now c.args.types.now.levels) c.args.members.now.extensible c.args.members.now.components.now c.in_ok-values.values.items c.in_ok-values.values.items at.unknown
    (gathered_fit (FitsFrom s c.args.types.now.list.now c.args.types.now.levels) g.M.Made.KEEP k c.args.members.now.components.now at.decoder.rule at.found.items (Ok c.in_ok-values.values) (found_kept g.M.Made.KEEP (FitsFrom s c.args.types.now.list.now c.args.types.now.levels) k c.args.members.now.components.now at.found.items (at.invariant.1 s v)) (subst (λ z. Gathers g.M.Made.KEEP c.args.members.now.components.now c.loop-last.decoder.rule c.loop-last.found.items z) (sym c.in_ok-values.ensures) c.gather.ensures.gathers))
    (at.invariant.2 k) (λ e. absurd (true≢false (sym e ∙ off))) (λ e. refl)

pub decode_set_components-returns-in_err-values-clause-rules : goal.decode_set_components-returns-in_err-values-clause-rules
decode_set_components-returns-in_err-values-clause-rules g t c = rw (residual _ c.from_residual-in_err-values.ensures.1) ((subst (λ z. IfErr z (λ e. e.codec ≡ c.loop-last.decoder.rule)) (sym c.in_err-values.ensures) c.gather.ensures.rules) ∙ read_rules c.args.members.now.extensible (components_by (shape_of_type c.args.types.now.list.now c.args.types.now.levels) c.args.members.now.components.now) (names_of c.args.members.now.components.now) _ _ _ _ _ _ c.loop-last.invariant.0.4)

pub decode_set_components-returns-in_err-take-clause-rules : goal.decode_set_components-returns-in_err-take-clause-rules
decode_set_components-returns-in_err-take-clause-rules g t c = rw (residual _ c.from_residual-in_err-take.ensures.1) (c.in_err-take.ensures.rules ∙ read_rules c.args.members.now.extensible (components_by (shape_of_type c.args.types.now.list.now c.args.types.now.levels) c.args.members.now.components.now) (names_of c.args.members.now.components.now) _ _ _ _ _ _ c.loop-last.invariant.0.4)

pub decode_set_components-returns-in_err-last-clause-rules : goal.decode_set_components-returns-in_err-last-clause-rules
decode_set_components-returns-in_err-last-clause-rules g t c = rw (residual _ c.from_residual.ensures.1) (order_rules _ c.loop-last.decoder _ c.in_err-last.ensures ∙ read_rules c.args.members.now.extensible (components_by (shape_of_type c.args.types.now.list.now c.args.types.now.levels) c.args.members.now.components.now) (names_of c.args.members.now.components.now) _ _ _ _ _ _ c.loop-last.invariant.0.4)

pub decode_set_components-returns-in_err-next-clause-rules : goal.decode_set_components-returns-in_err-next-clause-rules
decode_set_components-returns-in_err-next-clause-rules g t c = rw (residual _ c.from_residual-in_err-next.ensures.1) (c.in_err-next.ensures.rules ∙ read_rules c.args.members.now.extensible (components_by (shape_of_type c.args.types.now.list.now c.args.types.now.levels) c.args.members.now.components.now) (names_of c.args.members.now.components.now) _ _ _ _ _ _ c.loop-last.invariant.0.4)

pub decode_set_components-returns-in-Some-clause-rules : goal.decode_set_components-returns-in-Some-clause-rules
decode_set_components-returns-in-Some-clause-rules g t c = c.duplicate_field.ensures.0 ∙ c.codec.ensures ∙ read_rules c.args.members.now.extensible (components_by (shape_of_type c.args.types.now.list.now c.args.types.now.levels) c.args.members.now.components.now) (names_of c.args.members.now.components.now) _ _ _ _ _ _ c.loop-last.invariant.0.4

-- ---- one of them

pub decode_set_component-returns-in_err-tag-clause-next : goal.decode_set_component-returns-in_err-tag-clause-next
decode_set_component-returns-in_err-tag-clause-next g t c =
    rw (residual _ c.from_residual.ensures.1) (member_unpeeked _ c.args.members.now.extensible (components_by (shape_of_type c.args.types.now.list.now c.args.types.now.levels) c.args.members.now.components.now) (names_of c.args.members.now.components.now) c.args.found.now.items c.args.unknown.now.items _ _ _ c.in_err-tag.ensures.exact refl)

pub decode_set_component-returns-then-not-members-clause-next : goal.decode_set_component-returns-then-not-members-clause-next
decode_set_component-returns-then-not-members-clause-next g t c =
    member_none _ c.args.members.now.extensible (components_by (shape_of_type c.args.types.now.list.now c.args.types.now.levels) c.args.members.now.components.now) (names_of c.args.members.now.components.now) c.args.found.now.items c.args.unknown.now.items _ _ c.in_ok-tag.tag c.in_ok-tag.ensures.next c.in_default.ensures (search rules) c.refuse_choice.new.error refl

pub decode_set_component-returns-in_err-other-clause-next : goal.decode_set_component-returns-in_err-other-clause-next
decode_set_component-returns-in_err-other-clause-next g t c =
    rw (residual _ c.from_residual-in_err-other.ensures.1)
    (unknown_unread _ c.args.members.now.extensible (components_by (shape_of_type c.args.types.now.list.now c.args.types.now.levels) c.args.members.now.components.now) (names_of c.args.members.now.components.now) c.args.found.now.items c.args.unknown.now.items _ _ c.in_ok-tag.tag c.in_ok-tag.ensures.next c.in_default.ensures (search rules) c.decode_unknown_component.new.walk.error c.in_err-other.ensures.reads)

pub decode_set_component-returns-in_err-take-clause-next : goal.decode_set_component-returns-in_err-take-clause-next
decode_set_component-returns-in_err-take-clause-next g t c =
    rw (residual _ c.from_residual-in_err-take.ensures.1)
    (unknown_left _ c.args.members.now.extensible (components_by (shape_of_type c.args.types.now.list.now c.args.types.now.levels) c.args.members.now.components.now) (names_of c.args.members.now.components.now) c.args.found.now.items c.args.unknown.now.items _ _ c.take.new.error c.in_err-take.ensures.kind (call_keeps c.in_ok-other.ensures.reads) _)

pub decode_set_component-returns-in_default-clause-next : goal.decode_set_component-returns-in_default-clause-next
decode_set_component-returns-in_default-clause-next g t c =
    unknown_kept _ c.args.members.now.extensible (components_by (shape_of_type c.args.types.now.list.now c.args.types.now.levels) c.args.members.now.components.now) (names_of c.args.members.now.components.now) c.args.found.now.items c.args.unknown.now.items _ _ c.in_ok-tag.tag c.in_ok-tag.ensures.next c.in_default.ensures (search rules) c.in_ok-other.other c.in_ok-other.ensures.reads _ c.in_ok-take.ensures.ok

pub decode_set_component-returns-in_default-clause-octets : goal.decode_set_component-returns-in_default-clause-octets
decode_set_component-returns-in_default-clause-octets g t c = λ k h. each_more AreOctets c.args.unknown.now.items _ c.in_ok-other.other (c.in_ok-take.ensures.ok k) h c.in_ok-other.ensures.fits

pub decode_set_component-decode_present-requires : goal.decode_set_component-decode_present-requires
decode_set_component-decode_present-requires g t c = λ κs o. (search rules, (search rules, (part_lawful (shape_of_type c.args.types.now.list.now c.args.types.now.levels) c.args.members.now.components.now c.in-Some.number c.in-Some.component.now c.requires.lawful c.in-Some.ensures.0, c.requires.clear)))

pub decode_set_component-returns-in_err-decode_present-clause-next : goal.decode_set_component-returns-in_err-decode_present-clause-next
decode_set_component-returns-in_err-decode_present-clause-next g t c =
    rw (residual _ c.from_residual-in_err-decode_present.ensures.1)
    (member_unread (shape_of_type c.args.types.now.list.now c.args.types.now.levels) c.args.members.now.components.now c.in-Some.number c.in-Some.component.now c.in_ok-tag.tag c.requires.lawful c.in-Some.ensures _ _ c.in_ok-tag.ensures.next _ c.args.members.now.extensible c.args.found.now.items c.args.unknown.now.items c.decode_present.new.walk.error c.in_err-decode_present.ensures.reads)

pub decode_set_component-returns-then-remaining-left-clause-next : goal.decode_set_component-returns-then-remaining-left-clause-next
decode_set_component-returns-then-remaining-left-clause-next g t c =
    let w = c.in_ok-decode_present.ensures.reads in
    member_idle (shape_of_type c.args.types.now.list.now c.args.types.now.levels) c.args.members.now.components.now c.in-Some.number c.in-Some.component.now c.in_ok-tag.tag c.requires.lawful c.in-Some.ensures _ _ c.in_ok-tag.ensures.next _ c.args.members.now.extensible c.args.found.now.items c.args.unknown.now.items w.0 w.2
    _ (ap length c.remaining-left.ensures.value) (sym (ap length c.remaining.ensures.value) ∙ c.if-remaining-left.true) c.refuse_extra.new.error c.refuse_extra.ensures

pub decode_set_component-put-requires : goal.decode_set_component-put-requires
decode_set_component-put-requires g t c = rw c.requires.room (got_below c.args.members.now.components.now c.in-Some.number c.in-Some.component.now c.in-Some.ensures.0)

pub decode_set_component-returns-clause-next : goal.decode_set_component-returns-clause-next
decode_set_component-returns-clause-next g t c =
    let w = c.in_ok-decode_present.ensures.reads in
    member_put (shape_of_type c.args.types.now.list.now c.args.types.now.levels) c.args.members.now.components.now c.in-Some.number c.in-Some.component.now c.in_ok-tag.tag c.requires.lawful c.in-Some.ensures _ _ c.in_ok-tag.ensures.next _ c.args.members.now.extensible c.args.found.now.items c.args.unknown.now.items w.0 w.2
    c.decode_present.new.out w.1 (rw c.requires.room (got_below c.args.members.now.components.now c.in-Some.number c.in-Some.component.now c.in-Some.ensures.0)) _ (ap length c.remaining-left.ensures.value)
    (λ e. c.if-remaining-left.false (ap length c.remaining.ensures.value ∙ e)) _ _ (rw (← c.as_str.ensures.value) c.put.ensures)

pub decode_set_component-returns-clause-found : goal.decode_set_component-returns-clause-found
decode_set_component-returns-clause-found g t c = λ s v h.
    put_fits _ c.args.members.now.components.now c.args.found.now.items _ c.in-Some.number c.in-Some.component.now c.decode_present.new.out _ _ h c.in-Some.ensures.0 (λ k. c.in_ok-decode_present.ensures.fits k s v) c.put.ensures

pub decode_set_component-returns-in_err-tag-clause-rules : goal.decode_set_component-returns-in_err-tag-clause-rules
decode_set_component-returns-in_err-tag-clause-rules g t c = rw (residual _ c.from_residual.ensures.1) (peek_rules c.args.decoder.now _ c.in_err-tag.ensures.exact)

pub decode_set_component-returns-in_err-tag-clause-unknown : goal.decode_set_component-returns-in_err-tag-clause-unknown
decode_set_component-returns-in_err-tag-clause-unknown g t c = rw (residual _ c.from_residual.ensures.1) (λ x tag n others. absurd (c.in_err-tag.ensures.next tag n))

pub decode_set_component-returns-in_err-decode_present-clause-unknown : goal.decode_set_component-returns-in_err-decode_present-clause-unknown
decode_set_component-returns-in_err-decode_present-clause-unknown g t c = rw (residual _ c.from_residual-in_err-decode_present.ensures.1) (λ x tag n others. absurd (others (subst (IsFirstOf (components_by (shape_of_type c.args.types.now.list.now c.args.types.now.levels) c.args.members.now.components.now)) (next_one c.args.decoder.now.rest c.in_ok-tag.tag tag c.in_ok-tag.ensures.next n) (first_of_part (shape_of_type c.args.types.now.list.now c.args.types.now.levels) c.in_ok-tag.tag c.args.members.now.components.now c.in-Some.number c.in-Some.component.now c.in-Some.ensures.0 c.in-Some.ensures.1))))

pub decode_set_component-returns-then-remaining-left-clause-unknown : goal.decode_set_component-returns-then-remaining-left-clause-unknown
decode_set_component-returns-then-remaining-left-clause-unknown g t c = λ x tag n others. absurd (others (subst (IsFirstOf (components_by (shape_of_type c.args.types.now.list.now c.args.types.now.levels) c.args.members.now.components.now)) (next_one c.args.decoder.now.rest c.in_ok-tag.tag tag c.in_ok-tag.ensures.next n) (first_of_part (shape_of_type c.args.types.now.list.now c.args.types.now.levels) c.in_ok-tag.tag c.args.members.now.components.now c.in-Some.number c.in-Some.component.now c.in-Some.ensures.0 c.in-Some.ensures.1)))

pub decode_set_component-returns-then-remaining-left-clause-rules : goal.decode_set_component-returns-then-remaining-left-clause-rules
decode_set_component-returns-then-remaining-left-clause-rules g t c = codec_is c.refuse_extra.ensures ∙ same_rules c.in_ok-decode_present.ensures.reads.2.0.stays

-- ---- where a value can't be read

pub decode_part-returns-in-Err-clause-told : goal.decode_part-returns-in-Err-clause-told
decode_part-returns-in-Err-clause-told g t c = stepped c.args.types.now.list.now c.args.types.now.levels c.args.id.0 c.args.index c.args.decoder.now _ _ _ c.in-Err.ensures.told c.step.ensures

pub decode_components-returns-then-leaves_all_out-clause-told : goal.decode_components-returns-then-leaves_all_out-clause-told
decode_components-returns-then-leaves_all_out-clause-told g t c = unnamed _ _ _ c.requires.clear

pub decode_component-returns-in-Ok-false-clause-told : goal.decode_component-returns-in-Ok-false-clause-told
decode_component-returns-in-Ok-false-clause-told g t c = unnamed _ _ _ c.requires.clear

pub decode_choice-returns-in_err-decode_alternative-clause-told : goal.decode_choice-returns-in_err-decode_alternative-clause-told
decode_choice-returns-in_err-decode_alternative-clause-told g t c =
    let el = get_or c.args.alternatives.now c.in-Some.number c.index-alternatives-number.result in
    let at : Some el ≡ slice_get c.args.alternatives.now c.in-Some.number = subst (λ (a : Alternative). Some a ≡ slice_get c.args.alternatives.now c.in-Some.number) c.index-alternatives-number.is
    (read_at c.args.alternatives.now c.in-Some.number c.index-alternatives-number.result (slice_get_within c.args.alternatives.now c.in-Some.number c.in-Some.ensures.0 (sym c.in-Some.ensures.1.0)) c.index-alternatives-number.is) in
    rw (residual _ c.from_residual-in_err-decode_alternative.ensures.1)
    (tells_err _ _ (λ k f. weaker c.args.types.now.list.now c.args.types.now.levels _ _ c.args.decoder.now c.args.decoder.now (alternative_there (shape_of_type c.args.types.now.list.now c.args.types.now.levels) c.args.alternatives.now c.in-Some.number el c.args.decoder.now
    (c.in_ok-tag.tag, c.in_ok-tag.ensures.next, for_both (shape_of_type c.args.types.now.list.now c.args.types.now.levels) c.args.alternatives.now c.in-Some.number c.in-Some.ensures.0 el c.in_ok-tag.tag c.in-Some.ensures.1 at)) k f) c.decode_alternative.new.walk.error _ c.in_err-decode_alternative.ensures.told)

pub decode_elements-returns-in_err-decode_part-clause-told : goal.decode_elements-returns-in_err-decode_part-clause-told
decode_elements-returns-in_err-decode_part-clause-told g t c =
    let i = c.loop-element.invariant.0 in
    let k = turns_keep (shape_of_type c.args.types.now.list.now c.args.types.now.levels c.args.element.0) (λ (z : Tree). z) c.args.decoder.now i.0 c.loop-element.decoder i.3 in
    rw (residual _ c.from_residual.ensures.1)
    (tells_err _ _ (λ kind f x. further c.args.types.now.list.now c.args.types.now.levels _ _ c.args.decoder.now c.loop-element.decoder kind f k.0 k.1
    (element_there (shape_of_type c.args.types.now.list.now c.args.types.now.levels) c.args.element.0 c.args.decoder.now c.loop-element.decoder i.0 _ (sym i.2) i.3 c.loop-element-test.ensures) x) c.decode_part.new.walk.error _ c.in_err-decode_part.ensures.told)

pub decode_elements_in_order-returns-in_err-decode_part-clause-told : goal.decode_elements_in_order-returns-in_err-decode_part-clause-told
decode_elements_in_order-returns-in_err-decode_part-clause-told g t c =
    let i = c.loop-last.invariant.0 in
    let p = forgotten (DecodesTree (shape_of_type c.args.types.now.list.now c.args.types.now.levels c.args.element.0)) c.args.decoder.now i.0 i.1 c.loop-last.decoder i.4 in
    let k = turns_keep (shape_of_type c.args.types.now.list.now c.args.types.now.levels c.args.element.0) (λ (z : Tree). z) c.args.decoder.now i.0 c.loop-last.decoder p in
    rw (residual _ c.from_residual.ensures.1)
    (tells_err _ _ (λ kind f x. further c.args.types.now.list.now c.args.types.now.levels _ _ c.args.decoder.now c.loop-last.decoder kind f k.0 k.1
    (element_there (shape_of_type c.args.types.now.list.now c.args.types.now.levels) c.args.element.0 c.args.decoder.now c.loop-last.decoder i.0 _ (sym i.3) p c.loop-last-test.ensures) x) c.decode_part.new.walk.error _ c.in_err-decode_part.ensures.told)

pub decode_components-returns-in_err-decode_component-clause-told : goal.decode_components-returns-in_err-decode_component-clause-told
decode_components-returns-in_err-decode_component-clause-told g t c =
    let k = c.loop-rest.invariant in
    let at = split c.loop-rest.rest.now _ c.in-len1-up.len_at_least c.component-item.is in
    let len : length c.args.components.now ≡ length k.4 + length c.loop-rest.rest.now = ap length k.5 ∙ length-append k.4 c.loop-rest.rest.now in
    let l : length k.4 ≡ length c.args.components.now - length c.loop-rest.rest.now = omega (arith, len) in
    rw (residual _ c.from_residual.ensures.1)
    (λ f q. further c.args.types.now.list.now c.args.types.now.levels _ _ c.args.decoder.now c.loop-rest.decoder _ f k.0.2.keeps.stays k.0.2.keeps.end
    (part_there (shape_of_type c.args.types.now.list.now c.args.types.now.levels) c.args.components.now k.4 _ c.component-item.result c.args.decoder.now c.loop-rest.decoder (length c.args.components.now - length c.loop-rest.rest.now) (k.5 ∙ ap (λ z. k.4 ++ z) at) l k.6) (c.in_err-decode_component.ensures.told f q))

pub decode_present-returns-in_default-clause-told : goal.decode_present-returns-in_default-clause-told
decode_present-returns-in_default-clause-told g t c =
    tells _ _ (λ k f i. i) _ _ c.decode_part.ensures.told

pub decode_present-returns-in_err-decode_compared-clause-told : goal.decode_present-returns-in_err-decode_compared-clause-told
decode_present-returns-in_err-decode_compared-clause-told g t c =
    let P = IsFaultIn c.args.types.now.list.now c.args.types.now.levels (IsOnly c.args.index c.args.component.now.type_id.0 c.args.decoder.now) c.args.decoder.now c.args.decoder.now in
    rw (residual _ c.from_residual.ensures.1) (tells_err P P (λ k f i. i) c.decode_compared.new.walk.error _ c.in_err-decode_compared.ensures.told)

pub decode_set_components-returns-in_err-next-clause-told : goal.decode_set_components-returns-in_err-next-clause-told
decode_set_components-returns-in_err-next-clause-told g t c =
    let at = c.loop-last in
    let k = at.invariant.0.4 in
    let s = choice_by c.args.members.now.extensible (components_by (shape_of_type c.args.types.now.list.now c.args.types.now.levels) c.args.members.now.components.now) in
    let q = turns_keep s (λ (z : Tree). z) c.args.decoder.now k.0 at.decoder (forgotten (DecodesTree s) c.args.decoder.now k.0 k.1 at.decoder k.2) in
    rw (residual _ c.from_residual-in_err-next.ensures.1)
    (λ f e. further c.args.types.now.list.now c.args.types.now.levels _ _ c.args.decoder.now at.decoder _ f q.0 q.1 (member_behind (shape_of_type c.args.types.now.list.now c.args.types.now.levels) c.args.members.now.extensible c.args.members.now.components.now c.args.members.now.other_id.0 c.args.decoder.now at.decoder k.0 k.1 k.2) (c.in_err-next.ensures.told f e))

pub decode_set_component-returns-in_err-decode_present-clause-told : goal.decode_set_component-returns-in_err-decode_present-clause-told
decode_set_component-returns-in_err-decode_present-clause-told g t c =
    rw (residual _ c.from_residual-in_err-decode_present.ensures.1) (λ f q. weaker c.args.types.now.list.now c.args.types.now.levels _ _ _ _ (member_there (shape_of_type c.args.types.now.list.now c.args.types.now.levels) c.args.members.now.extensible c.args.members.now.components.now c.args.members.now.other_id.0 c.in-Some.number c.in-Some.component.now c.args.decoder.now c.in-Some.ensures.0) _ f (c.in_err-decode_present.ensures.told f q))

pub decode_set_component-decode_unknown_component-requires : goal.decode_set_component-decode_unknown_component-requires
decode_set_component-decode_unknown_component-requires g t c =
    record { clear = c.requires.clear; more = not_ended c.args.decoder.now.closing c.args.decoder.now.rest c.in_ok-tag.tag c.in_ok-tag.ensures.next }

pub decode_set_component-returns-in_err-other-clause-told : goal.decode_set_component-returns-in_err-other-clause-told
decode_set_component-returns-in_err-other-clause-told g t c =
    let f = shape_of_type c.args.types.now.list.now c.args.types.now.levels in
    let extends : c.args.members.now.extensible ≡ true = search rules in
    rw (residual _ c.from_residual-in_err-other.ensures.1)
    (tells_err _ _ (λ kind x. weaker c.args.types.now.list.now c.args.types.now.levels _ _ c.args.decoder.now c.args.decoder.now
    (unknown_there f c.args.members.now.extensible c.args.members.now.components.now c.args.members.now.other_id.0 c.args.decoder.now extends (c.in_ok-tag.tag, c.in_ok-tag.ensures.next, c.in_default.ensures)) kind x)
    c.decode_unknown_component.new.walk.error _ (c.in_err-other.ensures.told c.args.types.now.list.now (c.requires.other extends)))

pub decode_set_component-returns-in_err-take-clause-told : goal.decode_set_component-returns-in_err-take-clause-told
decode_set_component-returns-in_err-take-clause-told g t c =
    let extends : c.args.members.now.extensible ≡ true = search rules in
    rw (residual _ c.from_residual-in_err-take.ensures.1) (λ x q. absurd (not_named _ x q (c.in_ok-other.ensures.told c.args.types.now.list.now (c.requires.other extends))))

pub decode_set_component-returns-in_default-clause-told : goal.decode_set_component-returns-in_default-clause-told
decode_set_component-returns-in_default-clause-told g t c =
    let extends : c.args.members.now.extensible ≡ true = search rules in
    c.in_ok-other.ensures.told c.args.types.now.list.now (c.requires.other extends)

-- ---- a value that fails itself

pub decode_choice-returns-in_err-tag-clause-itself : goal.decode_choice-returns-in_err-tag-clause-itself
decode_choice-returns-in_err-tag-clause-itself g t c =
    rw (residual _ c.from_residual.ensures.1) (λ n. inl c.in_err-tag.ensures.exact)

pub decode_choice-returns-in_default-clause-itself : goal.decode_choice-returns-in_default-clause-itself
decode_choice-returns-in_default-clause-itself g t c =
    λ n. inr (inl ((c.in_ok-tag.tag, c.in_ok-tag.ensures.next, c.in_default.ensures), c.refuse_choice.ensures))

pub decode_choice-returns-in_err-decode_alternative-clause-itself : goal.decode_choice-returns-in_err-decode_alternative-clause-itself
decode_choice-returns-in_err-decode_alternative-clause-itself g t c =
    rw (residual _ c.from_residual-in_err-decode_alternative.ensures.1) (λ n. absurd (not_named _ _ c.in_err-decode_alternative.ensures.told.1 n))

pub decode_choice-returns-clause-itself : goal.decode_choice-returns-clause-itself
decode_choice-returns-clause-itself g t c =
    if_err_map _ _ (λ e m n. inr (inr m)) (outcome c.choose.result c.choose.new.out c.choose.new.error) c.choose.ensures.kind

pub decode_elements-returns-in_err-decode_part-clause-itself : goal.decode_elements-returns-in_err-decode_part-clause-itself
decode_elements-returns-in_err-decode_part-clause-itself g t c =
    rw (residual _ c.from_residual.ensures.1) (λ n. absurd (not_named _ _ c.in_err-decode_part.ensures.told.1 n))

pub decode_elements-returns-in_err-keep-clause-itself : goal.decode_elements-returns-in_err-keep-clause-itself
decode_elements-returns-in_err-keep-clause-itself g t c =
    let w = c.in_ok-decode_part.ensures.reads in
    rw (residual _ c.from_residual-in_err-keep.ensures.1)
    (λ n. element_stops (shape_of_type c.args.types.now.list.now c.args.types.now.levels) c.args.element.0 c.args.decoder.now c.loop-element.decoder _ w.0 w.2 _ (ap length c.remaining-left.ensures.value) _ c.in_err-keep.ensures.appended
    c.loop-element.invariant.0.0 c.loop-element.invariant.0.3)

pub decode_elements_in_order-returns-in_err-decode_part-clause-itself : goal.decode_elements_in_order-returns-in_err-decode_part-clause-itself
decode_elements_in_order-returns-in_err-decode_part-clause-itself g t c =
    rw (residual _ c.from_residual.ensures.1) (λ n. absurd (not_named _ _ c.in_err-decode_part.ensures.told.1 n))

pub decode_elements_in_order-returns-in_err-keep-clause-itself : goal.decode_elements_in_order-returns-in_err-keep-clause-itself
decode_elements_in_order-returns-in_err-keep-clause-itself g t c =
    let w = c.in_ok-decode_part.ensures.reads in
    rw (residual _ c.from_residual-in_err-keep.ensures.1)
    (λ n. set_element_stops (shape_of_type c.args.types.now.list.now c.args.types.now.levels) c.args.element.0 c.args.decoder.now c.loop-last.decoder _ w.0 w.2 _ (ap length c.remaining-start.ensures.value) _ c.in_err-keep.ensures.appended
    c.loop-last.invariant.0.0 c.loop-last.invariant.0.1 c.loop-last.invariant.0.4)

pub decode_elements_in_order-returns-then-is_less-clause-itself : goal.decode_elements_in_order-returns-then-is_less-clause-itself
decode_elements_in_order-returns-then-is_less-clause-itself g t c =
    let i = c.loop-last.invariant.0 in
    let w = c.in_ok-decode_part.ensures.reads in
    let k = call_keeps w.2 in
    λ none. inr (
      i.0,
      i.1,
      c.loop-last.decoder,
      i.4,
      inr (
        _,
        (
          w.0,
          c.octets_before-octets.result.now,
          w.2,
          rw (← c.remaining-start.ensures.value, ← c.remaining.ensures.value) c.octets_before-octets.ensures,
          (λ e. c.in_ok-keep.ensures.appended.1 (e ∙ sym (ap length c.remaining-start.ensures.value))),
          strict_before c.loop-last.decoder _ k c.if-is_strict.ensures,
          out_of_order i.1 c.loop-last.last.now c.octets_before-octets.result.now i.6 c.if-is_less.ensures,
          rules_same c.loop-last.decoder _ (Der SetOfOutOfOrder) c.refuse_order.new.error k c.refuse_order.ensures,
        ),
      ),
    )

pub decode_components-returns-then-leaves_all_out-clause-itself : goal.decode_components-returns-then-leaves_all_out-clause-itself
decode_components-returns-then-leaves_all_out-clause-itself g t c = only_memory (shape_of_type c.args.types.now.list.now c.args.types.now.levels) c.args.components.now c.args.decoder.now _ _ c.put_all_absent.ensures.memory

pub decode_components-returns-in_err-decode_component-clause-itself : goal.decode_components-returns-in_err-decode_component-clause-itself
decode_components-returns-in_err-decode_component-clause-itself g t c =
    let k = c.loop-rest.invariant in
    let at = split c.loop-rest.rest.now _ c.in-len1-up.len_at_least c.component-item.is in
    rw (residual _ c.from_residual.ensures.1)
    (λ n. inr (k.4, c.component-item.result, _, c.loop-rest.decoder, k.5 ∙ ap (λ z. k.4 ++ z) at, k.6, c.in_err-decode_component.ensures.itself n))

pub decode_components-returns-in_err-take-clause-itself : goal.decode_components-returns-in_err-take-clause-itself
decode_components-returns-in_err-take-clause-itself g t c =
    rw (residual _ c.from_residual-in_err-take.ensures.1) (λ n. inl c.in_err-take.ensures.kind)

pub decode_component-returns-then-is_always_there-clause-itself : goal.decode_component-returns-then-is_always_there-clause-itself
decode_component-returns-then-is_always_there-clause-itself g t c =
    present_stops (shape_of_type c.args.types.now.list.now c.args.types.now.levels) c.args.component.now c.args.decoder.now _ _ c.decode_present.ensures.itself

pub decode_component-returns-in-Ok-true-clause-itself : goal.decode_component-returns-in-Ok-true-clause-itself
decode_component-returns-in-Ok-true-clause-itself g t c =
    present_stops (shape_of_type c.args.types.now.list.now c.args.types.now.levels) c.args.component.now c.args.decoder.now _ _ c.decode_present-in-Ok-true.ensures.itself

pub decode_component-returns-in-Ok-false-clause-itself : goal.decode_component-returns-in-Ok-false-clause-itself
decode_component-returns-in-Ok-false-clause-itself g t c =
    unmade_stops _ (shape_of_type c.args.types.now.list.now c.args.types.now.levels) c.args.component.now c.args.decoder.now _ _ c.put_missing.ensures.made

pub decode_component-returns-in-Err-clause-itself : goal.decode_component-returns-in-Err-clause-itself
decode_component-returns-in-Err-clause-itself g t c =
    λ n. inl (c.if-is_always_there.ensures, c.in-Err.ensures.2)

pub decode_present-returns-in_default-clause-itself : goal.decode_present-returns-in_default-clause-itself
decode_present-returns-in_default-clause-itself g t c =
    named _ _ _ _ c.decode_part.ensures.told

pub decode_present-returns-in_err-decode_compared-clause-itself : goal.decode_present-returns-in_err-decode_compared-clause-itself
decode_present-returns-in_err-decode_compared-clause-itself g t c =
    rw (residual _ c.from_residual.ensures.1) (λ n. absurd (not_named _ _ c.in_err-decode_compared.ensures.told.1 n))

pub decode_present-returns-then-means_same-clause-itself : goal.decode_present-returns-then-means_same-clause-itself
decode_present-returns-then-means_same-clause-itself g t c =
    let w = c.in_ok-decode_compared.ensures.reads in
    λ n. default_stops (shape_of_type c.args.types.now.list.now c.args.types.now.levels) c.args.component.now c.in-Default.default c.in-Default.is c.args.decoder.now _ w.0 w.2 c.if-not-is_strict.ensures (subst (λ z. Same z (tree_of c.in-Default.default)) (w.1 refl) (c.means_same.ensures.same c.if-means_same.true)) c.refuse_default.new.error c.refuse_default.ensures

pub decode_set_components-returns-in_err-last-clause-itself : goal.decode_set_components-returns-in_err-last-clause-itself
decode_set_components-returns-in_err-last-clause-itself g t c =
    let at = c.loop-last in
    let k = at.invariant.0.4 in
    let stays = came_stays (choice_by c.args.members.now.extensible (components_by (shape_of_type c.args.types.now.list.now c.args.types.now.levels) c.args.members.now.components.now)) (λ (z : Tree). z) c.args.decoder.now at.decoder k.0 k.1 k.2 in
    rw (residual _ c.from_residual.ensures.1)
    (λ n. inr (inl (k.0, k.1, at.decoder, k.2, _, look_refused c.args.decoder.now at.decoder stays k.1 at.last k.3 (λ there x after. StopsAtMember (shape_of_type c.args.types.now.list.now c.args.types.now.levels) c.args.members.now.name.now c.args.members.now.extensible c.args.members.now.components.now there x) _ c.in_err-last.ensures)))

pub decode_set_components-returns-in_err-next-clause-itself : goal.decode_set_components-returns-in_err-next-clause-itself
decode_set_components-returns-in_err-next-clause-itself g t c =
    let at = c.loop-last in
    let k = at.invariant.0.4 in
    let stays = came_stays (choice_by c.args.members.now.extensible (components_by (shape_of_type c.args.types.now.list.now c.args.types.now.levels) c.args.members.now.components.now)) (λ (z : Tree). z) c.args.decoder.now at.decoder k.0 k.1 k.2 in
    rw (residual _ c.from_residual-in_err-next.ensures.1)
    (λ n. inr (inl (k.0, k.1, at.decoder, k.2, at.decoder, not_read (look_follows c.args.decoder.now at.decoder stays k.1 at.last k.3 _ c.in_ok-last.ensures) (c.in_err-next.ensures.itself n))))

pub decode_set_components-returns-in-Some-clause-itself : goal.decode_set_components-returns-in-Some-clause-itself
decode_set_components-returns-in-Some-clause-itself g t c =
    let at = c.loop-last in
    let i = at.invariant.0 in
    let ps = components_by (shape_of_type c.args.types.now.list.now c.args.types.now.levels) c.args.members.now.components.now in
    let names = names_of c.args.members.now.components.now in
    let h : at.twice ≡ Some c.in-Some.repeated = search rules in
    λ n. repeats_member (shape_of_type c.args.types.now.list.now c.args.types.now.levels) c.args.members.now.name.now c.args.members.now.extensible c.args.members.now.components.now c.args.decoder.now at.decoder at.last i.0 i.1 c.loop-last-test.ensures c.in-Some.repeated
    (subst (λ z. ReadTo c.args.members.now.extensible ps names c.args.decoder.now at.decoder at.last z i.0 i.1) h i.4) _
    (subst (λ z. IsNamedError (IsDuplicateField (text c.in-Some.repeated)) z c.duplicate_field.result) c.codec.ensures c.duplicate_field.ensures)

pub decode_set_components-returns-in_err-values-clause-itself : goal.decode_set_components-returns-in_err-values-clause-itself
decode_set_components-returns-in_err-values-clause-itself g t c =
    let at = c.loop-last in
    let i = at.invariant.0 in
    let ps = components_by (shape_of_type c.args.types.now.list.now c.args.types.now.levels) c.args.members.now.components.now in
    let names = names_of c.args.members.now.components.now in
    let h : at.twice ≡ None = search rules in
    rw (residual _ c.from_residual-in_err-values.ensures.1)
    (λ n. lacks_member (shape_of_type c.args.types.now.list.now c.args.types.now.levels) c.args.members.now.name.now c.args.members.now.extensible c.args.members.now.components.now c.args.decoder.now at.decoder at.last i.0 i.1 c.loop-last-test.ensures
    (subst (λ z. ReadTo c.args.members.now.extensible ps names c.args.decoder.now at.decoder at.last z i.0 i.1) h i.4) _
    (lacks_part _ (shape_of_type c.args.types.now.list.now c.args.types.now.levels) c.args.members.now.components.now at.decoder.rule at.found.items i.0 _ i.2 (subst (λ z. Gathers g.M.Made.KEEP c.args.members.now.components.now c.loop-last.decoder.rule c.loop-last.found.items z) (sym c.in_err-values.ensures) c.gather.ensures.gathers)))

pub decode_set_components-returns-in_err-take-clause-itself : goal.decode_set_components-returns-in_err-take-clause-itself
decode_set_components-returns-in_err-take-clause-itself g t c =
    rw (residual _ c.from_residual-in_err-take.ensures.1) (λ n. inl c.in_err-take.ensures.kind)

pub decode_set_component-returns-in_err-tag-clause-itself : goal.decode_set_component-returns-in_err-tag-clause-itself
decode_set_component-returns-in_err-tag-clause-itself g t c =
    rw (residual _ c.from_residual.ensures.1) (λ n. inl c.in_err-tag.ensures.exact)

pub decode_set_component-returns-then-not-members-clause-itself : goal.decode_set_component-returns-then-not-members-clause-itself
decode_set_component-returns-then-not-members-clause-itself g t c =
    λ n. inr (inl (((c.in_ok-tag.tag, c.in_ok-tag.ensures.next, c.in_default.ensures), c.refuse_choice.ensures), search rules))

pub decode_set_component-returns-in_err-other-clause-itself : goal.decode_set_component-returns-in_err-other-clause-itself
decode_set_component-returns-in_err-other-clause-itself g t c =
    let extends : c.args.members.now.extensible ≡ true = search rules in
    let w = c.in_err-other.ensures.told c.args.types.now.list.now (c.requires.other extends) in
    rw (residual _ c.from_residual-in_err-other.ensures.1) (λ n. absurd (not_named _ w.0 w.1 n))

pub decode_set_component-returns-in_err-take-clause-itself : goal.decode_set_component-returns-in_err-take-clause-itself
decode_set_component-returns-in_err-take-clause-itself g t c =
    rw (residual _ c.from_residual-in_err-take.ensures.1) (λ n. inr (inr (inl c.in_err-take.ensures.kind)))

pub decode_set_component-returns-in_err-decode_present-clause-itself : goal.decode_set_component-returns-in_err-decode_present-clause-itself
decode_set_component-returns-in_err-decode_present-clause-itself g t c =
    rw (residual _ c.from_residual-in_err-decode_present.ensures.1) (λ n. inr (inr (inr (c.in-Some.number, c.in-Some.component.now, c.in-Some.ensures.0, inl (c.in_err-decode_present.ensures.itself n)))))

pub decode_set_component-returns-then-remaining-left-clause-itself : goal.decode_set_component-returns-then-remaining-left-clause-itself
decode_set_component-returns-then-remaining-left-clause-itself g t c =
    let w = c.in_ok-decode_present.ensures.reads in
    λ n. inr (inr (inr (
      c.in-Some.number,
      c.in-Some.component.now,
      c.in-Some.ensures.0,
      inr (w.0, _, w.2.0, sym (ap length c.remaining.ensures.value) ∙ c.if-remaining-left.true ∙ ap length c.remaining-left.ensures.value, taken_none c.args.decoder.now _ _ (call_keeps w.2.0) _ (ap length c.remaining-left.ensures.value) c.refuse_extra.ensures),
    )))

-- ---- the parts that are listed

pub decode_part-returns-in-Ok-clause-listed : goal.decode_part-returns-in-Ok-clause-listed
decode_part-returns-in-Ok-clause-listed g t c =
    let w = c.in-Ok.ensures.reads in
    part_listed c.args.types.now.list.now c.args.types.now.levels c.args.id c.args.index _ _ _ c.args.decoder.now _ _ _ _ _ w.0 c.remaining-start.ensures.value c.remaining.ensures.value c.note-place.ensures c.in-Ok.ensures.listed c.finish.ensures w.2

pub decode_choice-returns-clause-listed : goal.decode_choice-returns-clause-listed
decode_choice-returns-clause-listed g t c =
    let el = get_or c.args.alternatives.now c.in-Some.number c.index-alternatives-number.result in
    let at : Some el ≡ slice_get c.args.alternatives.now c.in-Some.number = subst (λ (a : Alternative). Some a ≡ slice_get c.args.alternatives.now c.in-Some.number) c.index-alternatives-number.is
    (read_at c.args.alternatives.now c.in-Some.number c.index-alternatives-number.result (slice_get_within c.args.alternatives.now c.in-Some.number c.in-Some.ensures.0 (sym c.in-Some.ensures.1.0)) c.index-alternatives-number.is) in
    if_any _ (alternative_listed (shape_of_type c.args.types.now.list.now c.args.types.now.levels) c.args.types.now.levels (Inside c.args.types.now.list.now c.args.types.now.levels) c.args.alternatives.now c.in-Some.number el c.args.decoder.now _ _ _
    (c.in_ok-tag.tag, c.in_ok-tag.ensures.next, for_both (shape_of_type c.args.types.now.list.now c.args.types.now.levels) c.args.alternatives.now c.in-Some.number c.in-Some.ensures.0 el c.in_ok-tag.tag c.in-Some.ensures.1 at) c.in_ok-decode_alternative.ensures.listed)

pub decode_elements-returns-clause-listed : goal.decode_elements-returns-clause-listed
decode_elements-returns-clause-listed g t c = elements_listed (shape_of_type c.args.types.now.list.now c.args.types.now.levels) c.args.types.now.levels (Inside c.args.types.now.list.now c.args.types.now.levels) c.args.element.0 c.loop-element.count c.args.decoder.now c.loop-element.decoder _ _ c.loop-element-test.ensures c.loop-element.invariant.3

pub decode_elements_in_order-returns-clause-listed : goal.decode_elements_in_order-returns-clause-listed
decode_elements_in_order-returns-clause-listed g t c = elements_listed (shape_of_type c.args.types.now.list.now c.args.types.now.levels) c.args.types.now.levels (Inside c.args.types.now.list.now c.args.types.now.levels) c.args.element.0 c.loop-last.count c.args.decoder.now c.loop-last.decoder _ _ c.loop-last-test.ensures c.loop-last.invariant.3

pub decode_components-returns-then-leaves_all_out-clause-listed : goal.decode_components-returns-then-leaves_all_out-clause-listed
decode_components-returns-then-leaves_all_out-clause-listed g t c = if_any _ (components_left_out (shape_of_type c.args.types.now.list.now c.args.types.now.levels) c.args.types.now.levels (Inside c.args.types.now.list.now c.args.types.now.levels) c.args.components.now c.args.decoder.now _ c.if-leaves_all_out.ensures)

pub decode_components-returns-clause-listed : goal.decode_components-returns-clause-listed
decode_components-returns-clause-listed g t c =
    components_listed (shape_of_type c.args.types.now.list.now c.args.types.now.levels) c.args.types.now.levels (Inside c.args.types.now.list.now c.args.types.now.levels) c.args.components.now c.loop-rest.invariant.4 c.loop-rest.rest.now c.args.decoder.now c.loop-rest.decoder _ _ c.loop-rest.invariant.5 (nothing_left _ c.in_default.len_below) c.loop-rest.invariant.7

pub decode_component-returns-then-is_always_there-clause-listed : goal.decode_component-returns-then-is_always_there-clause-listed
decode_component-returns-then-is_always_there-clause-listed g t c = if_ok _ _ _ (λ v. component_present (shape_of_type c.args.types.now.list.now c.args.types.now.levels) c.args.types.now.levels (Inside c.args.types.now.list.now c.args.types.now.levels) c.args.component.now c.args.index c.args.decoder.now _ _ _) c.decode_present.ensures.listed

pub decode_component-returns-in-Ok-true-clause-listed : goal.decode_component-returns-in-Ok-true-clause-listed
decode_component-returns-in-Ok-true-clause-listed g t c = if_ok _ _ _ (λ v. component_present (shape_of_type c.args.types.now.list.now c.args.types.now.levels) c.args.types.now.levels (Inside c.args.types.now.list.now c.args.types.now.levels) c.args.component.now c.args.index c.args.decoder.now _ _ _) c.decode_present-in-Ok-true.ensures.listed

pub decode_component-returns-in-Ok-false-clause-listed : goal.decode_component-returns-in-Ok-false-clause-listed
decode_component-returns-in-Ok-false-clause-listed g t c =
    let w = c.in-Ok-false.field-0-test in
    let h : c.in-Ok-false.field-0 ≡ false = cc in
    let s = shape_of_type c.args.types.now.list.now c.args.types.now.levels c.args.component.now.type_id.0 in
    if_any _ (component_absent (shape_of_type c.args.types.now.list.now c.args.types.now.levels) c.args.types.now.levels (Inside c.args.types.now.list.now c.args.types.now.levels) c.args.component.now c.args.index c.args.decoder.now _
    (c.if-is_always_there.ensures, subst (λ b. NextIs (sought_by (key_of s) s) c.args.decoder.now (Ok b)) h c.in-Ok-false.ensures))

pub decode_set_components-returns-clause-listed : goal.decode_set_components-returns-clause-listed
decode_set_components-returns-clause-listed g t c = members_listed (shape_of_type c.args.types.now.list.now c.args.types.now.levels) c.args.types.now.levels (Inside c.args.types.now.list.now c.args.types.now.levels) c.args.members.now.extensible c.args.members.now.components.now c.args.members.now.other_id.0 c.loop-last.invariant.4 c.args.decoder.now c.loop-last.decoder _ _ c.loop-last-test.ensures c.loop-last.invariant.5

pub decode_set_components-returns-then-not-members-clause-listed : goal.decode_set_components-returns-then-not-members-clause-listed
decode_set_components-returns-then-not-members-clause-listed g t c = members_listed (shape_of_type c.args.types.now.list.now c.args.types.now.levels) c.args.types.now.levels (Inside c.args.types.now.list.now c.args.types.now.levels) c.args.members.now.extensible c.args.members.now.components.now c.args.members.now.other_id.0 c.loop-last.invariant.4 c.args.decoder.now c.loop-last.decoder _ _ c.loop-last-test.ensures c.loop-last.invariant.5

pub decode_set_component-returns-clause-listed : goal.decode_set_component-returns-clause-listed
decode_set_component-returns-clause-listed g t c = member_listed (shape_of_type c.args.types.now.list.now c.args.types.now.levels) c.args.types.now.levels (Inside c.args.types.now.list.now c.args.types.now.levels) c.args.members.now.extensible c.args.members.now.components.now c.args.members.now.other_id.0 c.in-Some.number c.in-Some.component.now c.args.decoder.now _ _ _ c.in-Some.ensures.0 c.in_ok-decode_present.ensures.listed

pub decode_set_component-returns-in_default-clause-listed : goal.decode_set_component-returns-in_default-clause-listed
decode_set_component-returns-in_default-clause-listed g t c =
    unknown_passed (shape_of_type c.args.types.now.list.now c.args.types.now.levels) c.args.types.now.levels (Inside c.args.types.now.list.now c.args.types.now.levels) c.args.members.now.extensible c.args.members.now.components.now c.args.members.now.other_id.0 _ c.args.decoder.now _ _ _
    (passed_unknown c.args.members.now.extensible _ c.args.decoder.now _ c.in_ok-tag.tag c.in_ok-tag.ensures.next c.in_default.ensures (search rules) (tree_of c.in_ok-other.other) c.in_ok-other.ensures.reads) refl c.in_ok-other.ensures.listed

pub decode_compared-returns-in-None-clause-listed : goal.decode_compared-returns-in-None-clause-listed
decode_compared-returns-in-None-clause-listed g t c =
    let w = c.in-None.ensures.reads in
    let P : State → Spans → Type 0 = λ z o. IfOk (outcome c.decode_part.result c.decode_part.new.out c.decode_part.new.walk.error) (λ v. Lists (λ b es. PartListed (shape_of_type c.args.types.now.list.now c.args.types.now.levels) c.args.types.now.levels (Inside c.args.types.now.list.now c.args.types.now.levels) c.args.id.0 c.args.index b z c.decode_part.new.decoder es) o c.decode_part.new.walk.spans) in
    subst (λ o. P c.args.decoder.now o) c.in-None.ensures.listed (subst (λ z. P z c.decode_value.new.walk.spans) w.1 c.decode_part.ensures.listed)

-- ---- contents

-- put_components

pub put_components-decode_components-requires : goal.put_components-decode_components-requires
put_components-decode_components-requires g t c = λ κs o. (search rules, (search rules, (rw c.deref.ensures.value c.requires.lawful, (c.in_ok-values.ensures.ok, c.requires.clear))))

pub put_components-returns-in_err-values : goal.put_components-returns-in_err-values
put_components-returns-in_err-values g t c = rw (residual _ c.from_residual.ensures.1) (record {
  exact = (sequence_runs_out _ _ c.list_for.new.error c.in_err-values.ensures.kind, inr c.in_err-values.ensures.kind);
  fits = λ k s v. tt;
  rules = c.in_err-values.ensures.rules;
  told = λ x q. absurd (not_named _ x q c.requires.clear);
  itself = λ n. inl c.in_err-values.ensures.kind;
  listed = tt;
})

pub put_components-returns-in_err-decode_components : goal.put_components-returns-in_err-decode_components
put_components-returns-in_err-decode_components g t c = rw (residual _ c.from_residual-in_err-decode_components.ensures.1)
    (components_refused c.args.types.now.list.now c.args.types.now.levels g.M.Made.KEEP c.args.decoder.now c.args.walk.now.spans c.decode_components.new.decoder c.decode_components.new.walk.fault c.decode_components.new.walk.spans c.args.components.now c.deref.result.now c.deref.ensures.value c.decode_components.new.walk.error c.in_err-decode_components.ensures.reads c.in_err-decode_components.ensures.fails c.in_err-decode_components.ensures.rules c.in_err-decode_components.ensures.told c.in_err-decode_components.ensures.itself)

pub put_components-returns : goal.put_components-returns
put_components-returns g t c =
    components_put c.args.types.now.list.now c.args.types.now.levels g.M.Made.KEEP c.args.decoder.now c.args.walk.now.spans c.decode_components.new.decoder c.decode_components.new.walk.fault c.decode_components.new.walk.spans c.args.components.now c.deref.result.now c.deref.ensures.value c.decode_components.new.values _ c.put_items.ensures c.in_ok-decode_components.ensures.reads c.in_ok-decode_components.ensures.fits c.in_ok-decode_components.ensures.told c.in_ok-decode_components.ensures.listed

-- put_elements

pub put_elements-decode_elements-requires : goal.put_elements-decode_elements-requires
put_elements-decode_elements-requires g t c = λ κs o. (search rules, (search rules, (c.requires.lawful, (c.new-values.ensures.items, (c.requires.short, c.requires.clear)))))

pub put_elements-returns-in_err-count : goal.put_elements-returns-in_err-count
put_elements-returns-in_err-count g t c = rw (residual _ c.from_residual.ensures.1) (record {
  exact = c.in_err-count.ensures.reads;
  fits = λ k s v. tt;
  rules = c.in_err-count.ensures.rules;
  told = c.in_err-count.ensures.told;
  itself = c.in_err-count.ensures.itself;
  listed = tt;
})

pub put_elements-returns : goal.put_elements-returns
put_elements-returns g t c =
    elements_put c.args.types.now.list.now c.args.types.now.levels g.M.Made.KEEP c.args.decoder.now c.args.walk.now.spans c.decode_elements.new.decoder c.decode_elements.new.walk.fault c.decode_elements.new.walk.spans c.args.element c.in_ok-count.count c.decode_elements.new.values _ c.put_items.ensures c.in_ok-count.ensures.reads c.in_ok-count.ensures.fits c.in_ok-count.ensures.told c.in_ok-count.ensures.listed

pub put_elements_in_order-decode_elements_in_order-requires : goal.put_elements_in_order-decode_elements_in_order-requires
put_elements_in_order-decode_elements_in_order-requires g t c = λ κs o. (search rules, (search rules, (c.requires.lawful, (c.new-values.ensures.items, (c.requires.short, c.requires.clear)))))

pub put_elements_in_order-returns-in_err-count : goal.put_elements_in_order-returns-in_err-count
put_elements_in_order-returns-in_err-count g t c = rw (residual _ c.from_residual.ensures.1) (record {
  exact = c.in_err-count.ensures.reads;
  fits = λ k s v. tt;
  rules = c.in_err-count.ensures.rules;
  told = c.in_err-count.ensures.told;
  itself = c.in_err-count.ensures.itself;
  listed = tt;
})

pub put_elements_in_order-returns : goal.put_elements_in_order-returns
put_elements_in_order-returns g t c =
    set_of_put c.args.types.now.list.now c.args.types.now.levels g.M.Made.KEEP c.args.decoder.now c.args.walk.now.spans c.decode_elements_in_order.new.decoder c.decode_elements_in_order.new.walk.fault c.decode_elements_in_order.new.walk.spans c.args.element c.in_ok-count.count c.decode_elements_in_order.new.values _ c.put_in_any_order.ensures c.in_ok-count.ensures.reads c.in_ok-count.ensures.fits c.in_ok-count.ensures.told c.in_ok-count.ensures.listed

-- put_set_components

pub put_set_components-decode_set_components-requires : goal.put_set_components-decode_set_components-requires
put_set_components-decode_set_components-requires g t c = λ κs o. (
  search rules,
  (
    search rules,
    (
      subst (λ l. AreLawfulMembers (components_by (shape_of_type c.args.types.now.list.now c.args.types.now.levels) l)) (sym c.named_components-extensible.ensures.named) (rw c.deref-components.ensures.value c.requires.lawful),
      (
        subst (λ z. IfOk z (λ v. v.items ≡ nones c.named_components-extensible.result.0.now)) (sym c.in_ok-found.ensures) c.no_components.ensures.ok,
        (c.requires.clear, λ x. ap (shape_of_type c.args.types.now.list.now c.args.types.now.levels) c.last_type.ensures ∙ last_unknown (shape_of_type c.args.types.now.list.now c.args.types.now.levels) c.deref-components.result.now (sym c.named_components-extensible.ensures.extensible ∙ x)),
      ),
    ),
  ),
)

pub put_set_components-returns-in_err-found : goal.put_set_components-returns-in_err-found
put_set_components-returns-in_err-found g t c = rw (residual _ c.from_residual.ensures.1) (record {
  exact = inr ((subst (λ z. IfErr z (λ e. IsOutOfMemory e.kind)) (sym c.in_err-found.ensures) c.no_components.ensures.err), kept c.args.decoder.now);
  fits = λ k s v. tt;
  rules = subst (λ z. IfErr z (λ e. e.codec ≡ c.args.decoder.now.rule)) (sym c.in_err-found.ensures) c.no_components.ensures.rules;
  told = λ x q. absurd (not_named _ x q c.requires.clear);
  itself = λ n. inl (subst (λ z. IfErr z (λ e. IsOutOfMemory e.kind)) (sym c.in_err-found.ensures) c.no_components.ensures.err);
  listed = tt;
})

pub put_set_components-returns-in_err-values : goal.put_set_components-returns-in_err-values
put_set_components-returns-in_err-values g t c = rw (residual _ c.from_residual-in_err-values.ensures.1)
    (members_refused c.args.types.now.list.now c.args.types.now.levels g.M.Made.KEEP c.args.decoder.now c.args.walk.now.spans c.decode_set_components.new.decoder c.decode_set_components.new.walk.fault c.decode_set_components.new.walk.spans c.args.name.now c.args.components.now c.deref-components.result.now c.deref-components.ensures.value c.named_components-extensible.result.1 c.named_components-extensible.result.0.now c.last_type.result.0 c.named_components-extensible.ensures.extensible c.named_components-extensible.ensures.named c.last_type.ensures c.decode_set_components.new.walk.error c.in_err-values.ensures.exact c.in_err-values.ensures.rules c.in_err-values.ensures.told
    (λ n. subst (λ t. StopsInSet (shape_of_type c.args.types.now.list.now c.args.types.now.levels) t c.named_components-extensible.result.1 c.named_components-extensible.result.0.now c.args.decoder.now c.decode_set_components.new.walk.error) c.as_str.ensures.value (c.in_err-values.ensures.itself n)))

pub put_set_components-returns : goal.put_set_components-returns
put_set_components-returns g t c =
    members_put c.args.types.now.list.now c.args.types.now.levels g.M.Made.KEEP c.args.decoder.now c.args.walk.now.spans c.decode_set_components.new.decoder c.decode_set_components.new.walk.fault c.decode_set_components.new.walk.spans c.args.name.now c.args.components.now c.deref-components.result.now c.deref-components.ensures.value c.named_components-extensible.result.1 c.named_components-extensible.result.0.now c.last_type.result.0 c.named_components-extensible.ensures.extensible c.named_components-extensible.ensures.named c.last_type.ensures c.in_ok-values.values _ c.put_items.ensures c.in_ok-values.ensures.exact c.in_ok-values.ensures.fits c.in_ok-values.ensures.told c.in_ok-values.ensures.listed
