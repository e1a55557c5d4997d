-- A value that holds others is read: its header, its contents and its end.
use Rattle.std.proofs.Common.{◌≡◌, ◌≢◌, ◌+◌, ◌<◌, ◌≤◌, ◌^◌, ℕ, Bool, true, List, length, Vec, Global, String, Option, Some, None, Result, Ok, Err, refl, sym, ap, ◌∙◌, subst, arith}
use Rattle.std.specs.Prelude.{◌⊎◌, IfOk, IfErr}
use Rattle.std.specs.String.{string_bytes}
use Rattle.rasn_types.specs.declared.error.decode.DecodeError.{DecodeError}
use Rattle.rasn_types.specs.declared.types.constraints.Constraints.{Constraints}
use Rattle.rasn_types.specs.declared.types.tag.Tag.{Tag}
use Rattle.rasn_types.specs.Errors.{IsOutOfMemory}
use Rattle.rasn_types.specs.Framing.{AreOctets, indefinite}
use Rattle.rasn_types.specs.Shapes.{Shape, Tree, items}
use Rattle.rasn_types.specs.Tags.{eoc}
use Rattle.rasn_types.specs.Trees.{unconstrained}
use Rattle.rasn_de.specs.State.{State, Call, EachCall, IsEnd}
use Rattle.rasn_de.specs.Decodes.{DecodesBy}
use Rattle.rasn_de.specs.ParserViews.{extent}
use Rattle.rasn_de.specs.PartTypes.{FailsAtPart}
use Rattle.rasn_de.specs.SetPartTypes.{DecodesSetPartContents}
use Rattle.rasn_de.specs.SequenceOf.{DecodesElements, DecodesElementsInOrder, DecodesSized}
use Rattle.rasn_de.specs.declared.ber.de.parser.Contents.{Contents}
use Rattle.rasn_de.specs.declared.ber.de.constructed.ConstructedHeader.{ConstructedHeader}
use Rattle.rasn_de.specs.Constructed.{sequence_header, list_header, prefix_header, ConsumesOpening, ConsumesEnd, DecodesInside}
use Rattle.rasn_de.proofs.Leaves.Rules.{codec_is, same_rules}
use Rattle.rasn_de.proofs.Constructed.Steps.{step_none, step_refused, step_end, step_unclosed, step_closed, inside_by}
use Rattle.rasn_schema.specs.declared.type_id.TypeId.{TypeId}
use Rattle.rasn_schema.specs.declared.types.Component.{Component}
use Rattle.rasn_schema.specs.declared.types.«Type».{«Type»}
use Rattle.rasn_schema.specs.declared.types.«Type».TheVariants.{Leaf, Enumerated, Any, Unknown, Tagged, Choice, Sequence, Set, SequenceOf, SetOf}
use Rattle.rasn_schema.specs.declared.value.Value.{Value, Items, Elements as ElementsOf}
use Rattle.rasn_schema.specs.Shapes.{shape_of_type, type_by, components_by}
use Rattle.rasn_schema.specs.Trees.{tree_of}
use Rattle.rasn_schema.specs.Fitting.{ComponentsFit, EachFits, AreItems, AreElements}
use Rattle.rasn_dynamic.specs.declared.walk.Refused.{Refused}
use Rattle.rasn_dynamic.specs.declared.trace.UnreadValue.{UnreadValue}
use Rattle.rasn_dynamic.specs.declared.span.Spans.{Spans}
use Rattle.rasn_dynamic.specs.Inside.{ReadsSequence, DecodesTree}
use Rattle.rasn_dynamic.specs.Making.{Making, Counting, IsLength, outcome, reported, trees_of, these}
use Rattle.rasn_dynamic.specs.Calls.{names_of}
use Rattle.rasn_dynamic.specs.Found.{MembersFit}
use Rattle.rasn_dynamic.specs.Sets.{is_extensible, named_components, last_type}
use Rattle.rasn_dynamic.specs.Typed.{elements, element_count, IsSized, MayRunOut, DecodesComponents, HoldsOthers, DecodesContents, DecodesType}
use Rattle.rasn_dynamic.specs.Faults.{octets_after, IsFaultIn, IsFaultOf, IsFaultInside, IsAnyPart, IsOnly, IsComponentAt, IsMemberAfter, Told, TellsOf, ReadsEachPart, StopsInSequence, StopsInSet, FailsItself}
use Rattle.rasn_dynamic.specs.Listed.{Lists, Inside, IsInside, IsOutside, PartListed, InsideListed, ComponentsListed, MembersListed, ElementsListed}
use Rattle.rasn_dynamic.specs.Times.{Covers, FitsFromBy, FitsFrom}
use Rattle.rasn_dynamic.specs.Parts.{IsHeaderOf}
use Rattle.rasn_dynamic.specs.Readers.{IsCounted, DecodesCounted, count_of, DecodesHeld, IsSizedAs, ReadsContents, ReadsType}
use Rattle.rasn_dynamic.proofs.Making.{made_as, items_made, elements_made}
use Rattle.rasn_dynamic.proofs.Typed.{contents_end, contents_stay, is_sized, missized, not_sized, type_decodes, count_items, named_so}
use Rattle.rasn_dynamic.proofs.FitsRead.{if_ok, are_items, are_elements, members_fit}
use Rattle.rasn_dynamic.proofs.Times.{covers_inside}
use Rattle.rasn_dynamic.proofs.Faults.{opened, opened_short, not_named, unmoved, named, unnamed, tells, told_map, got_inside, if_err_map}
use Rattle.rasn_dynamic.proofs.Listed.{HasHeader, HoldsNone, if_any, inside_listed, holder_listed, tagged_listed, none_listed, components_same}

-- What is read of a value with this header, whose contents are read as `read` says.
pub record ReadsHeld (types : List «Type») (below : ℕ) (keep : Bool) (ty : «Type») (read : Call Tree) (d : ConstructedHeader)
    (old : State) (before : Spans) (r : Result Value DecodeError) (new : State) (fault : Option UnreadValue) (after : Spans) : Type 0 where
  pub exact : Making keep tree_of (DecodesInside read d) old r new
  pub octets : old.depth ≢ 0 → AreOctets old.rest
  pub fits : keep ≡ true → (s : State) → Covers s old → IfOk r (FitsFromBy s (FitsFrom s types below) ty)
  pub rules : IfErr r (λ e. e.codec ≡ old.rule)
  pub told : Told (IsFaultInside types below d ty old) r fault
  pub itself : IfErr r (λ e. fault ≡ None → DecodesInside (ReadsEachPart (shape_of_type types below) ty) d old (Err e) new)
  pub listed : IfOk r (λ v. Lists (λ b es. InsideListed (shape_of_type types below) below (Inside types below) d ty b old es) before after)

-- What is counted is read.
pub counted : (read : Call Tree) (n : ℕ) → EachCall (DecodesCounted read n) read
counted read n o (Ok t) m h = h.1
counted read n o (Err e) m h = h

pub inside_held : (f : ℕ → Shape) (ty : «Type») (n : ℕ) → EachCall (DecodesHeld f ty n) (DecodesContents f ty)
inside_held f (Leaf kind tag c names) n o r m h = h
inside_held f (Enumerated tag ns) n o r m h = h
inside_held f (Any tag) n o r m h = h
inside_held f Unknown n o r m h = h
inside_held f (Tagged tag id) n o r m h = h
inside_held f (Choice name ks) n o r m h = h
inside_held f (Sequence tag ps) n o r m h = h
inside_held f (Set name tag ps) n o r m h = h
inside_held f (SequenceOf tag id c) n o r m h = counted (DecodesContents f (SequenceOf tag id c)) n o r m h
inside_held f (SetOf tag id c) n o r m h = counted (DecodesContents f (SetOf tag id c)) n o r m h

-- The number is passed on.
pub count_is : (n : ℕ) (q : Result ℕ Refused) (old : Option UnreadValue) (m : ℕ) (new : Option UnreadValue) → IsCounted n q old (Ok m) new → m ≡ count_of q
count_is n (Ok k) old m new w = w.0
count_is n (Err p) old m new w = absurd w

-- No other type than these two has a bound.
pub unbounded : (ty : «Type») → ((tag : Tag) (id : TypeId) (c : Constraints) → ty ≡ SequenceOf tag id c → ⊥) → ((tag : Tag) (id : TypeId) (c : Constraints) → ty ≡ SetOf tag id c → ⊥)
    → (s : State) (n : ℕ) → IsSizedAs ty s n (Ok tt)
unbounded (Leaf kind tag c names) a b s n = refl
unbounded (Enumerated tag ns) a b s n = refl
unbounded (Any tag) a b s n = refl
unbounded Unknown a b s n = refl
unbounded (Tagged tag id) a b s n = refl
unbounded (Choice name ks) a b s n = refl
unbounded (Sequence tag ps) a b s n = refl
unbounded (Set name tag ps) a b s n = refl
unbounded (SequenceOf tag id c) a b s n = absurd (a tag id c refl)
unbounded (SetOf tag id c) a b s n = absurd (b tag id c refl)

-- A type with a header holds others.
pub holds_others : (ty : «Type») (d : ConstructedHeader) → IsHeaderOf ty (Some d) → HoldsOthers ty
holds_others (Leaf kind tag c names) d e = absurd cc
holds_others (Enumerated tag ns) d e = absurd cc
holds_others (Any tag) d e = absurd cc
holds_others Unknown d e = absurd cc
holds_others (Tagged tag id) d e = tt
holds_others (Choice name ks) d e = absurd cc
holds_others (Sequence tag ps) d e = tt
holds_others (Set name tag ps) d e = tt
holds_others (SequenceOf tag id c) d e = tt
holds_others (SetOf tag id c) d e = tt

module _ (types : List «Type») (below : ℕ) (keep : Bool) where
  abbrev f : ℕ → Shape
  f = shape_of_type types below

  module _ (ty : «Type») (read : Call Tree) (d : ConstructedHeader)
      (old : State) (octets : old.depth ≢ 0 → AreOctets old.rest) (before : Spans) where
    abbrev Held : Result Value DecodeError → State → Option UnreadValue → Spans → Type 0
    Held r new fault after = ReadsHeld types below keep ty read d old before r new fault after

    -- The value isn't opened.
    pub unopened : (o : Result (State × Contents) DecodeError) (e : DecodeError) (mid : State) (fault : Option UnreadValue) (after : Spans)
        → Err e ≡ o → ConsumesOpening d old o mid → fault ≡ None → Held (Err e) mid fault after
    unopened o e mid fault after q w clear =
        let k : ConsumesOpening d old (Err e) mid = subst (λ z. ConsumesOpening d old z mid) (sym q) w in
        record {
          exact = step_none read d old e mid k;
          octets = octets;
          fits = λ y s v. tt;
          rules = codec_is k.2;
          told = λ x s. absurd (not_named fault x s clear);
          itself = λ n. step_none (ReadsEachPart f ty) d old e mid k;
          listed = tt;
        }

    -- It is opened, and its contents are read, or aren't.
    module _ (them : EachCall read (DecodesContents f ty)) (p : State) (c : Contents) (mid : State) (w : ConsumesOpening d old (Ok (p, c)) mid)
        (q : Result ℕ Refused) (out : Value) (error : DecodeError) (left : State) (told : Option UnreadValue) (inside spans : Spans)
        (h : ReadsContents types below keep ty read p inside (outcome q out error) left told spans) where
      abbrev Contained : Result ℕ Refused → Type 0
      Contained r = ReadsContents types below keep ty read p inside (outcome r out error) left told spans

      abbrev following : ℕ
      following = octets_after left.closing (length mid.rest)

      stays : (e : DecodeError) → read p (Err e) left → left.closing ≡ p.closing
      stays e k = ap (λ (s : State). s.closing) (contents_stay f ty p e left (them p (Err e) left k))

      short_by : (r : Result ℕ Refused) → Contained r → (x : UnreadValue) → told ≡ Some x → x.left + following ≤ length old.rest
      short_by (Ok u) k x s = absurd (not_named told x s k.told)
      short_by (Err n) k x s =
          opened_short types d old octets p c mid w below (IsAnyPart f ty p) error x left.closing following (stays error k.exact) refl (k.told x s)

      pub may_count : (n : ℕ) → n ≡ length old.rest → n < 2 ^ 64 → (x : UnreadValue) → told ≡ Some x → x.left + following < 2 ^ 64
      may_count n l m x s = omega (arith, l, m, short_by q h x s)

      refused_by : (r : Result ℕ Refused) → Contained r → (x : Refused) (fault : Option UnreadValue) (after : Spans)
          → IsCounted following r told (Err x) fault → Held (Err error) mid fault after
      refused_by (Ok u) k x fault after n = absurd n
      refused_by (Err y) k x fault after n = record {
        exact = step_refused read d old p c mid w error left k.exact;
        octets = octets;
        fits = λ z s v. tt;
        rules = k.rules ∙ same_rules w.2;
        told = opened types d old octets p c mid w below ty error left.closing following (stays error k.exact) refl told fault k.told n;
        itself = λ z. step_refused (ReadsEachPart f ty) d old p c mid w error left (k.itself (unmoved following told fault n z));
        listed = tt;
      }

      pub refused : (x : Refused) (fault : Option UnreadValue) (after : Spans) → IsCounted following q told (Err x) fault → Held (Err error) mid fault after
      refused = refused_by q h

      -- They are: then the value may be closed.
      end_by : (r : Result ℕ Refused) → Contained r → (u : ℕ) (fault : Option UnreadValue) → IsCounted following r told (Ok u) fault
          → IsEnd p.rest left.rest
      end_by (Ok v) k u fault n = contents_end f ty p k.exact.0 left (them p (Ok k.exact.0) left k.exact.2)
      end_by (Err y) k u fault n = absurd n

      pub may_close : (u : ℕ) (fault : Option UnreadValue) → IsCounted following q told (Ok u) fault → (l : List ℕ) → l ≡ left.rest
          → extent c ≡ indefinite → IsEnd mid.rest l
      may_close u fault n l m = step_end read d old p c mid w left.rest l (end_by q h u fault n) m

      module _ (u : ℕ) (fault : Option UnreadValue) (n : IsCounted following q told (Ok u) fault) (after : Spans) (l : List ℕ) (m : l ≡ left.rest) (new : State) where
        unclosed_by : (r : Result ℕ Refused) → Contained r → IsCounted following r told (Ok u) fault
            → (e : DecodeError) → ConsumesEnd (extent c) l mid (Err e) new → Held (Err e) new fault after
        unclosed_by (Err y) k z e g = absurd z
        unclosed_by (Ok v) k z e g = record {
          exact = step_unclosed read d old p c mid w k.exact.0 left k.exact.2 l m e new g;
          octets = octets;
          fits = λ y s v. tt;
          rules = codec_is g.2 ∙ same_rules w.5.stays;
          told = λ x s. absurd (not_named fault x s (z.1 ∙ k.told));
          itself = λ y. step_unclosed (ReadsEachPart f ty) d old p c mid w k.exact.0 left (them p (Ok k.exact.0) left k.exact.2) l m e new g;
          listed = tt;
        }

        pub unclosed : (e : DecodeError) → ConsumesEnd (extent c) l mid (Err e) new → Held (Err e) new fault after
        unclosed = unclosed_by q h n

        closed_by : (r : Result ℕ Refused) → Contained r → IsCounted following r told (Ok u) fault
            → (a : ℕ) → IsInside (octets_after p.closing (length mid.rest)) before a inside → IsOutside a spans after
            → ConsumesEnd (extent c) l mid (Ok tt) new → Held (Ok out) new fault after
        closed_by (Err y) k z a goes leaves g = absurd z
        closed_by (Ok v) k z a goes leaves g = record {
          exact = (k.exact.0, k.exact.1, step_closed read d old p c mid w k.exact.0 left k.exact.2 l m new g);
          octets = octets;
          fits = λ y s v. k.fits y s (covers_inside d old octets p c mid w s v);
          rules = tt;
          told = z.1 ∙ k.told;
          itself = tt;
          listed = inside_listed f below (Inside types below) ty d old mid p c a before inside spans after w goes k.listed leaves;
        }

        pub closed : (a : ℕ) → IsInside (octets_after p.closing (length mid.rest)) before a inside → IsOutside a spans after
            → ConsumesEnd (extent c) l mid (Ok tt) new → Held (Ok out) new fault after
        closed = closed_by q h n

  -- ---- a value of a type

  module _ (old : State) (before : Spans) (r : Result Value DecodeError) (new : State) (fault : Option UnreadValue) (after : Spans) where
    -- Its type says its header.
    typed : (ty : «Type») (d : ConstructedHeader) → HasHeader ty d → ReadsHeld types below keep ty (DecodesContents f ty) d old before r new fault after
        → ((q : Result Tree DecodeError) → DecodesInside (DecodesContents f ty) d old q new → DecodesType f ty old q new)
        → ((e : DecodeError) (x : UnreadValue) → IsFaultInside types below d ty old e x → IsFaultOf types below ty old e x)
        → ((e : DecodeError) → DecodesInside (ReadsEachPart f ty) d old (Err e) new → FailsItself f ty old e) → ReadsType types below keep ty old before r new fault after
    typed ty d has h same told itself =
        let k = made_as keep tree_of (DecodesInside (DecodesContents f ty) d) (DecodesType f ty) old r new same h.exact in
        record {
          exact = k;
          reads = made_as keep tree_of (DecodesType f ty) (DecodesTree (type_by f ty)) old r new (λ q. type_decodes f old h.octets q new ty) k;
          fits = h.fits;
          rules = h.rules;
          told = told_map (IsFaultInside types below d ty old) (IsFaultOf types below ty old) told r fault h.told;
          itself = if_err_map _ _ (λ e x n. itself e (x n)) r h.itself;
          listed = if_ok _ _ r (λ v. holder_listed f below (Inside types below) ty d old before after has) h.listed;
        }

    pub tagged : (tag : Tag) (id : TypeId) (d : ConstructedHeader) → d ≡ prefix_header tag
        → ReadsHeld types below keep (Tagged tag id) (DecodesContents f (Tagged tag id)) d old before r new fault after → ReadsType types below keep (Tagged tag id) old before r new fault after
    tagged tag id d e h =
        typed (Tagged tag id) (prefix_header tag) refl (subst (λ z. ReadsHeld types below keep (Tagged tag id) (DecodesContents f (Tagged tag id)) z old before r new fault after) e h)
        (λ q k. k) (λ k x i. i) (λ k i. (new, i))

    pub sequence : (tag : Tag) (ps : Vec Component Global) (d : ConstructedHeader) → d ≡ sequence_header tag
        → ReadsHeld types below keep (Sequence tag ps) (DecodesContents f (Sequence tag ps)) d old before r new fault after → ReadsType types below keep (Sequence tag ps) old before r new fault after
    sequence tag ps d e h =
        typed (Sequence tag ps) (sequence_header tag) refl (subst (λ z. ReadsHeld types below keep (Sequence tag ps) (DecodesContents f (Sequence tag ps)) z old before r new fault after) e h)
        (λ q k. k) (λ k x i. i) (λ k i. (new, i))

    pub set : (name : String Global) (tag : Tag) (ps : Vec Component Global) (d : ConstructedHeader) → d ≡ sequence_header tag
        → ReadsHeld types below keep (Set name tag ps) (DecodesContents f (Set name tag ps)) d old before r new fault after → ReadsType types below keep (Set name tag ps) old before r new fault after
    set name tag ps d e h =
        typed (Set name tag ps) (sequence_header tag) refl (subst (λ z. ReadsHeld types below keep (Set name tag ps) (DecodesContents f (Set name tag ps)) z old before r new fault after) e h)
        (λ q k. k) (λ k x i. i) (λ k i. (new, i))

  -- ---- contents, whatever the tag and the bound are

  module _ (old : State) (before : Spans) (r : Result Value DecodeError) (new : State) (fault : Option UnreadValue) (after : Spans) where
    -- What an explicit tag holds is a part.
    pub tagged_contents : (tag : Tag) (id : TypeId)
        → Making keep tree_of (DecodesTree (f id.0)) old r new → (keep ≡ true → (s : State) → Covers s old → IfOk r (λ v. FitsFrom s types below id.0 v)) → IfErr r (λ e. e.codec ≡ old.rule)
        → TellsOf (IsFaultIn types below (IsOnly 0 id.0 old) old old) r fault
        → IfOk r (λ v. Lists (λ b es. PartListed f below (Inside types below) id.0 0 b old new es) before after)
        → ReadsContents types below keep (Tagged tag id) (DecodesContents f (Tagged tag id)) old before r new fault after
    tagged_contents tag id exact fits rules told listed = record {
      exact = exact;
      fits = fits;
      rules = rules;
      told = tells (IsFaultIn types below (IsOnly 0 id.0 old) old old) _ (λ k x i. i) r fault told;
      itself = named _ _ r fault told;
      listed = if_ok _ _ r (λ v. tagged_listed f below (Inside types below) (Tagged tag id) id.0 old new before after refl) listed;
    }

    pub sequence_contents : (tag : Tag) (ps : Vec Component Global) → ReadsContents types below keep (Sequence eoc ps) (DecodesContents f (Sequence eoc ps)) old before r new fault after
        → ReadsContents types below keep (Sequence tag ps) (DecodesContents f (Sequence tag ps)) old before r new fault after
    sequence_contents tag ps h = record { exact = h.exact; fits = h.fits; rules = h.rules; told = h.told; itself = h.itself; listed = h.listed }

    pub set_contents : (name : String Global) (tag : Tag) (ps : Vec Component Global) → ReadsContents types below keep (Set name eoc ps) (DecodesContents f (Set name eoc ps)) old before r new fault after
        → ReadsContents types below keep (Set name tag ps) (DecodesContents f (Set name tag ps)) old before r new fault after
    set_contents name tag ps h = record { exact = h.exact; fits = h.fits; rules = h.rules; told = h.told; itself = h.itself; listed = h.listed }

    pub list_contents : (tag : Tag) (id : TypeId) (c : Constraints) (n : ℕ)
        → ReadsContents types below keep (SequenceOf eoc id unconstrained) (DecodesCounted (DecodesContents f (SequenceOf eoc id unconstrained)) n) old before r new fault after
        → ReadsContents types below keep (SequenceOf tag id c) (DecodesCounted (DecodesContents f (SequenceOf tag id c)) n) old before r new fault after
    list_contents tag id c n h = record { exact = h.exact; fits = h.fits; rules = h.rules; told = h.told; itself = h.itself; listed = h.listed }

    pub set_of_contents : (tag : Tag) (id : TypeId) (c : Constraints) (n : ℕ)
        → ReadsContents types below keep (SetOf eoc id unconstrained) (DecodesCounted (DecodesContents f (SetOf eoc id unconstrained)) n) old before r new fault after
        → ReadsContents types below keep (SetOf tag id c) (DecodesCounted (DecodesContents f (SetOf tag id c)) n) old before r new fault after
    set_of_contents tag id c n h = record { exact = h.exact; fits = h.fits; rules = h.rules; told = h.told; itself = h.itself; listed = h.listed }

  -- ---- the number of elements

  module _ (old : State) (before : Spans) (new : State) (fault : Option UnreadValue) (after : Spans)
      (tag : Tag) (c : Constraints) (n : ℕ) (d : ConstructedHeader) (i : d ≡ list_header tag) where
    abbrev Listing : «Type» → Result Value DecodeError → Type 0
    Listing ty r = ReadsHeld types below keep ty (DecodesCounted (DecodesContents f ty) n) d old before r new fault after

    module _ (ty : «Type») (has : HasHeader ty (list_header tag))
        (same : (q : Result Tree DecodeError) → DecodesSized (DecodesContents f ty) element_count tag c old q new → DecodesType f ty old q new)
        (named : (e : DecodeError) (x : UnreadValue) → IsFaultInside types below (list_header tag) ty old e x → IsFaultOf types below ty old e x)
        (itself : (e : DecodeError) → DecodesSized (ReadsEachPart f ty) element_count tag c old (Err e) new → FailsItself f ty old e) where
      -- The elements aren't read.
      unread : (e : DecodeError) → Listing ty (Err e) → ReadsType types below keep ty old before (Err e) new fault after
      unread e h =
          let k = inside_by (DecodesCounted (DecodesContents f ty) n) (DecodesContents f ty) d old (Err e) new h.exact (counted (DecodesContents f ty) n) in
          let s = same (Err e) (not_sized (DecodesContents f ty) tag c d i old new e k) in
          record {
            exact = s;
            reads = type_decodes f old h.octets (Err e) new ty s;
            fits = λ z s v. tt;
            rules = h.rules;
            told = λ x z. named e x (subst (λ y. IsFaultInside types below y ty old e x) i (h.told x z));
            itself = λ z. itself e (not_sized (ReadsEachPart f ty) tag c d i old new e (h.itself z));
            listed = tt;
          }

      sized : (out : Value) → Listing ty (Ok out) → (s : Result (Unit {0}) Refused) (e : DecodeError) → IsSized c new n (reported s e)
          → IfErr (reported s e) (λ x. x.codec ≡ new.rule) → ReadsType types below keep ty old before (outcome s out e) new fault after
      sized out h (Ok u) e w z =
          let k = inside_by (DecodesCounted (DecodesContents f ty) n) (DecodesContents f ty) d old (Ok h.exact.0) new h.exact.2 (counted (DecodesContents f ty) n) in
          let x = same (Ok h.exact.0) (is_sized (DecodesContents f ty) tag c d i old new h.exact.0 k n h.exact.2.1.call.0 w) in
          record {
            exact = (h.exact.0, h.exact.1, x);
            reads = (h.exact.0, h.exact.1, type_decodes f old h.octets (Ok h.exact.0) new ty x);
            fits = h.fits;
            rules = tt;
            told = h.told;
            itself = tt;
            listed = holder_listed f below (Inside types below) ty (list_header tag) old before after has
                (subst (λ y. Lists (λ b es. InsideListed f below (Inside types below) y ty b old es) before after) i h.listed);
          }
      sized out h (Err u) e w z =
          let k = inside_by (DecodesCounted (DecodesContents f ty) n) (DecodesContents f ty) d old (Ok h.exact.0) new h.exact.2 (counted (DecodesContents f ty) n) in
          let x = same (Err e) (missized (DecodesContents f ty) tag c d i old new h.exact.0 k n h.exact.2.1.call.0 e w) in
          record {
            exact = x;
            reads = type_decodes f old h.octets (Err e) new ty x;
            fits = λ y s v. tt;
            rules = z ∙ same_rules h.exact.2.0.stays;
            told = λ y q. absurd (not_named fault y q h.told);
            itself = λ y. itself e (missized (ReadsEachPart f ty) tag c d i old new h.exact.0
                (got_inside (DecodesContents f ty) (ReadsEachPart f ty) (λ o v m g. g) d old h.exact.0 new k) n h.exact.2.1.call.0 e w);
            listed = tt;
          }

    module _ (id : TypeId) where
      pub list_unread : (e : DecodeError) → Listing (SequenceOf tag id c) (Err e) → ReadsType types below keep (SequenceOf tag id c) old before (Err e) new fault after
      list_unread e = unread (SequenceOf tag id c) refl (λ q k. k) (λ e x k. k) (λ e k. (new, k)) e

      pub list_sized : (out : Value) → Listing (SequenceOf tag id c) (Ok out) → (s : Result (Unit {0}) Refused) (e : DecodeError) → IsSized c new n (reported s e)
          → IfErr (reported s e) (λ x. x.codec ≡ new.rule) → ReadsType types below keep (SequenceOf tag id c) old before (outcome s out e) new fault after
      list_sized = sized (SequenceOf tag id c) refl (λ q k. k) (λ e x k. k) (λ e k. (new, k))

      pub set_of_unread : (e : DecodeError) → Listing (SetOf tag id c) (Err e) → ReadsType types below keep (SetOf tag id c) old before (Err e) new fault after
      set_of_unread e = unread (SetOf tag id c) refl (λ q k. k) (λ e x k. k) (λ e k. (new, k)) e

      pub set_of_sized : (out : Value) → Listing (SetOf tag id c) (Ok out) → (s : Result (Unit {0}) Refused) (e : DecodeError) → IsSized c new n (reported s e)
          → IfErr (reported s e) (λ x. x.codec ≡ new.rule) → ReadsType types below keep (SetOf tag id c) old before (outcome s out e) new fault after
      set_of_sized = sized (SetOf tag id c) refl (λ q k. k) (λ e x k. k) (λ e k. (new, k))

  -- ---- a value with its header, whatever its type is

  module _ (old : State) (before : Spans) (new : State) (fault : Option UnreadValue) (after : Spans) where
    -- It isn't opened, what is inside isn't read, or it isn't closed.
    pub enclosed_refused : (ty : «Type») (d : ConstructedHeader) → IsHeaderOf ty (Some d) → (n : ℕ) (e : DecodeError)
        → ReadsHeld types below keep ty (DecodesHeld f ty n) d old before (Err e) new fault after → ReadsType types below keep ty old before (Err e) new fault after
    enclosed_refused (Leaf kind tag c names) d i n e h = absurd cc
    enclosed_refused (Enumerated tag ns) d i n e h = absurd cc
    enclosed_refused (Any tag) d i n e h = absurd cc
    enclosed_refused Unknown d i n e h = absurd cc
    enclosed_refused (Tagged tag id) d i n e h = let same : d ≡ prefix_header tag = cc in tagged old before (Err e) new fault after tag id d same h
    enclosed_refused (Choice name ks) d i n e h = absurd cc
    enclosed_refused (Sequence tag ps) d i n e h = let same : d ≡ sequence_header tag = cc in sequence old before (Err e) new fault after tag ps d same h
    enclosed_refused (Set name tag ps) d i n e h = let same : d ≡ sequence_header tag = cc in set old before (Err e) new fault after name tag ps d same h
    enclosed_refused (SequenceOf tag id c) d i n e h = let same : d ≡ list_header tag = cc in list_unread old before new fault after tag c n d same id e h
    enclosed_refused (SetOf tag id c) d i n e h = let same : d ≡ list_header tag = cc in set_of_unread old before new fault after tag c n d same id e h

    unsized : (ty : «Type») (out : Value) → ReadsType types below keep ty old before (Ok out) new fault after
        → (s : Result (Unit {0}) Refused) (e : DecodeError) → reported s e ≡ Ok tt → ReadsType types below keep ty old before (outcome s out e) new fault after
    unsized ty out h (Ok u) e w = h
    unsized ty out h (Err u) e w = absurd cc

    -- It is closed, and then the number of elements is compared.
    pub enclosed_read : (ty : «Type») (d : ConstructedHeader) → IsHeaderOf ty (Some d) → (n : ℕ) (out : Value)
        → ReadsHeld types below keep ty (DecodesHeld f ty n) d old before (Ok out) new fault after
        → (s : Result (Unit {0}) Refused) (e : DecodeError) → IsSizedAs ty new n (reported s e) → IfErr (reported s e) (λ x. x.codec ≡ new.rule)
        → ReadsType types below keep ty old before (outcome s out e) new fault after
    enclosed_read (Leaf kind tag c names) d i n out h s e w z = absurd cc
    enclosed_read (Enumerated tag ns) d i n out h s e w z = absurd cc
    enclosed_read (Any tag) d i n out h s e w z = absurd cc
    enclosed_read Unknown d i n out h s e w z = absurd cc
    enclosed_read (Tagged tag id) d i n out h s e w z =
        let same : d ≡ prefix_header tag = cc in unsized (Tagged tag id) out (tagged old before (Ok out) new fault after tag id d same h) s e w
    enclosed_read (Choice name ks) d i n out h s e w z = absurd cc
    enclosed_read (Sequence tag ps) d i n out h s e w z =
        let same : d ≡ sequence_header tag = cc in unsized (Sequence tag ps) out (sequence old before (Ok out) new fault after tag ps d same h) s e w
    enclosed_read (Set name tag ps) d i n out h s e w z =
        let same : d ≡ sequence_header tag = cc in unsized (Set name tag ps) out (set old before (Ok out) new fault after name tag ps d same h) s e w
    enclosed_read (SequenceOf tag id c) d i n out h s e w z =
        let same : d ≡ list_header tag = cc in list_sized old before new fault after tag c n d same id out h s e w z
    enclosed_read (SetOf tag id c) d i n out h s e w z =
        let same : d ≡ list_header tag = cc in set_of_sized old before new fault after tag c n d same id out h s e w z

  -- ---- a value that holds no others

  module _ (old : State) (spans : Spans) (r : Result Value DecodeError) (new : State) (fault : Option UnreadValue) where
    exact_none : (ty : «Type») → HoldsNone ty → Making keep tree_of (DecodesTree (type_by f ty)) old r new → Making keep tree_of (DecodesType f ty) old r new
    exact_none (Leaf kind tag c names) h k = k
    exact_none (Enumerated tag ns) h k = k
    exact_none (Any tag) h k = k
    exact_none Unknown h k = k
    exact_none (Tagged tag id) h k = absurd h
    exact_none (Choice name ks) h k = absurd h
    exact_none (Sequence tag ps) h k = absurd h
    exact_none (Set name tag ps) h k = absurd h
    exact_none (SequenceOf tag id c) h k = absurd h
    exact_none (SetOf tag id c) h k = absurd h

    pub leaf_read : (ty : «Type») → HoldsNone ty → Making keep tree_of (DecodesTree (type_by f ty)) old r new → (keep ≡ true → (s : State) → Covers s old → IfOk r (FitsFromBy s (FitsFrom s types below) ty))
        → IfErr r (λ e. e.codec ≡ old.rule) → IfErr r (FailsItself f ty old) → fault ≡ None → ReadsType types below keep ty old spans r new fault spans
    leaf_read ty none reads fits rules fails clear = record {
      exact = exact_none ty none reads;
      reads = reads;
      fits = fits;
      rules = rules;
      told = unnamed (IsFaultOf types below ty old) r fault clear;
      itself = if_err_map (FailsItself f ty old) (λ e. fault ≡ None → FailsItself f ty old e) (λ e h n. h) r fails;
      listed = if_any r (none_listed f below (Inside types below) ty old spans none);
    }

  -- ---- the components of a SEQUENCE

  module _ (old : State) (before : Spans) (new : State) (fault : Option UnreadValue) (after : Spans) where
    module _ (ps : Vec Component Global) where
      abbrev InSequence : Result Value DecodeError → Type 0
      InSequence r = ReadsContents types below keep (Sequence eoc ps) (DecodesContents f (Sequence eoc ps)) old before r new fault after

      -- These are the components l.
      module _ (l : List Component) (e : l ≡ ps.items) where
        pub components_refused : (x : DecodeError) → DecodesBy (ReadsSequence (components_by f l)) items old (Err x) new → FailsAtPart (components_by f l) old x new ⊎ IsOutOfMemory x.kind
            → x.codec ≡ old.rule → ((y : UnreadValue) → fault ≡ Some y → IsFaultIn types below (IsComponentAt f l old) old old x y) → (fault ≡ None → StopsInSequence f l old x) → InSequence (Err x)
        components_refused x reads fails rules told itself = record {
          exact = subst (λ z. DecodesComponents (components_by f z) old (Err x) new) e (reads, fails);
          fits = λ k s v. tt;
          rules = rules;
          told = λ y s. subst (λ z. IsFaultIn types below (IsComponentAt f z old) old old x y) e (told y s);
          itself = λ n. subst (λ z. StopsInSequence f z old x) e (itself n);
          listed = tt;
        }

        pub components_put : (vs : Vec Value Global) (out : Value) → (keep ≡ true → out ≡ Items vs) → Making keep trees_of (DecodesBy (ReadsSequence (components_by f l)) items) old (Ok vs) new
            → (keep ≡ true → (s : State) → Covers s old → ComponentsFit (FitsFrom s types below) l vs.items) → fault ≡ None → Lists (λ b es. ComponentsListed f below (Inside types below) l b old es) before after → InSequence (Ok out)
        components_put vs out p w fits told listed = record {
          exact = (items w.0, (λ k. ap tree_of (p k) ∙ items_made keep vs w.0 w.1 k), (w.0, refl, subst (λ z. DecodesComponents (components_by f z) old (Ok w.0) new) e (w.2, tt)));
          fits = λ k s v. subst (λ z. AreItems (ComponentsFit (FitsFrom s types below) z) out) e
              (subst (AreItems (ComponentsFit (FitsFrom s types below) l)) (sym (p k)) (are_items (ComponentsFit (FitsFrom s types below) l) vs (fits k s v)));
          rules = tt;
          told = told;
          itself = tt;
          listed = components_same f below (Inside types below) l ps.items old before after e listed;
        }

    -- ---- those of a SET

    module _ (name : String Global) (ps : Vec Component Global) where
      abbrev InSet : Result Value DecodeError → Type 0
      InSet r = ReadsContents types below keep (Set name eoc ps) (DecodesContents f (Set name eoc ps)) old before r new fault after

      -- Of the components l, it names these, and there are unknown ones of the type `other`, or there are none.
      module _ (l : List Component) (e : l ≡ ps.items) (extensible : Bool) (qs : List Component) (other : ℕ)
          (marked : extensible ≡ is_extensible f l) (same : qs ≡ named_components f l) (last : other ≡ last_type l) where
        so : (P : Bool → List Component → ℕ → Type 0) → P extensible qs other → P (is_extensible f ps.items) (named_components f ps.items) (last_type ps.items)
        so P h = subst (λ z. P (is_extensible f z) (named_components f z) (last_type z)) e
            (subst (λ z. P (is_extensible f l) (named_components f l) z) last (named_so f extensible qs l marked same (λ b z. P b z other) h))

        abbrev Read : Result (List Tree) DecodeError → Bool → List Component → Type 0
        Read r b z = MayRunOut (DecodesSetPartContents b (components_by f z) items (names_of z)) old r new

        pub members_refused : (x : DecodeError) → Read (Err x) extensible qs → x.codec ≡ old.rule
            → ((y : UnreadValue) → fault ≡ Some y → IsFaultIn types below (IsMemberAfter f extensible qs other old) old old x y) → (fault ≡ None → StopsInSet f (string_bytes name) extensible qs old x) → InSet (Err x)
        members_refused x reads rules told itself = record {
          exact = so (λ b z o. Read (Err x) b z) reads;
          fits = λ k s v. tt;
          rules = rules;
          told = λ y s. so (λ b z o. IsFaultIn types below (IsMemberAfter f b z o old) old old x y) (told y s);
          itself = λ n. so (λ b z o. StopsInSet f (string_bytes name) b z old x) (itself n);
          listed = tt;
        }

        pub members_put : (vs : Vec Value Global) (out : Value) → (keep ≡ true → out ≡ Items vs)
            → Making keep trees_of (MayRunOut (DecodesSetPartContents extensible (components_by f qs) items (names_of qs))) old (Ok vs) new
            → (keep ≡ true → (s : State) → Covers s old → MembersFit (FitsFrom s types below) extensible qs vs.items) → fault ≡ None
            → Lists (λ b es. MembersListed f below (Inside types below) extensible qs other b old es) before after → InSet (Ok out)
        members_put vs out p w fits told listed = record {
          exact = (items w.0, (λ k. ap tree_of (p k) ∙ items_made keep vs w.0 w.1 k), (w.0, refl, so (λ b z o. Read (Ok w.0) b z) w.2));
          fits = λ k s v. subst (AreItems (ComponentsFit (FitsFrom s types below) ps.items)) (sym (p k)) (are_items (ComponentsFit (FitsFrom s types below) ps.items) vs
              (members_fit s types below ps.items vs.items (so (λ b z o. MembersFit (FitsFrom s types below) b z vs.items) (fits k s v))));
          rules = tt;
          told = told;
          itself = tt;
          listed = so (λ b z o. Lists (λ n es. MembersListed f below (Inside types below) b z o n old es) before after) listed;
        }

    -- ---- elements

    module _ (id : TypeId) (n : ℕ) where
      abbrev Elements : «Type» → Result Value DecodeError → Type 0
      Elements ty r = ReadsContents types below keep ty (DecodesCounted (DecodesContents f ty) n) old before r new fault after

      pub elements_put : (vs : Vec Value Global) (out : Value) → (keep ≡ true → out ≡ Items vs) → Counting keep trees_of IsLength (DecodesElements (DecodesTree (f id.0)) these) old (Ok vs) new n
          → (keep ≡ true → (s : State) → Covers s old → EachFits (FitsFrom s types below id.0) vs.items) → fault ≡ None → Lists (λ b es. ElementsListed f below (Inside types below) id.0 b old es) before after
          → Elements (SequenceOf eoc id unconstrained) (Ok out)
      elements_put vs out p w fits told listed = record {
        exact = (items w.0, (λ k. ap tree_of (p k) ∙ items_made keep vs w.0 w.1 k), (w.2 ∙ sym (count_items w.0), (w.0, refl, w.3)));
        fits = λ k s v. subst (AreItems (EachFits (FitsFrom s types below id.0))) (sym (p k)) (are_items (EachFits (FitsFrom s types below id.0)) vs (fits k s v));
        rules = tt;
        told = told;
        itself = tt;
        listed = listed;
      }

      pub set_of_put : (vs : Vec Value Global) (out : Value) → (keep ≡ true → out ≡ ElementsOf vs) → Counting keep trees_of IsLength (DecodesElementsInOrder (DecodesTree (f id.0)) these) old (Ok vs) new n
          → (keep ≡ true → (s : State) → Covers s old → EachFits (FitsFrom s types below id.0) vs.items) → fault ≡ None → Lists (λ b es. ElementsListed f below (Inside types below) id.0 b old es) before after
          → Elements (SetOf eoc id unconstrained) (Ok out)
      set_of_put vs out p w fits told listed = record {
        exact = (elements w.0, (λ k. ap tree_of (p k) ∙ elements_made keep vs w.0 w.1 k), (w.2 ∙ sym (count_items w.0), (w.0, refl, w.3)));
        fits = λ k s v. subst (AreElements (EachFits (FitsFrom s types below id.0))) (sym (p k)) (are_elements (EachFits (FitsFrom s types below id.0)) vs (fits k s v));
        rules = tt;
        told = told;
        itself = tt;
        listed = listed;
      }
