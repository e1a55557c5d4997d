-- Where in the input a value couldn't be read.
use Rattle.std.specs.Prelude.{◌≡◌, ◌⊎◌, ◌+◌, ◌-◌, ℕ, suc, List, [], ◌∷◌, ◌++◌, length, reverse, Bool, true, false, slice_get, Option, Some, None, Result, Ok, Err}
use Rattle.std.specs.String.{string_bytes}
use Rattle.rasn_types.specs.declared.types.codec.Codec.{Codec}
use Rattle.rasn_types.specs.declared.error.decode.DecodeError.{DecodeError}
use Rattle.rasn_types.specs.Framing.{Ended, NextTag}
use Rattle.rasn_types.specs.Grammar.{Reads, top}
use Rattle.rasn_types.specs.declared.error.decode.DerDecodeErrorKind.TheVariants.{DefaultValuePresent}
use Rattle.rasn_types.specs.declared.types.tag.Tag.{Tag}
use Rattle.rasn_types.specs.Tags.{form, IsStrict}
use Rattle.rasn_types.specs.Errors.{IsOutOfMemory}
use Rattle.rasn_types.specs.Shapes.{Shape, Tree, Parts, items, choice_by, IsFirstOf}
use Rattle.rasn_de.specs.Headers.{Header}
use Rattle.rasn_de.specs.declared.ber.de.parser.ParseError.TheVariants.{Der, UnexpectedEmptyInput, UnexpectedExtraData}
use Rattle.rasn_de.specs.Any.{BorrowsOpenType}
use Rattle.rasn_de.specs.ValueErrors.{errors_of}
use Rattle.rasn_de.specs.State.{State, at, IsEnd, Call}
use Rattle.rasn_de.specs.Steps.{IsErrorOf, PeeksTag}
use Rattle.rasn_de.specs.Outcomes.{Exact, refusal}
use Rattle.rasn_de.specs.SequenceOf.{DecodesInTurn, DecodesInTurnFrom, IsOutOfOrder, DecodesSized}
use Rattle.rasn_de.specs.Set.{FailsAtComponent, DecodesIntoSlots}
use Rattle.rasn_de.specs.SetPartTypes.{MakesOfReadings}
use Rattle.rasn_de.specs.NamedErrors.{IsNamedError, IsNoValidChoice}
use Rattle.rasn_de.specs.declared.ber.de.constructed.ConstructedHeader.{ConstructedHeader}
use Rattle.rasn_de.specs.Constructed.{sequence_header, list_header, prefix_header, constructed_header_at, contents_state, DecodesInside}
use Rattle.rasn_schema.specs.declared.type_id.TypeId.{TypeId}
use Rattle.rasn_schema.specs.declared.types.Component.{Component}
use Rattle.rasn_schema.specs.declared.types.Alternative.{Alternative}
use Rattle.rasn_schema.specs.declared.types.«Type».{«Type»}
use Rattle.rasn_schema.specs.declared.types.«Type».TheVariants.{Leaf, Enumerated, Any, Tagged, Choice, Sequence, Set, SequenceOf, SetOf, Unknown}
use Rattle.rasn_schema.specs.Shapes.{shape_of_type, alternatives_by, components_by, presence_of, presence_in, numbers_of}
use Rattle.rasn_schema.specs.FirstTags.{IsAlternativeFor, IsAlwaysThere}
use Rattle.rasn_dynamic.specs.Inside.{DecodesTree, DecodesComponent}
use Rattle.rasn_dynamic.specs.Sets.{is_extensible, named_components, last_type}
use Rattle.rasn_dynamic.specs.Calls.{IsDefaultOf, FailsAtNumber, names_of}
use Rattle.rasn_dynamic.specs.LeafErrors.{leaf_errors, unknown_errors, RunsOutOr}
use Rattle.rasn_dynamic.specs.Typed.{element_count, DecodesContents}
use Rattle.rasn_dynamic.specs.declared.trace.UnreadValue.{UnreadValue}
use Rattle.rasn_dynamic.specs.declared.refusal.Refusal.{Refusal}

-- ---- steps on a trace

-- A value is named, unless one is.
abbrev pub IsMarked : TypeId → ℕ → Option UnreadValue → Option UnreadValue → Type 0
IsMarked id left None new = (f : UnreadValue) × (new ≡ Some f) × (f.id ≡ id) × (f.left ≡ left) × (f.steps.items ≡ []) × (f.is_cut ≡ false)
IsMarked id left (Some f) new = new ≡ Some f

-- Unless steps are missing, there is one more.
abbrev pub IsLonger : ℕ → UnreadValue → UnreadValue → Type 0
IsLonger k f g = (g.id ≡ f.id) × (g.left ≡ f.left) × (g.is_cut ≡ false → (f.is_cut ≡ false) × (g.steps.items ≡ f.steps.items ++ k ∷ []))

-- What is named stays named, by one step more.
abbrev pub IsStepped : ℕ → Option UnreadValue → Option UnreadValue → Type 0
IsStepped k None new = new ≡ None
IsStepped k (Some f) new = (g : UnreadValue) × (new ≡ Some g) × IsLonger k f g

abbrev pub IsMoved : ℕ → Option UnreadValue → Option UnreadValue → Type 0
IsMoved after None new = new ≡ None
IsMoved after (Some f) new = (g : UnreadValue) × (new ≡ Some g) × (g.id ≡ f.id) × (g.left ≡ f.left + after) × (g.steps ≡ f.steps) × (g.is_cut ≡ f.is_cut)

-- how many octets follow contents that the decoder of the contents doesn't see: of those that end-of-contents octets end, none
abbrev pub octets_after : Bool → ℕ → ℕ
octets_after true n = 0
octets_after false n = n

-- ---- where a part is

-- The octets are in these, and so many are left from their start to the end.
abbrev pub IsWithin : List ℕ → List ℕ → ℕ → Type 0
IsWithin all octets left = (front back : List ℕ) × (all ≡ front ++ (octets ++ back)) × (left ≡ length (octets ++ back))

-- Part k of what is read in the state s is of the type with the number next, and is read in the state here. f gives the shape of the type with a number.

-- What begins there, as this part.
abbrev pub IsOnly : ℕ → ℕ → State → ℕ → ℕ → State → Type 0
IsOnly index id s k next here = (k ≡ index) × (next ≡ id) × (here ≡ s)

-- Alternative k is the first that may begin with the next tag.
abbrev pub IsNextAlternative : (ℕ → Shape) → List Alternative → State → ℕ → Alternative → Type 0
IsNextAlternative f ks s k a = (tag : Tag) × NextTag (form s.rule) s.rest tag × IsAlternativeFor f ks tag k a

abbrev pub IsAlternativeAt : (ℕ → Shape) → List Alternative → State → ℕ → ℕ → State → Type 0
IsAlternativeAt f ks s k next here = (a : Alternative) × IsNextAlternative f ks s k a × (next ≡ a.type_id.0) × (here ≡ s)

-- So many elements were read before it.
abbrev pub IsElementAt : (ℕ → Shape) → ℕ → State → ℕ → ℕ → State → Type 0
IsElementAt f id s k next here = (next ≡ id) × (ts : List Tree) × (length ts ≡ k) × DecodesInTurn (DecodesTree (f id)) s ts here × (Ended here.closing here.rest → ⊥)

-- These components were read, or are absent.
abbrev pub ComponentsInTurn : (ℕ → Shape) → List Component → State → State → Type 0
ComponentsInTurn f [] s here = here ≡ s
ComponentsInTurn f (p ∷ ps) s here = (t : Tree) × (next : State) × DecodesComponent (presence_in f p) (f p.type_id.0) s (Ok t) next × ComponentsInTurn f ps next here

abbrev pub IsComponentAt : (ℕ → Shape) → List Component → State → ℕ → ℕ → State → Type 0
IsComponentAt f ps s k next here = (done : List Component) × (p : Component) × (after : List Component) × (ps ≡ done ++ p ∷ after) × (length done ≡ k) × (next ≡ p.type_id.0) × ComponentsInTurn f done s here

abbrev pub IsMember : List Component → State → ℕ → ℕ → State → Type 0
IsMember ps s k next here = (p : Component) × (Some p ≡ slice_get ps k) × (next ≡ p.type_id.0) × (here ≡ s)

-- Others of the SET were read before it, and unknown ones.
abbrev pub IsMemberAt : (ℕ → Shape) → Bool → List Component → State → ℕ → ℕ → State → Type 0
IsMemberAt f extensible ps s k next here = (p : Component) × (Some p ≡ slice_get ps k) × (next ≡ p.type_id.0)
    × (done : List Tree) × (bs : List (List ℕ)) × DecodesInTurnFrom (DecodesTree (choice_by extensible (components_by f ps))) s done bs here

abbrev pub IsPart : (ℕ → Shape) → «Type» → State → ℕ → ℕ → State → Type 0
IsPart f (Leaf kind tag c names) s k next here = ⊥
IsPart f (Enumerated tag ns) s k next here = ⊥
IsPart f (Any tag) s k next here = ⊥
IsPart f Unknown s k next here = ⊥
IsPart f (Tagged tag id) s k next here = IsOnly 0 id.0 s k next here
IsPart f (Choice name ks) s k next here = IsAlternativeAt f ks.items s k next here
IsPart f (Sequence tag ps) s k next here = IsComponentAt f ps.items s k next here
IsPart f (Set name tag ps) s k next here = IsMemberAt f (is_extensible f ps.items) (named_components f ps.items) s k next here
IsPart f (SequenceOf tag id c) s k next here = IsElementAt f id.0 s k next here
IsPart f (SetOf tag id c) s k next here = IsElementAt f id.0 s k next here

-- ---- a value that can't be read itself, while each of its parts that was reached is read

module _ (f : ℕ → Shape) where
  -- The component is read, but it is its default, which must not be written (X.690 11.5).
  abbrev pub IsDefaultWritten : Component → State → DecodeError → Type 0
  IsDefaultWritten p s e = (t : Tree) × (new : State) × DecodesTree (f p.type_id.0) s (Ok t) new × IsStrict s.rule × IsDefaultOf (presence_of p.presence) t × IsErrorOf (Der DefaultValuePresent) s e

  -- A value of the type is read, but it takes none of the octets, whose number is reported.
  abbrev pub TakesNothing : ℕ → State → DecodeError → Type 0
  TakesNothing id s e = (t : Tree) × (new : State) × DecodesTree (f id) s (Ok t) new × (length new.rest ≡ length s.rest) × IsErrorOf (UnexpectedExtraData (length s.rest)) s e

  -- The next tag is that of no part.
  abbrev pub IsUnknown : Parts → State → Type 0
  IsUnknown ps s = (tag : Tag) × NextTag (form s.rule) s.rest tag × (IsFirstOf ps tag → ⊥)

  -- The next tag is that of no part, and the error has this name.
  abbrev pub IsNoChoiceOf : List ℕ → Parts → State → DecodeError → Type 0
  IsNoChoiceOf name ps s e = IsUnknown ps s × IsNamedError (IsNoValidChoice name) s.rule e

  -- No tag follows, or none of an alternative of the CHOICE with this name; or an allocation fails.
  abbrev pub StopsAtChoice : List ℕ → List Alternative → State → DecodeError → Type 0
  StopsAtChoice name ks s e = PeeksTag s (Err e) ⊎ (IsNoChoiceOf name (alternatives_by f ks) s e ⊎ IsOutOfMemory e.kind)

  -- No tag follows that says whether the component is there; or it is its default.
  abbrev pub StopsAtComponent : Component → State → DecodeError → Type 0
  StopsAtComponent p s e = ((IsAlwaysThere (presence_of p.presence) → ⊥) × PeeksTag s (Err e)) ⊎ (IsDefaultWritten p s e ⊎ IsOutOfMemory e.kind)

  -- Components of a SEQUENCE were read in their order up to there; or memory runs out.
  abbrev pub StopsInSequence : List Component → State → DecodeError → Type 0
  StopsInSequence ps s e = IsOutOfMemory e.kind
      ⊎ ((done : List Component) × (p : Component) × (after : List Component) × (here : State) × (ps ≡ done ++ p ∷ after) × ComponentsInTurn f done s here × StopsAtComponent p here e)

  -- No tag follows; or none of a component of the SET with this name does, which has no unknown ones; or memory runs out;
  -- or the component is its default, or takes nothing.
  abbrev pub StopsAtMember : List ℕ → Bool → List Component → State → DecodeError → Type 0
  StopsAtMember name extensible ps s e = PeeksTag s (Err e)
      ⊎ ((IsNoChoiceOf name (components_by f ps) s e × (extensible ≡ false)) ⊎ (IsOutOfMemory e.kind
      ⊎ ((k : ℕ) × (p : Component) × (Some p ≡ slice_get ps k) × (IsDefaultWritten p s e ⊎ TakesNothing p.type_id.0 s e))))

  -- Components of a SET were read up to there.
  abbrev pub StopsAmongMembers : List ℕ → Bool → List Component → State → DecodeError → Type 0
  StopsAmongMembers name extensible ps s e = (done : List Tree) × (bs : List (List ℕ)) × (here : State) × DecodesInTurnFrom (DecodesTree (choice_by extensible (components_by f ps))) s done bs here
      × (new : State) × FailsAtComponent (λ there x after. StopsAtMember name extensible ps there x) bs here e new

  -- All were read, and the first that is there twice is reported, or else the first required one that is missing.
  abbrev pub LacksMember : Bool → List Component → State → DecodeError → Type 0
  LacksMember extensible ps s e = (readings : List Tree) × (here : State) × DecodesIntoSlots (DecodesTree (choice_by extensible (components_by f ps))) s (Ok readings) here
      × MakesOfReadings extensible (components_by f ps) items (names_of ps) s.rule readings (Err e)

  abbrev pub StopsInSet : List ℕ → Bool → List Component → State → DecodeError → Type 0
  StopsInSet name extensible ps s e = IsOutOfMemory e.kind ⊎ (StopsAmongMembers name extensible ps s e ⊎ LacksMember extensible ps s e)

  -- Elements were read up to there, and the next one takes nothing; or memory runs out.
  abbrev pub StopsInElements : ℕ → State → DecodeError → Type 0
  StopsInElements id s e = IsOutOfMemory e.kind ⊎ ((ts : List Tree) × (here : State) × DecodesInTurn (DecodesTree (f id)) s ts here × TakesNothing id here e)

  -- The same; or the next one's octets are less than those of an element before it (X.690 11.6).
  abbrev pub StopsInOrder : ℕ → State → DecodeError → Type 0
  StopsInOrder id s e = IsOutOfMemory e.kind ⊎ ((ts : List Tree) × (bs : List (List ℕ)) × (here : State) × DecodesInTurnFrom (DecodesTree (f id)) s ts bs here
      × (TakesNothing id here e ⊎ ((new : State) × IsOutOfOrder (DecodesTree (f id)) bs here e new)))

  -- The contents of a value.
  abbrev pub StopsInside : «Type» → State → DecodeError → Type 0
  StopsInside (Leaf kind tag c names) s e = ⊥
  StopsInside (Enumerated tag ns) s e = ⊥
  StopsInside (Any tag) s e = ⊥
  StopsInside Unknown s e = ⊥
  StopsInside (Tagged tag id) s e = ⊥
  StopsInside (Choice name ks) s e = ⊥
  StopsInside (Sequence tag ps) s e = StopsInSequence ps.items s e
  StopsInside (Set name tag ps) s e = StopsInSet (string_bytes name) (is_extensible f ps.items) (named_components f ps.items) s e
  StopsInside (SequenceOf tag id c) s e = StopsInElements id.0 s e
  StopsInside (SetOf tag id c) s e = StopsInOrder id.0 s e

  -- how contents are read, where no part of them is refused
  abbrev pub ReadsEachPart : «Type» → Call Tree
  ReadsEachPart ty s (Ok t) new = DecodesContents f ty s (Ok t) new
  ReadsEachPart ty s (Err e) new = StopsInside ty s e

  -- A value, with its header and its end, and the number of its elements.
  abbrev pub FailsItself : «Type» → State → DecodeError → Type 0
  FailsItself (Leaf kind tag c names) s e = (new : State) × leaf_errors kind tag c s e new
  FailsItself (Enumerated tag ns) s e = (new : State) × FailsAtNumber (numbers_of ns.items) tag s e new
  FailsItself (Any tag) s e = (new : State) × errors_of (BorrowsOpenType tag) s e new
  FailsItself Unknown s e = (new : State) × RunsOutOr unknown_errors s e new
  FailsItself (Tagged tag id) s e = (new : State) × DecodesInside (ReadsEachPart (Tagged tag id)) (prefix_header tag) s (Err e) new
  FailsItself (Choice name ks) s e = StopsAtChoice (string_bytes name) ks.items s e
  FailsItself (Sequence tag ps) s e = (new : State) × DecodesInside (ReadsEachPart (Sequence tag ps)) (sequence_header tag) s (Err e) new
  FailsItself (Set name tag ps) s e = (new : State) × DecodesInside (ReadsEachPart (Set name tag ps)) (sequence_header tag) s (Err e) new
  FailsItself (SequenceOf tag id c) s e = (new : State) × DecodesSized (ReadsEachPart (SequenceOf tag id c)) element_count tag c s (Err e) new
  FailsItself (SetOf tag id c) s e = (new : State) × DecodesSized (ReadsEachPart (SetOf tag id c)) element_count tag c s (Err e) new

-- No type has the number, or none that deep.
abbrev pub LacksType : List «Type» → ℕ → ℕ → Type 0
LacksType types levels id = (levels ≡ 0) ⊎ (None ≡ slice_get types id)

-- A value of the type with the number. Of a type that there isn't, no value is looked for.
pub record FailsAt (types : List «Type») (levels id : ℕ) (s : State) (e : DecodeError) : Type 0 where
  pub fails : (n : ℕ) (ty : «Type») → levels ≡ suc n → slice_get types id ≡ Some ty → FailsItself (shape_of_type types n) ty s e
  pub missing : LacksType types levels id → IsErrorOf UnexpectedEmptyInput s e

-- ---- a part that can't be read

-- An unknown component of a SET follows, of the type other: the next tag is that of no component. Its index is the
-- one after theirs.
abbrev pub IsUnknownMember : (ℕ → Shape) → Bool → List Component → ℕ → State → ℕ → ℕ → Type 0
IsUnknownMember f extensible ps other s k next =
    (extensible ≡ true) × (k ≡ length ps) × (next ≡ other) × IsUnknown f (components_by f ps) s

-- What begins there is a component that the SET names, or an unknown one.
abbrev pub IsMemberHere : (ℕ → Shape) → Bool → List Component → ℕ → State → ℕ → ℕ → State → Type 0
IsMemberHere f extensible ps other s k next here = IsMember ps s k next here
    ⊎ (IsUnknownMember f extensible ps other s k next × (here ≡ s))

-- The same after others of the SET.
abbrev pub IsMemberAfter : (ℕ → Shape) → Bool → List Component → ℕ → State → ℕ → ℕ → State → Type 0
IsMemberAfter f extensible ps other s k next here = IsMemberAt f extensible ps s k next here
    ⊎ (IsUnknownMember f extensible ps other here k next × (done : List Tree) × (bs : List (List ℕ))
    × DecodesInTurnFrom (DecodesTree (choice_by extensible (components_by f ps))) s done bs here)

-- A part of a value of the type, also an unknown component of a SET.
abbrev pub IsAnyPart : (ℕ → Shape) → «Type» → State → ℕ → ℕ → State → Type 0
IsAnyPart f (Leaf kind tag c names) s k next here = IsPart f (Leaf kind tag c names) s k next here
IsAnyPart f (Enumerated tag ns) s k next here = IsPart f (Enumerated tag ns) s k next here
IsAnyPart f (Any tag) s k next here = IsPart f (Any tag) s k next here
IsAnyPart f Unknown s k next here = IsPart f Unknown s k next here
IsAnyPart f (Tagged tag id) s k next here = IsPart f (Tagged tag id) s k next here
IsAnyPart f (Choice name ks) s k next here = IsPart f (Choice name ks) s k next here
IsAnyPart f (Sequence tag ps) s k next here = IsPart f (Sequence tag ps) s k next here
IsAnyPart f (Set name tag ps) s k next here =
    IsMemberAfter f (is_extensible f ps.items) (named_components f ps.items) (last_type ps.items) s k next here
IsAnyPart f (SequenceOf tag id c) s k next here = IsPart f (SequenceOf tag id c) s k next here
IsAnyPart f (SetOf tag id c) s k next here = IsPart f (SetOf tag id c) s k next here

-- ---- the way to a part

-- After such a header the contents are read in this state.
abbrev pub EntersBy : ConstructedHeader → State → State → Type 0
EntersBy d s inner = (h : Header) × (constructed_header_at d s.rule s.depth s.rest ≡ Ok h) × (inner ≡ contents_state d s h)

abbrev pub Enters : «Type» → State → State → Type 0
Enters (Leaf kind tag c names) s inner = ⊥
Enters (Enumerated tag ns) s inner = ⊥
Enters (Any tag) s inner = ⊥
Enters Unknown s inner = ⊥
Enters (Tagged tag id) s inner = EntersBy (prefix_header tag) s inner
Enters (Choice name ks) s inner = inner ≡ s
Enters (Sequence tag ps) s inner = EntersBy (sequence_header tag) s inner
Enters (Set name tag ps) s inner = EntersBy (sequence_header tag) s inner
Enters (SequenceOf tag id c) s inner = EntersBy (list_header tag) s inner
Enters (SetOf tag id c) s inner = EntersBy (list_header tag) s inner

-- From a value in the state s, through parts with these indices, to the value that is read in the state last. P says
-- what is a part of a value of a type.
unfoldable pub LeadsBy : ((ℕ → Shape) → «Type» → State → ℕ → ℕ → State → Type 0)
    → List «Type» → List ℕ → ℕ → ℕ → State → ℕ → ℕ → State → Type 0
LeadsBy P types [] levels id s below end last = (levels ≡ below) × (id ≡ end) × (s ≡ last)
LeadsBy P types (k ∷ ks) levels id s below end last = (n : ℕ) × (levels ≡ suc n)
    × (ty : «Type») × (slice_get types id ≡ Some ty) × (inner : State) × Enters ty s inner
    × (next : ℕ) × (here : State) × P (shape_of_type types n) ty inner k next here
    × (here ≡ at inner here.rest) × IsEnd inner.rest here.rest × LeadsBy P types ks n next here below end last

-- Through parts that `find_part` finds; and through any.
abbrev pub Leads : List «Type» → List ℕ → ℕ → ℕ → State → ℕ → ℕ → State → Type 0
Leads types path levels id s below end last = LeadsBy IsPart types path levels id s below end last

abbrev pub LeadsToAny : List «Type» → List ℕ → ℕ → ℕ → State → ℕ → ℕ → State → Type 0
LeadsToAny types path levels id s below end last = LeadsBy IsAnyPart types path levels id s below end last

-- The steps are those of the path, unless they are cut.
abbrev pub HasPath : UnreadValue → List ℕ → Type 0
HasPath f path = f.is_cut ≡ false → reverse f.steps.items ≡ path

-- The value that is named can't be read where it begins.
pub record IsFault (types : List «Type») (levels id : ℕ) (s : State) (e : DecodeError) (f : UnreadValue) : Type 0 where
  pub path : List ℕ
  pub below : ℕ
  pub last : State
  pub has_path : HasPath f path
  pub leads : LeadsToAny types path levels id s below f.id.0 last
  pub within : IsWithin s.rest last.rest f.left
  pub refused : Exact (Reads last.rule (shape_of_type types below f.id.0) last.depth last.closing) last.rest (refusal e.kind)
  pub itself : FailsAt types below f.id.0 last e

-- The same of a part of what is read in the state inner, which is in the state s.
pub record IsFaultIn (types : List «Type») (levels : ℕ) (C : ℕ → ℕ → State → Type 0) (s inner : State) (e : DecodeError) (f : UnreadValue) : Type 0 where
  pub index : ℕ
  pub next : ℕ
  pub path : List ℕ
  pub below : ℕ
  pub here : State
  pub last : State
  pub has_path : HasPath f (index ∷ path)
  pub part : C index next here
  pub stays : here ≡ at inner here.rest
  pub end : IsEnd inner.rest here.rest
  pub leads : LeadsToAny types path levels next here below f.id.0 last
  pub within : IsWithin s.rest last.rest f.left
  pub refused : Exact (Reads last.rule (shape_of_type types below f.id.0) last.depth last.closing) last.rest (refusal e.kind)
  pub itself : FailsAt types below f.id.0 last e

-- The same of a type, whose value is entered; and of a value with this header.
abbrev pub IsFaultOf : List «Type» → ℕ → «Type» → State → DecodeError → UnreadValue → Type 0
IsFaultOf types levels ty s e f = (inner : State) × Enters ty s inner
    × IsFaultIn types levels (IsAnyPart (shape_of_type types levels) ty inner) s inner e f

abbrev pub IsFaultInside : List «Type» → ℕ → ConstructedHeader → «Type» → State → DecodeError → UnreadValue → Type 0
IsFaultInside types levels d ty s e f = (inner : State) × EntersBy d s inner
    × IsFaultIn types levels (IsAnyPart (shape_of_type types levels) ty inner) s inner e f

-- Nothing is named if a value was read; what is named at a refusal is a fault.
abbrev pub Told : {T : Type 0} → (DecodeError → UnreadValue → Type 0) → Result T DecodeError → Option UnreadValue → Type 0
Told P (Ok v) t = t ≡ None
Told P (Err e) t = (f : UnreadValue) → t ≡ Some f → P e f

-- The same, and something is named.
abbrev pub TellsOf : {T : Type 0} → (DecodeError → UnreadValue → Type 0) → Result T DecodeError → Option UnreadValue → Type 0
TellsOf P (Ok v) t = t ≡ None
TellsOf P (Err e) t = (f : UnreadValue) × (t ≡ Some f) × P e f

-- ---- a refusal

-- The fault, with its offset in an input of so many octets.
abbrev pub IsRefusalOf : DecodeError → Option UnreadValue → ℕ → Refusal → Type 0
IsRefusalOf e None len r = r.error ≡ e
IsRefusalOf e (Some f) len r = (r.error ≡ e) × (r.offset ≡ len - f.left) × (r.id ≡ f.id) × (r.is_cut ≡ f.is_cut) × (r.steps.items ≡ reverse f.steps.items)

abbrev pub unlocated : {T : Type 0} → Result T Refusal → Result T DecodeError
unlocated (Ok v) = Ok v
unlocated (Err r) = Err r.error

-- the state in which a whole input is read
abbrev pub start : Codec → List ℕ → State
start rule input = record { rule = rule; depth = 128; closing = top rule; whole = input; rest = input }

-- At the offset are octets of which the grammar relates nothing to the shape of the named type, to which the path leads from the type that was
-- asked for, through the headers that are there, and at the depth that is left there.
pub record IsLocated (types : List «Type») (rule : Codec) (id : ℕ) (input : List ℕ) (r : Refusal) : Type 0 where
  pub path : List ℕ
  pub below : ℕ
  pub last : State
  pub front : List ℕ
  pub back : List ℕ
  pub is : input ≡ front ++ (last.rest ++ back)
  pub offset : length front ≡ r.offset
  pub has_path : r.is_cut ≡ false → r.steps.items ≡ path
  pub leads : LeadsToAny types path 18446744073709551615 id (start rule input) below r.id.0 last
  pub refused : Exact (Reads last.rule (shape_of_type types below r.id.0) last.depth last.closing) last.rest (refusal r.error.kind)
  pub itself : FailsAt types below r.id.0 last r.error
