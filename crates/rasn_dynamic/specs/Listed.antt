-- The parts of a message, in the order of their octets, each before those inside it.
use Rattle.std.specs.Prelude.{Bool, true, false, ◌≡◌, ◌⊎◌, ◌+◌, ◌-◌, ◌^◌, ◌<◌, ◌≤◌, ℕ, zero, suc, List, [], ◌∷◌, ◌++◌, length, slice_get, min, vec_len, vec_capacity, if◌then◌else◌, Option, Some, None, Vec, Ok}
use Rattle.std.specs.Global.{Global}
use Rattle.rasn_types.specs.Framing.{Ended}
use Rattle.rasn_types.specs.Shapes.{Shape, Tree}
use Rattle.rasn_de.specs.State.{State}
use Rattle.rasn_de.specs.Headers.{Header}
use Rattle.rasn_de.specs.declared.ber.de.constructed.ConstructedHeader.{ConstructedHeader}
use Rattle.rasn_de.specs.Constructed.{sequence_header, list_header, prefix_header, constructed_header_at, contents_state}
use Rattle.rasn_schema.specs.declared.type_id.TypeId.{TypeId}
use Rattle.rasn_schema.specs.declared.types.Component.{Component}
use Rattle.rasn_schema.specs.declared.types.Alternative.{Alternative}
use Rattle.rasn_schema.specs.declared.types.«Type».{«Type»}
use Rattle.rasn_schema.specs.declared.types.«Type».TheVariants.{Leaf, Enumerated, Any, Tagged, Choice, Sequence, Set, SequenceOf, SetOf, Unknown}
use Rattle.rasn_schema.specs.Shapes.{shape_of_type, components_by}
use Rattle.rasn_dynamic.specs.declared.span.Span.{Span}
use Rattle.rasn_dynamic.specs.declared.span.Spans.{Spans}
use Rattle.rasn_dynamic.specs.Inside.{DecodesTree}
use Rattle.rasn_dynamic.specs.Sets.{is_extensible, named_components, last_type, PassesUnknown}
use Rattle.rasn_dynamic.specs.Calls.{LeavesAllOut}
use Rattle.rasn_dynamic.specs.Faults.{IsNextAlternative, octets_after}
use Rattle.rasn_dynamic.specs.Parts.{IsAbsentHere}

-- the sum, or the greatest number of 64 bits
abbrev pub capped : ℕ → ℕ → ℕ
capped a b = min (a + b) (2 ^ 64 - 1)

-- in how many others a part is, if types are followed so many levels deep from it
abbrev pub depth_at : ℕ → ℕ
depth_at levels = (2 ^ 64 - 1) - levels

-- After such a header the contents are read in the state inner. If b octets of the message follow what is seen in the state s, c follow what is seen in this one.
abbrev pub GoesInside : ConstructedHeader → ℕ → State → ℕ → State → Type 0
GoesInside d b s c inner = (h : Header) × (constructed_header_at d s.rule s.depth s.rest ≡ Ok h) × (inner ≡ contents_state d s h) × (c ≡ capped b (octets_after inner.closing (length h.rest)))

-- The same of a value of the type; one that has no header of its own, or holds no others, is where it was.
abbrev pub GoesInto : «Type» → ℕ → State → ℕ → State → Type 0
GoesInto (Leaf kind tag c names) b s a inner = (a ≡ b) × (inner ≡ s)
GoesInto (Enumerated tag ns) b s a inner = (a ≡ b) × (inner ≡ s)
GoesInto (Any tag) b s a inner = (a ≡ b) × (inner ≡ s)
GoesInto Unknown b s a inner = (a ≡ b) × (inner ≡ s)
GoesInto (Tagged tag id) b s a inner = GoesInside (prefix_header tag) b s a inner
GoesInto (Choice name ks) b s a inner = (a ≡ b) × (inner ≡ s)
GoesInto (Sequence tag ps) b s a inner = GoesInside (sequence_header tag) b s a inner
GoesInto (Set name tag ps) b s a inner = GoesInside (sequence_header tag) b s a inner
GoesInto (SequenceOf tag id c) b s a inner = GoesInside (list_header tag) b s a inner
GoesInto (SetOf tag id c) b s a inner = GoesInside (list_header tag) b s a inner

-- n parts, one after the other: of the one with k before it, step k says which parts it is with those inside it.
abbrev pub InTurn : (ℕ → State → State → List Span → Type 0) → ℕ → State → State → List Span → Type 0
InTurn step zero s last es = (last ≡ s) × (es ≡ [])
InTurn step (suc n) s last es = (before : List Span) × (mine : List Span) × (here : State) × (es ≡ before ++ mine) × InTurn step n s here before × step n here last mine

-- The part with the index k is an encoding that no type describes, up to the state next, and nothing is inside it.
pub record UnknownListed (levels id k b : ℕ) (s next : State) (es : List Span) : Type 0 where
  pub part : Span
  pub is : es ≡ part ∷ []
  pub id_is : part.id.0 ≡ id
  pub index : part.index ≡ k
  pub deep : part.depth ≡ depth_at levels
  pub left : part.left ≡ capped b (length s.rest)
  pub octets : s.rest ≡ part.octets.now ++ next.rest

-- f gives the shape of the type with a number. P id b s es: of a value of the type that is read in the state s, if b octets of the message follow what is seen, these are the parts inside.
module _ (f : ℕ → Shape) (levels : ℕ) (P : ℕ → ℕ → State → List Span → Type 0) where
  -- The part with the index k is read by its shape from its octets, up to the state next, and after it are the parts inside it.
  pub record PartListed (id k b : ℕ) (s next : State) (es : List Span) : Type 0 where
    pub part : Span
    pub inside : List Span
    pub is : es ≡ part ∷ inside
    pub id_is : part.id.0 ≡ id
    pub index : part.index ≡ k
    pub deep : part.depth ≡ depth_at levels
    pub left : part.left ≡ capped b (length s.rest)
    pub octets : s.rest ≡ part.octets.now ++ next.rest
    pub tree : Tree
    pub reads : DecodesTree (f id) s (Ok tree) next
    pub parts : P id b s inside

  -- A component of a SEQUENCE, unless it is absent.
  abbrev pub ComponentListed : Component → ℕ → ℕ → State → State → List Span → Type 0
  ComponentListed p k b s next es = (IsAbsentHere f p s × (next ≡ s) × (es ≡ [])) ⊎ PartListed p.type_id.0 k b s next es

  abbrev pub ComponentAt : List Component → ℕ → ℕ → State → State → List Span → Type 0
  ComponentAt ps b k s next es = (p : Component) × (Some p ≡ slice_get ps k) × ComponentListed p k b s next es

  -- Those of a SEQUENCE in their order, where all are left out, or each is read or absent.
  abbrev pub ComponentsListed : List Component → ℕ → State → List Span → Type 0
  ComponentsListed ps b s es = (LeavesAllOut ps s × (es ≡ [])) ⊎ ((last : State) × InTurn (ComponentAt ps b) (length ps) s last es)

  -- A component of a SET that names the components ps. An unknown one has the type other, and the index after theirs.
  abbrev pub MemberListed : Bool → List Component → ℕ → ℕ → State → State → List Span → Type 0
  MemberListed extensible ps other b s next es =
      (PassesUnknown extensible (components_by f ps) s next × UnknownListed levels other (length ps) b s next es)
      ⊎ ((k : ℕ) × (p : Component) × (Some p ≡ slice_get ps k) × PartListed p.type_id.0 k b s next es)

  -- Those of a SET, in any order, up to the end.
  abbrev pub MembersListed : Bool → List Component → ℕ → ℕ → State → List Span → Type 0
  MembersListed extensible ps other b s es = (n : ℕ) × (last : State)
      × InTurn (λ k. MemberListed extensible ps other b) n s last es × Ended last.closing last.rest

  -- Elements, up to the end.
  abbrev pub ElementsListed : ℕ → ℕ → State → List Span → Type 0
  ElementsListed id b s es = (n : ℕ) × (last : State) × InTurn (λ k. PartListed id k b) n s last es × Ended last.closing last.rest

  -- The alternative of a CHOICE.
  abbrev pub AlternativeListed : List Alternative → ℕ → State → List Span → Type 0
  AlternativeListed ks b s es = (k : ℕ) × (a : Alternative) × IsNextAlternative f ks s k a × (last : State) × PartListed a.type_id.0 k b s last es

  -- What is in the contents of a value of the type.
  abbrev pub ContentsListed : «Type» → ℕ → State → List Span → Type 0
  ContentsListed (Leaf kind tag c names) b s es = es ≡ []
  ContentsListed (Enumerated tag ns) b s es = es ≡ []
  ContentsListed (Any tag) b s es = es ≡ []
  ContentsListed Unknown b s es = es ≡ []
  ContentsListed (Tagged tag id) b s es = (last : State) × PartListed id.0 0 b s last es
  ContentsListed (Choice name ks) b s es = AlternativeListed ks.items b s es
  ContentsListed (Sequence tag ps) b s es = ComponentsListed ps.items b s es
  ContentsListed (Set name tag ps) b s es =
      MembersListed (is_extensible f ps.items) (named_components f ps.items) (last_type ps.items) b s es
  ContentsListed (SequenceOf tag id c) b s es = ElementsListed id.0 b s es
  ContentsListed (SetOf tag id c) b s es = ElementsListed id.0 b s es

  -- The same after a header; and of a value of the type.
  abbrev pub InsideListed : ConstructedHeader → «Type» → ℕ → State → List Span → Type 0
  InsideListed d ty b s es = (c : ℕ) × (inner : State) × GoesInside d b s c inner × ContentsListed ty c inner es

  abbrev pub ValueListed : «Type» → ℕ → State → List Span → Type 0
  ValueListed ty b s es = (c : ℕ) × (inner : State) × GoesInto ty b s c inner × ContentsListed ty c inner es

-- Of a value of the type with the number that is read in the state s, these are the parts inside, and no others. Types are followed so many levels deep.
unfoldable pub PartsInside : List «Type» → ℕ → ℕ → ℕ → State → List Span → Type 0
PartsInside types zero id b s es = ⊥
PartsInside types (suc n) id b s es = (ty : «Type») × (slice_get types id ≡ Some ty) × ValueListed (shape_of_type types n) n (λ k c z more. PartsInside types n k c z more) ty b s es

-- The same, as they are of a value at a level of types.
abbrev pub Inside : List «Type» → ℕ → ℕ → ℕ → State → List Span → Type 0
Inside types n = λ k c z more. PartsInside types n k c z more

-- ---- what the reader does with the list

-- whether parts of the type with a number are listed: there is a table of the types, or all are
abbrev pub is_true : Option Bool → Bool
is_true None = false
is_true (Some b) = b

abbrev pub is_wanted : Option (Vec Bool Global) → ℕ → Bool
is_wanted None id = true
is_wanted (Some types) id = is_true (slice_get types.items id)

-- the parts that are listed
abbrev pub wanted_of : Option (Vec Bool Global) → List Span → List Span
wanted_of wanted [] = []
wanted_of wanted (e ∷ es) = if is_wanted wanted e.id.0 then e ∷ wanted_of wanted es else wanted_of wanted es

-- Parts were read: R b parts, if b octets of the message follow what the decoder sees. If there is a list afterwards, there was one before, and those that are wanted were appended.
pub record Lists (R : ℕ → List Span → Type 0) (old new : Spans) : Type 0 where
  pub same_after : new.after ≡ old.after
  pub same_wanted : new.wanted ≡ old.wanted
  pub parts : List Span
  pub are : R old.after parts
  pub more : (m : Vec Span Global) → new.list ≡ Some m → (l : Vec Span Global) × (old.list ≡ Some l) × (m.items ≡ l.items ++ wanted_of old.wanted parts)

-- Nothing is noted yet, and nothing follows.
abbrev pub IsEmpty : Spans → Type 0
IsEmpty o = (o.after ≡ 0) × (l : Vec Span Global) × (o.list ≡ Some l) × (l.items ≡ [])

-- If there is a list afterwards, it is that of before, and has room for one part more.
abbrev pub HasRoom : Spans → Spans → Type 0
HasRoom old new = (new.after ≡ old.after) × (new.wanted ≡ old.wanted)
    × ((m : Vec Span Global) → new.list ≡ Some m → (l : Vec Span Global) × (old.list ≡ Some l) × (m.items ≡ l.items) × (vec_len m < vec_capacity m))

-- A part that begins with these octets is the last of the list, at this place.
abbrev pub IsLast : TypeId → ℕ → ℕ → ℕ → List ℕ → List Span → ℕ → List Span → Type 0
IsLast id k levels left octets before place list = (place ≡ length before) × (e : Span) × (list ≡ before ++ e ∷ [])
    × (e.id ≡ id) × (e.index ≡ k) × (e.depth ≡ depth_at levels) × (e.left ≡ left) × (e.octets.now ≡ octets)

-- The same, if such parts are wanted; or it isn't in the list, and its place is after each.
abbrev pub IsNoted : TypeId → ℕ → ℕ → List ℕ → Spans → ℕ → Spans → Type 0
IsNoted id k levels octets old place new = (new.after ≡ old.after) × (new.wanted ≡ old.wanted)
    × ((m : Vec Span Global) → new.list ≡ Some m → (l : Vec Span Global) × (old.list ≡ Some l)
    × (((is_wanted old.wanted id.0 ≡ true) × IsLast id k levels (capped old.after (length octets)) octets l.items place m.items)
    ⊎ ((is_wanted old.wanted id.0 ≡ false) × (place ≡ 2 ^ 64 - 1) × (m.items ≡ l.items))))

-- If the octets end with the rest, these are before it.
abbrev pub IsCut : List ℕ → List ℕ → List ℕ → Type 0
IsCut octets rest before = (front : List ℕ) → octets ≡ front ++ rest → before ≡ front

-- The part at this place, if there is one, has the octets before the rest. The others are as they were.
abbrev pub IsFinished : ℕ → List ℕ → Spans → Spans → Type 0
IsFinished place rest old new = (new.after ≡ old.after) × (new.wanted ≡ old.wanted)
    × ((m : Vec Span Global) → new.list ≡ Some m → (l : Vec Span Global) × (old.list ≡ Some l)
    × (length l.items ≤ place → m.items ≡ l.items)
    × ((front : List Span) (e : Span) (more : List Span) → l.items ≡ front ++ e ∷ more → length front ≡ place
    → (f : Span) × (m.items ≡ front ++ f ∷ more) × (f.id ≡ e.id) × (f.index ≡ e.index) × (f.depth ≡ e.depth) × (f.left ≡ e.left) × IsCut e.octets.now rest f.octets.now))

-- So many octets more follow what the decoder sees, where b did before.
abbrev pub IsInside : ℕ → Spans → ℕ → Spans → Type 0
IsInside n old b new = (b ≡ old.after) × (new.after ≡ capped old.after n) × (new.list ≡ old.list) × (new.wanted ≡ old.wanted)

-- So many octets follow it again.
abbrev pub IsOutside : ℕ → Spans → Spans → Type 0
IsOutside b old new = (new.after ≡ b) × (new.list ≡ old.list) × (new.wanted ≡ old.wanted)
