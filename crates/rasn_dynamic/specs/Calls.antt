-- What the steps of a reader return.
use Rattle.std.specs.Prelude.{map, get_or, slice_get, slice_set, ◌≡◌, ◌≢◌, ◌⊎◌, ◌≤◌, ◌||◌, ℕ, ℤ, Bool, true, false, List, [], ◌∷◌, ◌++◌, length, Vec, Option, Some, None, Result, Ok, Err}
use Rattle.std.specs.Global.{Global}
use Rattle.std.specs.Borrow.{Bor}
use Rattle.std.specs.String.{string_bytes}
use Rattle.std.specs.Cow.{cow_slice_items}
use Rattle.std.specs.declared.borrow.CowSlice.{CowSlice}
use Rattle.rasn_types.specs.declared.types.constraints.Constraints.{Constraints}
use Rattle.rasn_types.specs.declared.types.constraints.Bounded.TheVariants.{Single}
use Rattle.rasn_types.specs.Trees.{unconstrained}
use Rattle.rasn_de.specs.Leaves.{FailsAs}
use Rattle.rasn_de.specs.Enumerated.{EnumeratedAt}
use Rattle.rasn_de.specs.CharacterString.{DecodesOctetString}
use Rattle.rasn_types.specs.declared.types.strings.alphabet.Alphabet.{Alphabet}
use Rattle.rasn_types.specs.CharacterString.{AreAdmitted}
use Rattle.rasn_types.specs.declared.types.codec.Codec.{Codec}
use Rattle.rasn_types.specs.declared.types.tag.Tag.{Tag}
use Rattle.rasn_types.specs.Tags.{form, IsStrict}
use Rattle.rasn_types.specs.Framing.{NextTag}
use Rattle.rasn_types.specs.Errors.{IsOutOfMemory}
use Rattle.rasn_types.specs.Shapes.{Tree, Shape, Interval, IsIn, Parts, IsFirst, IsFirstOf, Admits, constraint_of, Same, Presence, required, addition, optional_by, default_by}
use Rattle.rasn_types.specs.Readings.{IsNoDefault, IsMissing}
use Rattle.rasn_types.specs.declared.error.decode.DecodeError.{DecodeError}
use Rattle.rasn_types.specs.declared.error.decode.DerDecodeErrorKind.TheVariants.{DefaultValuePresent}
use Rattle.rasn_de.specs.declared.ber.de.parser.ParseError.TheVariants.{UnexpectedExtraData, SizeConstraintNotSatisfied, OutOfMemory, Der}
use Rattle.rasn_de.specs.State.{State, Call}
use Rattle.rasn_de.specs.Steps.{IsErrorOf}
use Rattle.rasn_de.specs.NamedErrors.{IsNamedError, IsNoValidChoice, IsMissingField}
use Rattle.rasn_de.specs.SetPartTypes.{held_tree, text, name_at, LacksSlot, DecodesNext}
use Rattle.rasn_schema.specs.declared.types.Presence.{Presence as PartPresence}
use Rattle.rasn_schema.specs.declared.types.Presence.TheVariants.{Required, Optional, Addition, Default}
use Rattle.rasn_schema.specs.declared.types.Component.{Component}
use Rattle.rasn_schema.specs.declared.value.Value.{Value, Integer as Number, Octets}
use Rattle.rasn_schema.specs.Trees.{tree_of}
use Rattle.rasn_schema.specs.Shapes.{presence_of, presences_in}
use Rattle.rasn_dynamic.specs.Inside.{DecodesTree}
use Rattle.rasn_dynamic.specs.Sets.{HoldsUnknown}

-- A number in a range.
abbrev pub IsNumberIn : Interval → Value → Type 0
IsNumberIn range (Number n) = IsIn range n
IsNumberIn range _ = ⊥

-- Octets of an alphabet.
abbrev pub IsStringOf : Alphabet → Value → Type 0
IsStringOf alphabet (Octets o) = AreAdmitted alphabet (cow_slice_items o)
IsStringOf alphabet _ = ⊥

-- Memory runs out; or the number isn't read, as in an ENUMERATED of a type written in Rattle.
abbrev pub FailsAtNumber : List ℤ → Tag → State → DecodeError → State → Type 0
FailsAtNumber known tag old e new = FailsAs (EnumeratedAt known old.rule tag old.rest) old e new ⊎ IsOutOfMemory e.kind

-- The octets have another number than n, or n isn't within the bound.
abbrev pub IsOfWrongSize : ℕ → Constraints → List ℕ → State → DecodeError → Type 0
IsOfWrongSize n c l s e = ((length l ≢ n) × IsErrorOf (SizeConstraintNotSatisfied (length l) (Single n)) s e)
    ⊎ ((length l ≡ n) × (Admits ◌≤◌ c.size n → ⊥) × IsErrorOf (SizeConstraintNotSatisfied n (constraint_of c.size)) s e)

-- An OCTET STRING of n octets isn't read: no OCTET STRING is; or one is, of a wrong size.
abbrev pub FailsAtFixed : ℕ → Tag → Constraints → State → DecodeError → State → Type 0
FailsAtFixed n tag c old e new = DecodesOctetString tag unconstrained old (Err e) new
    ⊎ ((octets : CowSlice ℕ Global) × DecodesOctetString tag unconstrained old (Ok octets) new × IsOfWrongSize n c (cow_slice_items octets) new e)

-- The value is appended, if values are kept, and some of the input was read; or nothing was read, or memory ran out.
abbrev pub IsAppended : Bool → ℕ → State → Value → List Value → Result (Unit {0}) DecodeError → List Value → Type 0
IsAppended keep left s v vs (Ok done) us = (keep ≡ true → us ≡ vs ++ v ∷ []) × (length s.rest ≢ left)
IsAppended keep left s v vs (Err e) us = ((length s.rest ≡ left) × IsErrorOf (UnexpectedExtraData left) s e) ⊎ IsErrorOf OutOfMemory s e

abbrev pub IsDefaultOf : Presence → Tree → Type 0
IsDefaultOf required t = ⊥
IsDefaultOf (optional_by key) t = ⊥
IsDefaultOf addition t = ⊥
IsDefaultOf (default_by key d) t = Same t d

-- A component that is present is read by its shape; or it is its default, which must not be written (X.690 11.5).
abbrev pub DecodesPresent : Presence → Shape → Call Tree
DecodesPresent p s old (Ok t) new = DecodesTree s old (Ok t) new × (IsStrict old.rule → IsNoDefault p t)
DecodesPresent p s old (Err e) new = DecodesTree s old (Err e) new
    ⊎ ((t : Tree) × DecodesTree s old (Ok t) new × IsStrict old.rule × IsDefaultOf p t × IsErrorOf (Der DefaultValuePresent) old e)

-- If the next tag is no alternative's, the error has this name, and nothing is consumed. Of alternatives that end with unknown ones, nothing
-- is said: these have any tag.
abbrev pub IsNoAlternative : Parts → List ℕ → State → DecodeError → State → Type 0
IsNoAlternative ps name old e new = (tag : Tag) → NextTag (form old.rule) old.rest tag → (IsFirstOf ps tag → ⊥) → IsNamedError (IsNoValidChoice name) old.rule e × (new ≡ old)

-- The same of components of a SET, unless there may be unknown ones, which have any other tag.
abbrev pub IsNoMember : Bool → Parts → List ℕ → State → DecodeError → State → Type 0
IsNoMember extensible ps name old e new = extensible ≡ false → IsNoAlternative ps name old e new

-- The component has a default.
abbrev pub HasDefault : Presence → Type 0
HasDefault required = ⊥
HasDefault (optional_by key) = ⊥
HasDefault addition = ⊥
HasDefault (default_by key d) = Unit {0}

-- The value that an absent component has, if values are kept; or memory runs out for the copy of its default.
abbrev pub IsMade : Bool → Presence → State → Result Value DecodeError → Type 0
IsMade keep p s (Ok v) = keep ≡ true → IsMissing p (tree_of v)
IsMade keep p s (Err e) = HasDefault p × IsErrorOf OutOfMemory s e

-- whether some component is required
abbrev pub is_required : PartPresence → Bool
is_required Required = true
is_required Optional = false
is_required Addition = false
is_required (Default c) = false

abbrev pub any_required : List Component → Bool
any_required [] = false
any_required (p ∷ ps) = is_required p.presence || any_required ps

-- The contents are empty and in the definite form, and no component is required.
abbrev pub LeavesAllOut : List Component → State → Type 0
LeavesAllOut ps s = (any_required ps ≡ false) × (s.closing ≡ false) × (s.rest ≡ [])

-- ---- components of a SET

-- the components that were read
abbrev pub held : List (Option Value) → List (Option Tree)
held vs = map (held_tree tree_of) vs

-- of each component that it wasn't read
abbrev pub nones : List Component → List (Option Value)
nones [] = []
nones (p ∷ ps) = None ∷ nones ps

-- the names of components
abbrev pub names_of : List Component → List (List ℕ)
names_of ps = map (λ (p : Component). string_bytes p.name) ps

-- A value is put in its place, which was empty; else the name is returned.
abbrev pub IsPut : ℕ → Value → List ℕ → List (Option Value) → Option (Bor (List ℕ)) → List (Option Value) → Type 0
IsPut k v name before None after = (get_or before k None ≡ None) × (after ≡ slice_set before k (Some v))
IsPut k v name before (Some told) after = (get_or before k None ≢ None) × (after ≡ before) × (text told ≡ name)

-- The component with this index may begin with the tag.
abbrev pub IsComponentFor : (ℕ → Shape) → List Component → Tag → ℕ → Component → Type 0
IsComponentFor f ps tag k p = (Some p ≡ slice_get ps k) × IsFirst (f p.type_id.0) tag

-- Of a component that was read there is a tree: that of the value, if values are kept.
abbrev pub HoldsSlot : Bool → Option Value → Option Tree → Type 0
HoldsSlot keep None slot = slot ≡ None
HoldsSlot keep (Some v) slot = (t : Tree) × (slot ≡ Some t) × (keep ≡ true → tree_of v ≡ t)

abbrev pub HoldsSlots : Bool → List (Option Value) → List (Option Tree) → Type 0
HoldsSlots keep [] slots = slots ≡ []
HoldsSlots keep (x ∷ found) slots = (slot : Option Tree) × (others : List (Option Tree)) × (slots ≡ slot ∷ others) × HoldsSlot keep x slot × HoldsSlots keep found others

-- One more component is read, whatever the trees of those before it are. Unknown values are in a list of their own.
abbrev pub DecodesMember : Bool → Bool → Parts → List (List ℕ) → List (Option Value) → List Value → State → Result (Option (Bor (List ℕ))) DecodeError → State → List (Option Value) → List Value → Type 0
DecodesMember keep extensible ps names before kept old r new after more = (slots : List (Option Tree)) (us : List Tree) → HoldsSlots keep before slots → HoldsUnknown keep kept us
    → (others : List (Option Tree)) × (vs : List Tree) × HoldsSlots keep after others × HoldsUnknown keep more vs × DecodesNext extensible ps names slots us old r new others vs

-- A component is what was read of it, or has the value that it has if it is absent.
abbrev pub IsValueOf : Presence → Option Value → Value → Type 0
IsValueOf p None v = IsMissing p (tree_of v)
IsValueOf p (Some w) v = v ≡ w

abbrev pub IsSettled : Bool → Presence → List ℕ → Codec → Option Value → Result Value DecodeError → Type 0
IsSettled keep p name rule found (Ok v) = (p ≡ required → found ≢ None) × (keep ≡ true → IsValueOf p found v)
IsSettled keep p name rule found (Err e) = IsOutOfMemory e.kind ⊎ ((p ≡ required) × (found ≡ None) × IsNamedError (IsMissingField name) rule e)

abbrev pub AreSettled : List Component → List (Option Value) → List Value → Type 0
AreSettled [] [] vs = vs ≡ []
AreSettled [] (x ∷ found) vs = ⊥
AreSettled (p ∷ ps) [] vs = ⊥
AreSettled (p ∷ ps) (x ∷ found) vs = (v : Value) × (us : List Value) × (vs ≡ v ∷ us) × IsValueOf (presence_of p.presence) x v × AreSettled ps found us

-- No required component is missing.
abbrev pub LacksNone : List Component → List (Option Value) → Type 0
LacksNone ps found = (k : ℕ) → LacksSlot (presences_in ps) (held found) k → ⊥

-- All components, if values are kept; or the name of the first required one that is missing.
abbrev pub Gathers : Bool → List Component → Codec → List (Option Value) → Result (Vec Value Global) DecodeError → Type 0
Gathers keep ps rule found (Ok vs) = LacksNone ps found × (keep ≡ true → AreSettled ps found vs.items)
Gathers keep ps rule found (Err e) = IsOutOfMemory e.kind ⊎ ((k : ℕ) × LacksSlot (presences_in ps) (held found) k × IsNamedError (IsMissingField (name_at (names_of ps) k)) rule e)
