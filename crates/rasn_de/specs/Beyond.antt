-- What values keep of the octets that they were read from, beyond their trees.
use Rattle.std.specs.Prelude.{◌≡◌, ◌⊎◌, Option, Some, None, Result, Ok, List, [], ◌∷◌, ◌++◌, Contains, Vec}
use Rattle.std.specs.Global.{Global}
use Rattle.rasn_types.specs.declared.error.decode.DecodeError.{DecodeError}
use Rattle.rasn_types.specs.declared.types.tag.Tag.{Tag}
use Rattle.rasn_types.specs.declared.types.parts.OneOf.{OneOf}
use Rattle.rasn_types.specs.declared.types.parts.OneOf.TheVariants.{This, Other}
use Rattle.rasn_de.specs.Headers.{Header}
use Rattle.rasn_types.specs.Shapes.{Shape, Tree, Presence}
use Rattle.rasn_de.specs.State.{State, Call}
use Rattle.rasn_de.specs.Outcomes.{Got}
use Rattle.rasn_de.specs.Decodes.{Decodes, DecodesExactly}
use Rattle.rasn_de.specs.PartTypes.{OnePart}
use Rattle.rasn_de.specs.declared.ber.de.constructed.ConstructedHeader.{ConstructedHeader}
use Rattle.rasn_de.specs.Constructed.{prefix_header, constructed_header_at, contents_state}

-- A statement about a value that a decoder reads from one state to another.
abbrev pub Beyond : Type 0 → Type 1
Beyond T = State → T → State → Type 0

abbrev pub got : {T : Type 0} → Call T → Beyond T
got call old v new = call old (Ok v) new

abbrev pub BeyondOneOf : {A R : Type 0} → Beyond A → Beyond R → Beyond (OneOf A R)
BeyondOneOf this others old (This v) new = this old v new
BeyondOneOf this others old (Other v) new = others old v new

-- A value of the shape is read, and this is said of the call.
abbrev pub Held : {T : Type 0} → Shape → (T → Tree) → Call T → Beyond T
Held s tree call old v new = Decodes s tree old (Ok v) new × call old (Ok v) new

-- A part is read, as its presence requires, and those after it.
abbrev pub BeyondPart : {A R : Type 0} → Presence → Shape → (A → Tree) → Beyond A → Beyond R → State → A → R → State → Type 0
BeyondPart p s tree part others old v rest new = (here : State) × DecodesExactly (OnePart p s) old (Got (tree v) here.rest) here × part old v here × others here rest new

-- Nothing is consumed for a part that is left out.
abbrev pub BeyondOptional : {A : Type 0} → Beyond A → Beyond (Option A)
BeyondOptional part old (Some v) new = part old v new
BeyondOptional part old None new = new ≡ old

-- A default is made if the value is left out.
abbrev pub BeyondDefault : {A : Type 0} → Beyond A → Beyond A
BeyondDefault part old v new = part old v new ⊎ (new ≡ old)

-- One more element, and all elements, one after the other.
abbrev pub BeyondElement : {A : Type 0} → Beyond A → State → List A → List A → State → Type 0
BeyondElement {A} element old before all new = (v : A) × (all ≡ before ++ (v ∷ [])) × element old v new

abbrev pub BeyondElements : {A : Type 0} → Beyond A → Beyond (List A)
BeyondElements element old [] new = new ≡ old
BeyondElements element old (v ∷ vs) new = (here : State) × element old v here × BeyondElements element here vs new

-- Components are read, one after the other, and a function makes the value from them.
abbrev pub BeyondMade : {F D : Type 0} → Beyond F → (Vec F Global → Result D DecodeError → Type 0) → Beyond D
BeyondMade {F} component made old v new = (fields : Vec F Global) × BeyondElements component old fields.items new × made fields (Ok v)

-- What the contents of a value with such a header keep.
abbrev pub BeyondInside : {D : Type 0} → Beyond D → ConstructedHeader → State → D → Type 0
BeyondInside held header old v =
    (h : Header) × (constructed_header_at header old.rule old.depth old.rest ≡ Ok h) × (left : State) × held (contents_state header old h) v left

-- A value under an explicit tag.
abbrev pub BeyondPrefix : {D : Type 0} → Beyond D → Tag → Beyond D
BeyondPrefix held tag old v new = BeyondInside held (prefix_header tag) old v

-- The value in a slot was read at one of these states.
abbrev pub BeyondSlot : {A : Type 0} → Beyond A → List State → Option A → Type 0
BeyondSlot part starts None = Unit {0}
BeyondSlot part starts (Some v) = (here : State) × Contains starts here × (next : State) × part here v next
