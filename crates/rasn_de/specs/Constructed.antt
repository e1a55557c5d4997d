-- Values that contain others: how they are opened, read inside and closed.
use Rattle.std.specs.Prelude.{◌≡◌, ℕ, ◌-◌, nat_eq, Bool, true, false, ◌&&◌, not, if◌then◌else◌, List, Result, Ok, Err}
use Rattle.std.specs.Fn.{FnOnceReturnsAtMut, Once}
use Rattle.std.specs.Borrow.{MutBor}
use Rattle.rasn_types.specs.declared.types.tag.Tag.{Tag}
use Rattle.rasn_types.specs.declared.types.codec.Codec.{Codec}
use Rattle.rasn_types.specs.declared.error.decode.DecodeError.{DecodeError}
use Rattle.rasn_types.specs.Framing.{Extent, definite, indefinite}
use Rattle.rasn_de.specs.declared.ber.de.parser.ParseError.{ParseError}
use Rattle.rasn_de.specs.declared.ber.de.parser.ParseError.TheVariants.{ExceedsMaxParseDepth, InvalidConstructedIdentifier}
use Rattle.rasn_de.specs.declared.ber.de.constructed.ConstructedHeader.{ConstructedHeader}
use Rattle.rasn_de.specs.declared.ber.de.parser.Contents.{Contents}
use Rattle.rasn_de.specs.declared.ber.de.parser.headers.Expected.{Expected}
use Rattle.rasn_de.specs.declared.ber.de.parser.headers.Expected.TheVariants.{Tagged}
use Rattle.rasn_types.specs.Tags.{form}
use Rattle.rasn_de.specs.Headers.{Header, header_at, as_written}
use Rattle.rasn_de.specs.Segments.{octets_inside, end_at}
use Rattle.rasn_de.specs.ParserViews.{extent}
use Rattle.rasn_de.specs.State.{State, at, IsEnd, Call, EachCall}
use Rattle.rasn_de.specs.Steps.{IsErrorOf}

-- The headers of a SEQUENCE or SET, of a SEQUENCE OF or SET OF, and of an explicit tag.
abbrev pub sequence_header : Tag → ConstructedHeader
sequence_header tag = record { tag = tag; must_be_constructed = true; levels = 1 }

abbrev pub list_header : Tag → ConstructedHeader
list_header tag = record { tag = tag; must_be_constructed = true; levels = 2 }

abbrev pub prefix_header : Tag → ConstructedHeader
prefix_header tag = record { tag = tag; must_be_constructed = false; levels = 1 }

-- If the value needn't be constructed under every rule, DER requires the bit that it is written with.
abbrev pub expected_header : ConstructedHeader → Codec → Expected
expected_header d rule = if d.must_be_constructed then Tagged d.tag else as_written rule d.tag true

-- A header, or the fault and the remaining octets: all of the input or, if the value isn't constructed but must be,
-- what follows the value.
abbrev pub through : Bool → List ℕ → Result Header ParseError → Result Header (ParseError × List ℕ)
through needed l (Ok h) = if needed && not h.bit then Err (InvalidConstructedIdentifier, h.rest) else Ok h
through needed l (Err f) = Err (f, l)

-- The depth is checked before the header.
abbrev pub constructed_header_at : ConstructedHeader → Codec → ℕ → List ℕ → Result Header (ParseError × List ℕ)
constructed_header_at d rule depth l = if nat_eq depth 0 then Err (ExceedsMaxParseDepth, l) else through d.must_be_constructed l (header_at (form rule) (expected_header d rule) l)

abbrev pub is_indefinite_extent : Extent → Bool
is_indefinite_extent (definite c) = false
is_indefinite_extent indefinite = true

-- The state of the decoder inside: at the contents or, if the length is indefinite, at what follows the header.
abbrev pub contents_state : ConstructedHeader → State → Header → State
contents_state d s h = record { rule = s.rule; depth = s.depth - d.levels; closing = is_indefinite_extent h.extent; whole = octets_inside h.extent h.rest; rest = octets_inside h.extent h.rest }

-- The remaining octets if a value isn't closed: what follows it or, if the length is indefinite, what remained inside.
abbrev pub unclosed : Extent → List ℕ → List ℕ → List ℕ
unclosed (definite c) rest left = rest
unclosed indefinite rest left = left

-- The remaining input afterwards is a suffix of that before, and nothing else changes.
pub record Keeps (old new : State) : Type 0 where
  pub stays : new ≡ at old new.rest
  pub end : IsEnd old.rest new.rest

-- A closure over a decoder, as clauses see it.
abbrev pub Closure : Type 0 → Type 0 → Type 1
Closure F D = Once F (MutBor State × Unit {0}) (Result D DecodeError × (MutBor State × Unit {0}))

-- What is required of a closure that reads: whatever it returns, what remains afterwards is a suffix of what remained
-- before.
abbrev pub LeavesAnEnd : {F D : Type 0} → Closure F D → F → Type 0
LeavesAnEnd g f = EachCall (FnOnceReturnsAtMut g f) (λ o r n. IsEnd o.rest n.rest)

abbrev pub ConsumesOpening : ConstructedHeader → State → Result (State × Contents) DecodeError → State → Type 0
ConsumesOpening d old (Ok p) new = (h : Header) × (constructed_header_at d old.rule old.depth old.rest ≡ Ok h) × (p.0 ≡ contents_state d old h) × (extent p.1 ≡ h.extent) × (new ≡ at old h.rest) × Keeps old new
ConsumesOpening d old (Err e) new = (f : ParseError) × (constructed_header_at d old.rule old.depth old.rest ≡ Err (f, new.rest)) × IsErrorOf f old e × Keeps old new

abbrev pub ConsumesEnd : Extent → List ℕ → State → Result (Unit {0}) DecodeError → State → Type 0
ConsumesEnd x left old (Ok u) new = (end_at x old.rest left ≡ Ok new.rest) × Keeps old new
ConsumesEnd x left old (Err e) new = (f : ParseError) × (end_at x old.rest left ≡ Err f) × IsErrorOf f old e × (new.rest ≡ unclosed x old.rest left) × Keeps old new

-- read is the call that is made inside the value.
module _ {D : Type 0} (read : Call D) (d : ConstructedHeader) (old : State) where
  -- The cause of an error, and the remaining octets.
  pub data FailsInside (e : DecodeError) (rest : List ℕ) : Type 0 where
    no_value : (f : ParseError) → constructed_header_at d old.rule old.depth old.rest ≡ Err (f, rest) → IsErrorOf f old e → FailsInside e rest
    inside : (h : Header) → constructed_header_at d old.rule old.depth old.rest ≡ Ok h → (left : State) → read (contents_state d old h) (Err e) left → rest ≡ h.rest → FailsInside e rest
    not_closed : (h : Header) → constructed_header_at d old.rule old.depth old.rest ≡ Ok h → (v : D) (left : State) → read (contents_state d old h) (Ok v) left
        → (f : ParseError) → end_at h.extent h.rest left.rest ≡ Err f → IsErrorOf f old e → rest ≡ unclosed h.extent h.rest left.rest → FailsInside e rest

  -- What the one call inside returns, and how the value is closed.
  pub record FinishesInside (v : D) (rest : List ℕ) : Type 0 where
    pub header : Header
    pub opened : constructed_header_at d old.rule old.depth old.rest ≡ Ok header
    pub left : State
    pub call : read (contents_state d old header) (Ok v) left
    pub closed : end_at header.extent header.rest left.rest ≡ Ok rest

  abbrev pub DecodesInside : Result D DecodeError → State → Type 0
  DecodesInside (Ok v) new = Keeps old new × FinishesInside v new.rest
  DecodesInside (Err e) new = Keeps old new × FailsInside e new.rest
