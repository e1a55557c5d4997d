-- Open types: which octets are read, and the first fault (8.1.1.1, 8.14).
use Rattle.std.specs.Prelude.{◌≡◌, ◌≢◌, ◌⊎◌, ℕ, true, List, [], Option, Some, None, Result, Ok, Err}
use Rattle.std.specs.Borrow.{Bor}
use Rattle.rasn_types.specs.declared.types.tag.Tag.{Tag}
use Rattle.rasn_types.specs.declared.types.codec.Codec.{Codec}
use Rattle.rasn_types.specs.declared.types.any.Any.{Any}
use Rattle.rasn_types.specs.declared.error.decode.DecodeError.{DecodeError}
use Rattle.rasn_types.specs.Errors.{IsOutOfMemory}
use Rattle.rasn_types.specs.Tags.{form}
use Rattle.rasn_types.specs.Framing.{indefinite}
use Rattle.rasn_types.specs.Shapes.{Tree, numbers, looked_for}
use Rattle.rasn_types.specs.Readings.{Reading}
use Rattle.rasn_types.specs.Grammar.{ReadsAny, ReadsOpen}
use Rattle.rasn_de.specs.declared.ber.de.parser.ParseError.{ParseError}
use Rattle.rasn_de.specs.Headers.{Header, header_at, as_written}
use Rattle.rasn_de.specs.Skipping.{Skipped, IsUnparsable, IsFault, Exactly}
use Rattle.rasn_de.specs.Outcomes.{Exact, Got, Refused}
use Rattle.rasn_de.specs.State.{State, at}
use Rattle.rasn_de.specs.Steps.{IsErrorOf}

-- One complete encoding, or the contents of one value with the tag.
abbrev pub ReadsOpenOctets : Codec → Option Tag → Reading Tree
ReadsOpenOctets rule None = ReadsAny rule
ReadsOpenOctets rule (Some tag) = ReadsOpen rule tag

-- The first fault: of the header, or where contents of indefinite length aren't complete encodings and end-of-contents
-- octets.
abbrev pub IsOpenFault : Codec → Option Tag → List ℕ → ParseError → Type 0
IsOpenFault rule None input fault = IsFault rule input fault
IsOpenFault rule (Some tag) input fault =
    (header_at (form rule) (as_written rule tag true) input ≡ Err fault)
    ⊎ ((h : Header) × (header_at (form rule) (as_written rule tag true) input ≡ Ok h) × (h.extent ≡ indefinite) × IsUnparsable rule h.rest fault)

-- The octets are the only ones that are read, with what follows. An error means that none are, and is the first fault.
abbrev pub OpenAt : Codec → Option Tag → List ℕ → Result (List ℕ × List ℕ) ParseError → Type 0
OpenAt rule tag input (Ok p) = Exact (ReadsOpenOctets rule tag) input (Got (numbers p.0) p.1)
OpenAt rule tag input (Err fault) = Exact (ReadsOpenOctets rule tag) input Refused × IsOpenFault rule tag input fault

abbrev pub as_lists : Result (Bor (List ℕ) × Bor (List ℕ)) ParseError → Result (List ℕ × List ℕ) ParseError
as_lists (Ok p) = Ok (p.0.now, p.1.now)
as_lists (Err e) = Err e

-- A call returns the octets, or the first fault, or an allocation fails for the copy of octets, of which there are some.
-- An error consumes nothing.
abbrev pub DecodesOpenType : Tag → State → Result Any DecodeError → State → Type 0
DecodesOpenType tag old (Ok a) new = OpenAt old.rule (looked_for tag) old.rest (Ok (a, new.rest)) × (new ≡ at old new.rest)
DecodesOpenType tag old (Err e) new = ((IsOutOfMemory e.kind × (e.codec ≡ old.rule) × (p : List ℕ × List ℕ) × OpenAt old.rule (looked_for tag) old.rest (Ok p) × (p.0 ≢ [])) ⊎ ((fault : ParseError) × OpenAt old.rule (looked_for tag) old.rest (Err fault) × IsErrorOf fault old e)) × (new ≡ old)

-- A call returns the octets, or the first fault, which consumes nothing.
abbrev pub BorrowsOpenType : Tag → State → Result (Bor (List ℕ)) DecodeError → State → Type 0
BorrowsOpenType tag old (Ok o) new = OpenAt old.rule (looked_for tag) old.rest (Ok (o.now, new.rest)) × (new ≡ at old new.rest)
BorrowsOpenType tag old (Err e) new = ((fault : ParseError) × OpenAt old.rule (looked_for tag) old.rest (Err fault) × IsErrorOf fault old e) × (new ≡ old)

-- One complete encoding is skipped, in n steps. An error means that there is none, is the first fault, and consumes
-- nothing.
abbrev pub SkipsValue : State → Result ℕ DecodeError → State → Type 0
SkipsValue old (Ok n) new = Exactly (Skipped old.rule old.rest) (IsFault old.rule old.rest) (Ok (n, new.rest)) × (new ≡ at old new.rest)
SkipsValue old (Err e) new = (fault : ParseError) × Exactly (Skipped old.rule old.rest) (IsFault old.rule old.rest) (Err fault) × IsErrorOf fault old e × (new ≡ old)
