-- OCTET STRING, read from lists.
use Rattle.std.specs.Prelude.{◌≡◌, ◌≢◌, ℕ, true, false, List, Result, Ok, Err}
use Rattle.std.specs.Cow.{cow_slice_items}
use Rattle.std.specs.declared.alloc.Global.{Global}
use Rattle.std.specs.declared.borrow.CowSlice.{CowSlice}
use Rattle.std.specs.declared.borrow.CowSlice.TheVariants.{Borrowed, Owned}
use Rattle.rasn_types.specs.declared.types.tag.Tag.{Tag}
use Rattle.rasn_types.specs.declared.types.codec.Codec.{Codec}
use Rattle.rasn_types.specs.declared.error.decode.DecodeError.{DecodeError}
use Rattle.rasn_types.specs.Tags.{form, in_universal}
use Rattle.rasn_types.specs.Framing.{Frame, Extent, definite}
use Rattle.rasn_types.specs.Shapes.{Tree, numbers}
use Rattle.rasn_de.specs.declared.ber.de.parser.ParseError.{ParseError}
use Rattle.rasn_de.specs.declared.ber.de.parser.ParseError.TheVariants.{OutOfMemory}
use Rattle.rasn_de.specs.Segments.{string_at, octets, without_memory}
use Rattle.rasn_de.specs.State.{State, at}
use Rattle.rasn_de.specs.Steps.{IsErrorOf}

abbrev pub octet_string_at : Codec → ℕ → Tag → List ℕ → Result (List ℕ × List ℕ) ParseError
octet_string_at rule depth tag l = string_at rule octets (in_universal 4) depth tag l

-- A primitive value with the tag begins the list.
abbrev pub IsPrimitive : Codec → Tag → List ℕ → Type 0
IsPrimitive rule tag l = (rest : List ℕ) × (contents : List ℕ) × Frame (form rule) l tag false rest (definite contents)

-- A constructed value with the tag begins the list.
abbrev pub IsConstructed : Codec → Tag → List ℕ → Type 0
IsConstructed rule tag l = (rest : List ℕ) × (extent : Extent) × Frame (form rule) l tag true rest extent

-- There is something to collect: the value is constructed, and if every allocation fails, there is no other fault
-- before a segment that isn't empty.
abbrev pub CollectsOctets : Codec → ℕ → Tag → List ℕ → Type 0
CollectsOctets rule depth tag l = IsConstructed rule tag l × (string_at rule (without_memory octets) (in_universal 4) depth tag l ≡ Err OutOfMemory)

-- Octets are borrowed from a primitive string, and owned otherwise.
abbrev pub IsBorrowedIfPrimitive : Codec → Tag → List ℕ → CowSlice ℕ Global → Type 0
IsBorrowedIfPrimitive rule tag l (Borrowed s) = IsPrimitive rule tag l
IsBorrowedIfPrimitive rule tag l (Owned v) = IsConstructed rule tag l

abbrev pub cow_tree : CowSlice ℕ Global → Tree
cow_tree s = numbers (cow_slice_items s)

-- What a decoder collects of a string: its octets and what follows. An error consumes nothing. OutOfMemory is returned
-- only if there is something to collect.
abbrev pub DecodesOctets : Tag → State → Result (CowSlice ℕ Global) DecodeError → State → Type 0
DecodesOctets tag old (Ok s) new = (octet_string_at old.rule old.depth tag old.rest ≡ Ok (cow_slice_items s, new.rest)) × (new ≡ at old new.rest) × IsBorrowedIfPrimitive old.rule tag old.rest s
DecodesOctets tag old (Err e) new = (f : ParseError) × IsErrorOf f old e × (new ≡ old) × (f ≢ OutOfMemory → octet_string_at old.rule old.depth tag old.rest ≡ Err f) × (f ≡ OutOfMemory → CollectsOctets old.rule old.depth tag old.rest)
