-- Strings in segments, read up to their contents or to the first fault (8.6.4, 8.7.3, 8.23).
use Rattle.std.specs.Prelude.{ℕ, zero, suc, Bool, true, false, ◌&&◌, nat_eq, if◌then◌else◌, List, [], ◌∷◌, ◌++◌, length, Result, Ok, Err}
use Rattle.rasn_types.specs.declared.types.tag.Tag.{Tag}
use Rattle.rasn_types.specs.declared.types.codec.Codec.{Codec}
use Rattle.rasn_de.specs.declared.ber.de.parser.ParseError.{ParseError}
use Rattle.rasn_de.specs.declared.ber.de.parser.ParseError.TheVariants.{Incomplete, UnexpectedExtraData, ExceedsMaxParseDepth, MissingEndOfContents, OutOfMemory, Der}
use Rattle.rasn_types.specs.declared.error.decode.DerDecodeErrorKind.TheVariants.{ConstructedEncodingNotAllowed}
use Rattle.rasn_types.specs.Framing.{Extent, definite, indefinite}
use Rattle.rasn_types.specs.Tags.{form}
use Rattle.rasn_de.specs.declared.ber.de.parser.Value.{Value}
use Rattle.rasn_de.specs.declared.ber.de.parser.headers.Expected.TheVariants.{Tagged}
use Rattle.rasn_de.specs.Headers.{◌>>=◌, Header, header_at, is_der}
use Rattle.rasn_de.specs.ParserViews.{header_with}

-- The list is empty or begins with end-of-contents octets.
abbrev pub ends : List ℕ → Bool
ends [] = true
ends (a ∷ []) = false
ends (a ∷ b ∷ l) = nat_eq a 0 && nat_eq b 0

-- Segments up to the end. Their number is at most n, the number of octets.
unfoldable pub segments_at : {X : Type 0} → (List ℕ → Result (List X × List ℕ) ParseError) → ℕ → List ℕ → Result (List X × List ℕ) ParseError
segments_at read zero l = Ok ([], l)
segments_at read (suc n) l = if ends l then Ok ([], l) else (read l >>= λ p. segments_at read n p.1 >>= λ q. Ok (p.0 ++ q.0, q.1))

-- What follows end-of-contents octets.
unfoldable pub end_of_contents_at : List ℕ → Result (List ℕ) ParseError
end_of_contents_at [] = Err (Incomplete 2)
end_of_contents_at (a ∷ []) = if nat_eq a 0 then Err (Incomplete 1) else Err MissingEndOfContents
end_of_contents_at (a ∷ b ∷ l) = if nat_eq a 0 && nat_eq b 0 then Ok l else Err MissingEndOfContents

-- The octets that contain the segments; and, in the next two definitions, what follows the value once these are read.
abbrev pub octets_inside : Extent → List ℕ → List ℕ
octets_inside (definite c) rest = c
octets_inside indefinite rest = rest

abbrev pub definite_end : List ℕ → List ℕ → Result (List ℕ) ParseError
definite_end rest [] = Ok rest
definite_end rest (b ∷ l) = Err (UnexpectedExtraData (length (b ∷ l)))

abbrev pub end_at : Extent → List ℕ → List ℕ → Result (List ℕ) ParseError
end_at (definite c) rest left = definite_end rest left
end_at indefinite rest left = end_of_contents_at left

-- How the octets of a value are read: as one segment, or as nested segments.
abbrev pub string_in : {X : Type 0} → Codec → (List ℕ → Result (List X) ParseError) → (Extent → List ℕ → Result (List X × List ℕ) ParseError) → Bool → Extent → List ℕ → Result (List X × List ℕ) ParseError
string_in rule segment nested false (definite c) rest = segment c >>= λ xs. Ok (xs, rest)
string_in rule segment nested false indefinite rest = if is_der rule then Err (Der ConstructedEncodingNotAllowed) else nested indefinite rest
string_in rule segment nested true extent rest = if is_der rule then Err (Der ConstructedEncodingNotAllowed) else nested extent rest

abbrev pub too_deep : {X : Type 0} → Extent → List ℕ → Result (List X × List ℕ) ParseError
too_deep extent rest = Err ExceedsMaxParseDepth

abbrev pub segments_in : {X : Type 0} → (List ℕ → Result (List X × List ℕ) ParseError) → Extent → List ℕ → Result (List X × List ℕ) ParseError
segments_in read extent rest =
    segments_at read (length (octets_inside extent rest)) (octets_inside extent rest) >>= λ q. end_at extent rest q.1 >>= λ r. Ok (q.0, r)

-- The string of the value with this header, and what follows it.
unfoldable pub string_of : {X : Type 0} → Codec → (List ℕ → Result (List X) ParseError) → Tag → ℕ → Header → Result (List X × List ℕ) ParseError
string_of rule segment tag zero h = string_in rule segment too_deep h.bit h.extent h.rest
string_of rule segment tag (suc d) h =
    string_in rule segment (segments_in (λ l. header_at (form rule) (Tagged tag) l >>= string_of rule segment tag d)) h.bit h.extent h.rest

-- The string of a value whose header and contents are read, and what follows it.
abbrev pub string_from : {X : Type 0} → Codec → (Codec → List ℕ → Result (List X) ParseError) → Tag → ℕ → Value → List ℕ → Result (List X × List ℕ) ParseError
string_from rule segment tag depth value rest = string_of rule (segment rule) tag depth (header_with value rest)

-- One segment.
abbrev pub segment_at : {X : Type 0} → Codec → (List ℕ → Result (List X) ParseError) → Tag → ℕ → List ℕ → Result (List X × List ℕ) ParseError
segment_at rule segment tag d l = header_at (form rule) (Tagged tag) l >>= string_of rule segment tag d

abbrev pub octets : List ℕ → Result (List ℕ) ParseError
octets l = Ok l

-- A string with its own tag, whose segments have inner_tag.
abbrev pub string_at : {X : Type 0} → Codec → (List ℕ → Result (List X) ParseError) → Tag → ℕ → Tag → List ℕ → Result (List X × List ℕ) ParseError
string_at rule segment inner_tag depth tag l = header_at (form rule) (Tagged tag) l >>= string_of rule segment inner_tag depth

-- What is collected of a segment if every allocation fails.
abbrev pub unless_some : {X : Type 0} → List X → Result (List X) ParseError
unless_some [] = Ok []
unless_some (x ∷ xs) = Err OutOfMemory

abbrev pub without_memory : {X : Type 0} → (List ℕ → Result (List X) ParseError) → List ℕ → Result (List X) ParseError
without_memory segment c = segment c >>= unless_some

-- The string of a value whose header and contents are read, if every allocation fails.
abbrev pub bare_from : {X : Type 0} → Codec → (Codec → List ℕ → Result (List X) ParseError) → Tag → ℕ → Value → List ℕ → Result (List X × List ℕ) ParseError
bare_from rule segment tag depth value rest = string_of rule (without_memory (segment rule)) tag depth (header_with value rest)
