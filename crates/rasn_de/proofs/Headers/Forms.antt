-- Whether a value is primitive, as its header tells.
use Rattle.std.proofs.Common.{◌≡◌, ◌≢◌, ℕ, inl, inr, false, List, Result, Ok, Err, refl, subst}
use Rattle.rasn_types.specs.declared.types.tag.Tag.{Tag}
use Rattle.rasn_types.specs.declared.types.codec.Codec.{Codec}
use Rattle.rasn_types.specs.Tags.{form, in_universal}
use Rattle.rasn_types.specs.Framing.{AreOctets, definite, indefinite, Frame}
use Rattle.rasn_de.specs.declared.ber.de.parser.ParseError.{ParseError}
use Rattle.rasn_de.specs.declared.ber.de.parser.ParseError.TheVariants.{OutOfMemory}
use Rattle.rasn_de.specs.declared.ber.de.parser.headers.Expected.TheVariants.{Tagged}
use Rattle.rasn_de.specs.Headers.{spelled, Header, header_at}
use Rattle.rasn_de.specs.Segments.{octets, string_of, string_at, without_memory}
use Rattle.rasn_de.specs.OctetString.{octet_string_at, IsPrimitive, IsConstructed}
use Rattle.rasn_de.proofs.Headers.Frames.{header_parsed}
use Rattle.rasn_de.proofs.Headers.Memory.{NoMemory, header_none}
use Rattle.rasn_de.proofs.Strings.Segments.{IsNested, string_plain}
use Rattle.rasn_de.proofs.Headers.Fronts.{frame_bit}

frame_there : (rule : Codec) (tag : Tag) (l : List ℕ) (h : Header) → AreOctets l → header_at (form rule) (Tagged tag) l ≡ Ok h → Frame (form rule) l tag h.bit h.rest h.extent
frame_there rule tag l h o e = let f = header_parsed (form rule) (Tagged tag) l h o e in subst (λ z. Frame (form rule) l z h.bit h.rest h.extent) f.1 f.0

pub primitive_form : (rule : Codec) (tag : Tag) (l : List ℕ) (h : Header) (c : List ℕ) → AreOctets l → header_at (form rule) (Tagged tag) l ≡ Ok h → (h.bit ≡ false) × (h.extent ≡ definite c) → IsPrimitive rule tag l
primitive_form rule tag l h c o e (b, x) = (h.rest, c, subst (λ z. Frame (form rule) l tag false h.rest z) x (subst (λ z. Frame (form rule) l tag z h.rest h.extent) b (frame_there rule tag l h o e)))

pub constructed_form : (rule : Codec) (tag : Tag) (l : List ℕ) (h : Header) → AreOctets l → header_at (form rule) (Tagged tag) l ≡ Ok h → IsNested h → IsConstructed rule tag l
constructed_form rule tag l h o e (inl b) = (h.rest, h.extent, subst (λ z. Frame (form rule) l tag z h.rest h.extent) b (frame_there rule tag l h o e))
constructed_form rule tag l h o e (inr x) =
    let f = subst (λ z. Frame (form rule) l tag h.bit h.rest z) x (frame_there rule tag l h o e) in
    (h.rest, indefinite, subst (λ z. Frame (form rule) l tag z h.rest indefinite) (frame_bit f) f)

-- the octets of segments, or why there are none
pub nested_octets : (rule : Codec) (depth : ℕ) (tag : Tag) (l : List ℕ) (h : Header) (r : Result (List ℕ × List ℕ) ParseError) → header_at (form rule) (Tagged tag) l ≡ Ok h → string_of rule octets (in_universal 4) depth h ≡ r
    → octet_string_at rule depth tag l ≡ r
nested_octets rule depth tag l h r e w = rw e w

-- the same where no memory is left
pub nested_bare : (rule : Codec) (depth : ℕ) (tag : Tag) (l : List ℕ) (h : Header) → header_at (form rule) (Tagged tag) l ≡ Ok h → string_of rule (without_memory octets) (in_universal 4) depth h ≡ Err OutOfMemory
    → string_at rule (without_memory octets) (in_universal 4) depth tag l ≡ Err OutOfMemory
nested_bare rule depth tag l h e w = rw e w

-- one segment's octets
pub plain_octets : (rule : Codec) (depth : ℕ) (tag : Tag) (l : List ℕ) (h : Header) (c : List ℕ) → header_at (form rule) (Tagged tag) l ≡ Ok h → (h.bit ≡ false) × (h.extent ≡ definite c) → octet_string_at rule depth tag l ≡ Ok (c, h.rest)
plain_octets rule depth tag l h c e (b, x) = rw e (string_plain rule octets (in_universal 4) depth h c c b x refl)

pub header_memory : (rule : Codec) (tag : Tag) (l : List ℕ) (f : ParseError) → header_at (form rule) (Tagged tag) l ≡ Err f → f ≢ OutOfMemory
header_memory rule tag l f e = subst NoMemory e (header_none (spelled (form rule)) (Tagged tag) l)
