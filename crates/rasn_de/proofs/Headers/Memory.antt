-- Headers are read without memory.
use Rattle.std.proofs.Common.{◌≢◌, ℕ, ◌+◌, ◌-◌, ◌*◌, ◌%◌, Bool, true, false, ◌&&◌, cond, List, [], ◌∷◌, length, Option, Some, None, Result, Ok, Err}
use Rattle.std.specs.Prelude.{nat_lt, nat_le, nat_eq}
use Rattle.std.specs.Bool.{beq}
use Rattle.rasn_types.specs.declared.types.tag.Tag.{Tag}
use Rattle.rasn_de.specs.declared.ber.de.parser.headers.Spelling.{Spelling}
use Rattle.rasn_de.specs.declared.ber.de.parser.headers.Expected.{Expected}
use Rattle.rasn_de.specs.declared.ber.de.parser.headers.Expected.TheVariants.{AnyTag, Tagged, Exactly}
use Rattle.rasn_types.specs.Tags.{is_eoc}
use Rattle.rasn_de.specs.declared.ber.de.parser.ParseError.{ParseError}
use Rattle.rasn_de.specs.declared.ber.de.parser.ParseError.TheVariants.{OutOfMemory, LengthExceedsPlatformWidth, UnsupportedTagNumber, IndefiniteLengthNotAllowed, ReservedLengthOctet, UnexpectedEndOfContents}
use Rattle.rasn_de.specs.Headers.{◌>>=◌, number128_at, number256_at, tag_number_at, is_longer, tag_of, checked_identifier, identifier_by, first_octets, has_spare, long_at, length_at, contents_at, same_tag, tagged_at, expected_at, header_by}

-- A refusal isn't for running out of memory.
abbrev pub NoMemory : {X : Type 0} → Result X ParseError → Type 0
NoMemory (Ok x) = Unit {0}
NoMemory (Err e) = e ≢ OutOfMemory

pub none_cond : {X : Type 0} (b : Bool) (r s : Result X ParseError) → NoMemory r → NoMemory s → NoMemory (cond b r s)
none_cond true r s p q = p
none_cond false r s p q = q

none_bind : {X Y : Type 0} (r : Result X ParseError) (f : X → Result Y ParseError) → NoMemory r → ((x : X) → NoMemory (f x)) → NoMemory (r >>= f)
none_bind (Ok x) f p q = q x
none_bind (Err e) f p q = p

pub number128_none : (wide : ParseError) (n : ℕ) (l : List ℕ) → wide ≢ OutOfMemory → NoMemory (number128_at wide n l)
unfolding number128_at
number128_none wide n [] h = λ e. cc
number128_none wide n (b ∷ l) h = none_cond (nat_le 0x2000000 n) (Err wide) _ h (none_cond (nat_lt b 128) (Ok (n * 128 + b, l)) _ tt (number128_none wide (n * 128 + b % 128) l h))

tag_number_none : (first : ℕ) (l : List ℕ) → NoMemory (tag_number_at first l)
unfolding tag_number_at
tag_number_none first l = none_cond (nat_eq (first % 32) 31) _ (Ok (first % 32, l)) (number128_none UnsupportedTagNumber 0 l (λ e. cc)) tt

pub identifier_none : (shortest : Bool) (l : List ℕ) → NoMemory (identifier_by shortest l)
unfolding identifier_by
identifier_none shortest [] = λ e. cc
identifier_none shortest (b ∷ l) =
    none_bind (tag_number_at b l) (checked_identifier shortest b l) (tag_number_none b l)
    (λ p. none_cond (is_eoc (tag_of b p.0)) (Err UnexpectedEndOfContents) _ (λ e. cc) (none_cond (shortest && is_longer b l p.0) _ _ (λ e. cc) tt))

number256_none : (n : ℕ) (l : List ℕ) → NoMemory (number256_at n l)
unfolding number256_at
number256_none n [] = tt
number256_none n (b ∷ l) = none_cond (nat_le 0x100_0000_0000_0000 n) (Err LengthExceedsPlatformWidth) _ (λ e. cc) (number256_none (n * 256 + b) l)

octets_none : (k : ℕ) (l : List ℕ) → NoMemory (first_octets k l)
octets_none k l = none_cond (nat_lt (length l) k) _ _ (λ e. cc) tt

long_none : (shortest : Bool) (k : ℕ) (l : List ℕ) → NoMemory (long_at shortest k l)
unfolding long_at
long_none shortest k l =
    none_bind (first_octets k l) _ (octets_none k l) (λ p. none_bind (number256_at 0 p.0) _ (number256_none 0 p.0) (λ n. none_cond (shortest && has_spare p.0 n) _ _ (λ e. cc) tt))

length_none : (spelling : Spelling) (bit : Bool) (l : List ℕ) → NoMemory (length_at spelling bit l)
unfolding length_at
length_none spelling bit [] = λ e. cc
length_none spelling bit (b ∷ l) =
    none_cond (nat_lt b 128) (Ok (Some b, l)) _ tt
    (none_cond (nat_eq b 128) _ _ (none_cond (bit && spelling.indefinite) (Ok (None, l)) (Err IndefiniteLengthNotAllowed) tt (λ e. cc))
    (none_cond (nat_eq b 255) (Err ReservedLengthOctet) _ (λ e. cc) (long_none spelling.shortest (b - 128) l)))

contents_none : (tag : Tag) (bit : Bool) (n : Option ℕ) (l : List ℕ) → NoMemory (contents_at tag bit n l)
contents_none tag bit None l = tt
contents_none tag bit (Some n) l = none_bind (first_octets n l) _ (octets_none n l) (λ p. tt)

tagged_none : (wanted tag : Tag) → NoMemory (tagged_at wanted tag)
tagged_none wanted tag = none_cond (same_tag tag wanted) (Ok tt) _ tt (λ e. cc)

expected_none : (expected : Expected) (tag : Tag) (bit : Bool) → NoMemory (expected_at expected tag bit)
expected_none AnyTag tag bit = tt
expected_none (Tagged wanted) tag bit = tagged_none wanted tag
expected_none (Exactly wanted) tag bit = none_bind (tagged_at wanted.tag tag) _ (tagged_none wanted.tag tag) (λ u. none_cond (beq bit wanted.bit) (Ok tt) _ tt (λ e. cc))

pub header_none : (spelling : Spelling) (expected : Expected) (l : List ℕ) → NoMemory (header_by spelling expected l)
unfolding header_by
header_none spelling expected l =
    none_bind (identifier_by spelling.shortest l) _ (identifier_none spelling.shortest l) (λ i. none_bind (expected_at expected i.tag i.bit) _ (expected_none expected i.tag i.bit)
    (λ u. none_bind (length_at spelling i.bit i.rest) _ (length_none spelling i.bit i.rest) (λ n. contents_none i.tag i.bit n.0 n.1)))
