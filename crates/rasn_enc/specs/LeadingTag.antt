-- An identifier at the front of octets, read octet by octet.
use Rattle.std.specs.Prelude.{ℕ, ◌+◌, ◌*◌, ◌%◌, nat_eq, nat_lt, nat_le, if◌then◌else◌, List, [], ◌∷◌, Option, Some, None}
use Rattle.rasn_types.specs.declared.types.tag.Class.{Class}
use Rattle.rasn_types.specs.declared.types.tag.Class.TheVariants.{Universal, Application, Context, Private}

abbrev pub class_of : ℕ → Class
class_of n = if nat_eq n 0 then Universal else (if nat_eq n 1 then Application else (if nat_eq n 2 then Context else Private))

-- A number in base 128, of which the octets already read have the value n. If n is 2 ^ 25 or more, a further octet
-- makes the number too large.
unfoldable pub number_at : ℕ → List ℕ → Option ℕ
number_at n [] = None
number_at n (b ∷ l) = if nat_le 0x2000000 n then None else (if nat_lt b 128 then Some (n * 128 + b) else number_at (n * 128 + b % 128) l)

unfoldable pub tag_number_at : ℕ → List ℕ → Option ℕ
tag_number_at first l = if nat_eq (first % 32) 31 then number_at 0 l else Some (first % 32)
