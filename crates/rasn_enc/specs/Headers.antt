-- The identifier and length octets that are written (X.690 8.1).
use Rattle.std.specs.Prelude.{ℕ, zero, suc, ◌+◌, ◌*◌, ◌/◌, ◌%◌, ◌^◌, Bool, true, cond, List, [], ◌∷◌, ◌++◌, length, ltb}
use Rattle.rasn_types.specs.Tags.{rank}
use Rattle.rasn_types.specs.declared.types.tag.Tag.{Tag}
use Rattle.rasn_types.specs.Framing.{bit_of}

-- The last `count` digits of a number, the most significant one first.
unfoldable pub digits : ℕ → ℕ → ℕ → List ℕ
digits base zero n = []
digits base (suc count) n = (n / base ^ count) % base ∷ digits base count n

-- The octets with the high bit set in each except the last.
unfoldable pub chained : List ℕ → List ℕ
chained [] = []
chained (d ∷ []) = d ∷ []
chained (d ∷ e ∷ l) = (128 + d) ∷ chained (e ∷ l)

-- The number of groups of seven bits in a number below 2 ^ 32.
abbrev pub group_count : ℕ → ℕ
group_count n = cond (ltb n 128) 1 (cond (ltb n 16384) 2 (cond (ltb n 2097152) 3 (cond (ltb n 268435456) 4 5)))

-- The number of octets in a number below 2 ^ 64.
abbrev pub octet_count : ℕ → ℕ
octet_count n = cond (ltb n 256) 1 (cond (ltb n 65536) 2 (cond (ltb n 16777216) 3 (cond (ltb n 4294967296) 4
    (cond (ltb n 1099511627776) 5 (cond (ltb n 281474976710656) 6 (cond (ltb n 72057594037927936) 7 8))))))

-- The identifier octets of a tag (8.1.2).
unfoldable pub id_octets : Tag → Bool → List ℕ
id_octets tag bit = cond (ltb tag.value 31)
    ((64 * rank tag.class + (32 * bit_of bit + tag.value)) ∷ [])
    ((64 * rank tag.class + (32 * bit_of bit + 31)) ∷ chained (digits 128 (group_count tag.value) tag.value))

-- The length octets for n contents octets (8.1.3).
unfoldable pub length_octets : ℕ → List ℕ
length_octets n = cond (ltb n 128) (n ∷ []) ((128 + octet_count n) ∷ digits 256 (octet_count n) n)

-- A value of the definite form, and below it a value of the indefinite form.
unfoldable pub definite : Tag → Bool → List ℕ → List ℕ
definite tag bit contents = id_octets tag bit ++ (length_octets (length contents) ++ contents)

unfoldable pub closed : Tag → List ℕ → List ℕ
closed tag contents = id_octets tag true ++ (128 ∷ (contents ++ (0 ∷ 0 ∷ [])))
