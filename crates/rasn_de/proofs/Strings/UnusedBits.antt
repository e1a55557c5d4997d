-- The last bits of octets are a remainder of the last octet.
use Rattle.std.proofs.Common.{◌≡◌, ◌≢◌, ℕ, suc, ◌+◌, ◌-◌, ◌*◌, ◌%◌, ◌^◌, ◌<◌, ◌≤◌, Bool, true, false, get_or, List, [], ◌∷◌, length, drop, refl, sym, ap, ◌∙◌, arith}
use Rattle.std.specs.Prelude.{not, nat_eq}
use Rattle.std.proofs.lemmas.Bool.Decides.{nat_tests}
use Rattle.std.proofs.lemmas.List.{drop-drop}
use Rattle.std.proofs.Math.Seq.{drop-cons}
use Rattle.std.proofs.Math.Nat.{one-le-pow, mod-eq_of_lt}
use Rattle.std.proofs.Math.Pow.{pow-lt}
use Rattle.std.proofs.Math.ListN.{drop_of_length-le}
use Rattle.rasn_types.specs.Contents.{bits_of}
use Rattle.rasn_types.specs.BitString.{bits_in}
use Rattle.rasn_types.proofs.BitString.Bits.{value, value_octet, value-drop, bits_in-drop, bits_in-one}
use Rattle.rasn_de.specs.BitString.{is_any_set, last_bits}

-- bits of which one is set spell a number above 0
any_value : (bs : List Bool) → is_any_set bs ≡ not (nat_eq (value bs) 0)
any_value [] = refl
any_value (true ∷ bs) = let p = one-le-pow (length bs) 2 (omega arith) in let n : 1 * 2 ^ length bs + value bs ≢ 0 = omega (arith, p) in grind (arith, nat_tests)
any_value (false ∷ bs) = let z : value bs ≡ 0 * 2 ^ length bs + value bs = omega arith in any_value bs ∙ ap (λ n. not (nat_eq n 0)) z

-- the last octet, and the last bits of it
last_octet : (u : ℕ) (octets : List ℕ) → u < 8 → 1 ≤ length octets → last_bits u octets ≡ drop (8 - u) (bits_of (get_or octets (length octets - 1) 0))
last_octet u octets h n =
    let k : ℕ = length octets - 1 in
    let one : drop k octets ≡ get_or octets k 0 ∷ [] = drop-cons octets k 0 (omega (arith, n)) ∙ ap (λ l. get_or octets k 0 ∷ l) (drop_of_length-le octets {i = suc k} (omega (arith, n))) in
    let split : 8 * k + (8 - u) ≡ 8 * length octets - u = omega (arith, h, n) in
    ap (λ m. drop m (bits_in octets)) (sym split)
    ∙ (sym (drop-drop (8 - u) (8 * k) (bits_in octets))
    ∙ ap (drop (8 - u)) (sym (bits_in-drop k octets) ∙ (ap bits_in one ∙ bits_in-one (get_or octets k 0))))

pub any_of_last : (u : ℕ) (octets : List ℕ) (w : ℕ) → u < 8 → 1 ≤ length octets → get_or octets (length octets - 1) 0 < 256 → w ≡ 2 ^ u → not (nat_eq (get_or octets (length octets - 1) 0 % w) 0) ≡ is_any_set (last_bits u octets)
any_of_last u octets w h n o e =
    let b : ℕ = get_or octets (length octets - 1) 0 in
    let v : b % 2 ^ u ≡ value (drop (8 - u) (bits_of b)) = ap (λ x. x % 2 ^ u) (sym (value_octet b o)) ∙ value-drop (8 - u) u (bits_of b) (omega (arith, h)) in
    ap (λ x. not (nat_eq (b % x) 0)) e ∙ (ap (λ x. not (nat_eq x 0)) v ∙ (sym (any_value (drop (8 - u) (bits_of b))) ∙ ap is_any_set (sym (last_octet u octets h n))))

pub shifted : (u : ℕ) → u < 8 → 1 * 2 ^ u % 256 ≡ 2 ^ u
shifted u h =
    let p : 2 ^ u < 256 = pow-lt h in
    let e : 1 * 2 ^ u ≡ 2 ^ u = omega arith in
    ap (λ n. n % 256) e ∙ mod-eq_of_lt p
