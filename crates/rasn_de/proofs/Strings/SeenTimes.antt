-- Times whose segments are seen.
use Rattle.std.proofs.Common.{◌≡◌, ◌≢◌, ◌<◌, ◌⊎◌, inl, inr, ℕ, true, false, List, length, Result, Ok, Err, refl, sym, ap, subst, arith}
use Rattle.rasn_types.specs.declared.types.codec.Codec.{Codec}
use Rattle.rasn_types.specs.declared.types.tag.Tag.{Tag}
use Rattle.rasn_types.specs.Shapes.{Shape, Tree}
use Rattle.rasn_types.specs.declared.error.decode.DecodeError.{DecodeError}
use Rattle.rasn_types.proofs.Headers.Frames.{frame_one}
use Rattle.rasn_de.specs.declared.ber.de.parser.ParseError.{ParseError}
use Rattle.rasn_de.specs.declared.ber.de.parser.ParseError.TheVariants.{OutOfMemory}
use Rattle.rasn_de.specs.OctetString.{octet_string_at, IsConstructed}
use Rattle.rasn_de.specs.ShortText.{HoldsShort, BeginsShortTime, TakesTime, IsTimeExactlyIf}
use Rattle.rasn_de.specs.Checks.{Checks, ChecksBy}
use Rattle.rasn_de.specs.Decodes.{Decodes}
use Rattle.rasn_de.specs.State.{State, at, Call}
use Rattle.rasn_de.specs.Time.{DecodesTime}
use Rattle.rasn_de.proofs.Headers.NextTag.{memory_or}

-- The octets that were kept are a string's, and mean a time.
pub time_taken : {X : Type 0} (Means : Codec → List ℕ → X → Type 0) (tag : Tag) (old new : State) (rest xs kept : List ℕ) (x : X)
    → octet_string_at old.rule old.depth tag old.rest ≡ Ok (xs, rest) → xs ≡ kept → Means old.rule kept x → new ≡ at old rest → TakesTime Means tag old true new
time_taken Means tag old new rest xs kept x h q m e =
    let P : State → Type 0 = λ n. TakesTime Means tag old true n in
    subst P (sym e) (x, (xs, h, refl, subst (λ (z : List ℕ). Means old.rule z x) (sym q) m))

-- Octets of a string mean no time if those that were kept don't.
pub other_untaken : {X : Type 0} (Means : Codec → List ℕ → X → Type 0) (tag : Tag) (old : State) (rest xs octets : List ℕ) (len : ℕ)
    → octet_string_at old.rule old.depth tag old.rest ≡ Ok (xs, rest) → HoldsShort octets len xs
    → IsTimeExactlyIf false (Means old.rule) octets len → TakesTime Means tag old false old
other_untaken {X} Means tag old rest xs octets len h (count, kept) n = (refl, none)
  where
    none : IsConstructed old.rule tag old.rest → BeginsShortTime (Means old.rule) tag old → ⊥
    none (r, y, f) (x, text, after, e, m, inr (p, c, g)) = let b : false ≡ true = (frame_one old.rest g f).bit in cc
    none c (x, text, after, e, m, inl s) =
        let p : (text, after) ≡ (xs, rest) = cc in
        let q : text ≡ xs = ap (λ (z : List ℕ × List ℕ). z.0) p in
        let k : length text ≡ length xs = ap (λ (z : List ℕ). length z) q in
        let l : len ≡ length xs = count (omega (arith, k, s)) in
        let b : len < 33 = omega (arith, k, s, l) in
        n b x (subst (λ (z : List ℕ). Means old.rule z x) (kept b) (subst (λ (z : List ℕ). Means old.rule z x) q m))

-- A string that wasn't taken and can't be decoded is no short time.
pub short_time_none : {X : Type 0} (Means : Codec → List ℕ → X → Type 0) (tag : Tag) (old same new : State) (e : DecodeError)
    → TakesTime Means tag old false same → DecodesTime (Means same.rule) tag same (Err e) new
    → BeginsShortTime (Means old.rule) tag old → ⊥
short_time_none {X} Means tag old same new e (k, none) d t =
    go (subst (λ (s : State). DecodesTime (Means s.rule) tag s (Err e) new) k d)
  where
    found : (f : ParseError) → (f ≢ OutOfMemory → octet_string_at old.rule old.depth tag old.rest ≡ Err f)
        → (f ≡ OutOfMemory → IsConstructed old.rule tag old.rest) → (f ≡ OutOfMemory) ⊎ (f ≢ OutOfMemory) → ⊥
    found f read memory (inl m) = none (memory m) t
    found f read memory (inr n) = let h = read n in let g = t.3 in cc

    go : DecodesTime (Means old.rule) tag old (Err e) new → ⊥
    go (inl (f, x, s, read, memory)) = found f read (λ m. (memory m).0) (memory_or f)
    go (inr (text, h, s, n, x)) =
        let g = t.3 in
        let p : (t.1, t.2) ≡ (text, new.rest) = cc in
        let q : t.1 ≡ text = ap (λ (z : List ℕ × List ℕ). z.0) p in
        n t.0 (subst (λ (z : List ℕ). Means old.rule z t.0) q t.4)

-- A call that makes nothing of a value of the shape checks the shape.
pub shape_checked : {X : Type 0} (call : Call X) (shape : Shape) (tree : X → Tree) (old new : State)
    → ((result : Result X DecodeError) → call old result new → Decodes shape tree old result new)
    → (result : Result (Unit {0}) DecodeError) → ChecksBy call old result new → Checks shape old result new
shape_checked call shape tree old new decodes (Ok u) (x, d) = (tree x, decodes (Ok x) d)
shape_checked call shape tree old new decodes (Err e) d = decodes (Err e) d
