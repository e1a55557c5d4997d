-- Headers, and what of them is still to be read.
use Rattle.std.proofs.Common.{◌≡◌, ◌≤◌, ◌<◌, ◌-◌, ◌++◌, ℕ, zero, suc, [], ◌∷◌, List, Bool, true, false, cond, drop, take, set, get_or, ◌+◌, length, refl, sym, ap, ap₂, arith, ◌∙◌, length-append}
use Rattle.std.proofs.lemmas.List.{append-nil, append_assoc, drop_all, drop_at, drop-drop, get_or-drop, length-drop, length-take-le, take-append-drop, take_all}
use Rattle.std.proofs.lemmas.List.Edits.{paste_more}
use Rattle.std.proofs.Math.Seq.{paste, take-append_seam}
use Rattle.std.specs.Prelude.{ltb}
use Rattle.rasn_types.specs.declared.types.tag.Tag.{Tag}
use Rattle.rasn_enc.specs.Headers.{id_octets, length_octets}
use Rattle.rasn_enc.specs.Buffer.DeferredHeaders.{header_octets, rendered, Rising, Defers}
use Rattle.rasn_enc.specs.declared.ber.enc.writer.deferred_headers.HeaderForm.{HeaderForm}
use Rattle.rasn_enc.specs.declared.ber.enc.writer.deferred_headers.HeaderForm.TheVariants.{Definite, Indefinite}
use Rattle.rasn_enc.specs.declared.ber.enc.writer.deferred_headers.DeferredHeader.{DeferredHeader}
use Rattle.rasn_enc.proofs.Buffer.Rendered.{rising-below}

some : (b : Bool) (x y : ℕ) (xs ys : List ℕ) → 1 ≤ length (cond b (x ∷ xs) (y ∷ ys))
some true x y xs ys = omega arith
some false x y xs ys = omega arith

pub id_some : (tag : Tag) (bit : Bool) → 1 ≤ length (id_octets tag bit)
unfolding id_octets
id_some tag bit = some (ltb tag.value 31) _ _ _ _

length_some : (n : ℕ) → 1 ≤ length (length_octets n)
unfolding length_octets
length_some n = some (ltb n 128) _ _ _ _

-- A header has two octets at least.
pub header_two : (h : HeaderForm) → 2 ≤ length (header_octets h)
header_two (Definite t n) = omega (arith, id_some t true, length_some n, length-append (id_octets t true) (length_octets n))
header_two (Indefinite t) = omega (arith, id_some t true, length-append (id_octets t true) (128 ∷ []))

pub defers-rising : (at : ℕ) (rest : List ℕ) (ds ns : List DeferredHeader) (e : ℕ) → Defers at rest ds → Rising at ns e → Rising at (ds ++ ns) e
defers-rising at rest [] ns e d r = r
defers-rising at rest (m ∷ []) ns e d r = let p = d.0 in (omega (arith, p), rw p r)
defers-rising at rest (m ∷ n ∷ ms) ns e d r = absurd d

pub defers-list : (at : ℕ) (rest : List ℕ) (ds : List DeferredHeader) (g : List ℕ) (ns : List DeferredHeader) → Defers at rest ds → Rising at ns (length g) → rendered g at (ds ++ ns) ≡ rest ++ rendered g at ns
defers-list at rest [] g ns d r = rw d refl
defers-list at rest (m ∷ []) g ns d r =
    let w = rising-below at ns (length g) r in
    let none : drop at (take at g) ≡ [] = drop_all at (take at g) (omega (arith, length-take-le at g w)) in
    rw (d.0, none, d.1) refl
defers-list at rest (m ∷ n ∷ ms) g ns d r = absurd d

-- The room is filled.
pub room_filled : (xs h : List ℕ) (at x y : ℕ) → at + 2 ≤ length xs → 2 ≤ length h → x ≡ get_or h 0 0 → y ≡ get_or h 1 0 → set (set xs at x) (at + 1) y ≡ take at xs ++ (take 2 h ++ drop (at + 2) xs)
room_filled xs h at x y w two e f =
    let z : at + 0 ≡ at = omega arith in
    let start : paste xs at h 0 ≡ xs = rw (z, append-nil) (take-append-drop at xs) in
    let one : set xs at (get_or h 0 0) ≡ paste xs at h 1 = rw (start, z) at (paste_more xs at h 0 0 (omega arith) (omega arith)) in
    rw (e, f) (ap (λ l. set l (at + 1) (get_or h 1 0)) one ∙ (paste_more xs at h 1 0 (omega arith) (omega arith) ∙ append_assoc (take at xs) (take 2 h) (drop (at + 2) xs)))

any_default : (h : List ℕ) (i d : ℕ) → i < length h → get_or h i d ≡ get_or h i 0
any_default [] i d w = absurd (omega arith)
any_default (x ∷ h) zero d w = refl
any_default (x ∷ h) (suc i) d w = any_default h i d (omega arith)

-- The slice from a place on.
pub take-drop_length : (n : ℕ) (ys : List ℕ) → take (length ys - n) (drop n ys) ≡ drop n ys
take-drop_length n ys = take_all _ (drop n ys) (omega (arith, length-drop n ys))

-- What is written after octets: it is there, and is taken off there.
module _ (xs h ys : List ℕ) (end : ℕ) (l : end ≡ length xs) (e : ys ≡ xs ++ h) where
  pub spelled_behind : drop end ys ≡ h
  spelled_behind = ap (drop end) e ∙ drop_at xs h end (sym l)

  pub spelled_rest : drop (end + 2) ys ≡ drop 2 h
  spelled_rest = sym (drop-drop 2 end ys) ∙ ap (drop 2) spelled_behind

  pub spelled_octet : (i p d : ℕ) → p ≡ end + i → i < length h → get_or ys p d ≡ get_or h i 0
  spelled_octet i p d q w = ap (λ z. get_or ys z d) q ∙ (sym (get_or-drop end ys i d) ∙ (ap (λ z. get_or z i d) spelled_behind ∙ any_default h i d w))

  pub spelled_off : take end ys ≡ xs
  spelled_off = ap₂ take l e ∙ take-append_seam xs h
