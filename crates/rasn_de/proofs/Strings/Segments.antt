-- Segments one after the other.
use Rattle.std.proofs.Common.{◌≡◌, ◌≢◌, ℕ, zero, suc, ◌-◌, ◌<◌, ◌≤◌, ◌⊎◌, inl, inr, Bool, true, false, ◌&&◌, cond, List, [], ◌∷◌, ◌++◌, length, Result, Ok, Err, refl, sym, ap, ◌∙◌, subst, arith, append_assoc, append-nil}
use Rattle.std.proofs.lemmas.Bool.Decides.{nat_tests}
use Rattle.std.specs.Prelude.{nat_eq, MatchBool}
use Rattle.rasn_types.specs.declared.types.tag.Tag.{Tag}
use Rattle.rasn_types.specs.declared.types.codec.Codec.{Codec}
use Rattle.rasn_de.specs.declared.ber.de.parser.ParseError.{ParseError}
use Rattle.rasn_de.specs.declared.ber.de.parser.ParseError.TheVariants.{Der}
use Rattle.rasn_types.specs.declared.error.decode.DerDecodeErrorKind.TheVariants.{ConstructedEncodingNotAllowed}
use Rattle.rasn_types.specs.Framing.{Extent, definite, indefinite, Ended}
use Rattle.rasn_types.specs.Tags.{form}
use Rattle.rasn_de.specs.declared.ber.de.parser.headers.Expected.TheVariants.{Tagged}
use Rattle.rasn_de.specs.Headers.{◌>>=◌, spelled, Header, header_at, is_der}
use Rattle.rasn_de.specs.ParserViews.{SeesMore}
use Rattle.rasn_de.specs.Segments.{ends, segments_at, end_of_contents_at, octets_inside, definite_end, end_at, string_in, too_deep, segments_in, string_of, segment_at}
use Rattle.rasn_de.proofs.Headers.Results.{bind_ok, chosen, guarded}
use Rattle.rasn_de.proofs.Headers.Shorter.{header_shorter}

-- The test of the end, where end-of-contents octets are allowed.
pub ends_tested : (b : Bool) (l : List ℕ) → MatchBool b (Ended true l) (Ended true l → ⊥) → ends l ≡ b
ends_tested true [] h = refl
ends_tested false [] h = absurd (h (inl refl))
ends_tested true (a ∷ []) (inl e) = cc
ends_tested true (a ∷ []) (inr (c, more, e)) = cc
ends_tested false (a ∷ []) h = refl
ends_tested true (a ∷ b ∷ l) (inl e) = cc
ends_tested true (zero ∷ zero ∷ l) (inr (c, more, e)) = refl
ends_tested true (zero ∷ suc b ∷ l) (inr (c, more, e)) = cc
ends_tested true (suc a ∷ b ∷ l) (inr (c, more, e)) = cc
ends_tested false (zero ∷ zero ∷ l) h = absurd (h (inr (refl, l, refl)))
ends_tested false (zero ∷ suc b ∷ l) h = let g : nat_eq (suc b) 0 ≡ false = grind (arith, nat_tests) in g
ends_tested false (suc a ∷ b ∷ l) h = let g : nat_eq (suc a) 0 ≡ false = grind (arith, nat_tests) in ap (λ z. z && nat_eq b 0) g

-- each reading leaves less than there was
abbrev pub AllShorten : {X : Type 0} → (List ℕ → Result (List X × List ℕ) ParseError) → Type 0
AllShorten {X} read = (l : List ℕ) (p : List X × List ℕ) → read l ≡ Ok p → length p.1 < length l

pub segments_shorter : {X : Type 0} (read : List ℕ → Result (List X × List ℕ) ParseError) → AllShorten read → (n : ℕ) (l : List ℕ) (q : List X × List ℕ) → segments_at read n l ≡ Ok q → length q.1 ≤ length l
unfolding segments_at
segments_shorter read s zero l q e = let m : l ≡ q.1 = cc in let k : length l ≡ length q.1 = ap length m in omega arith
segments_shorter {X} read s (suc n) l q e = go (λ p f. segments_shorter read s n (p.1) f) (chosen (ends l) _ _ _ e)
  where
    go : ((p f : List X × List ℕ) → segments_at read n p.1 ≡ Ok f → length f.1 ≤ length p.1)
        → ((ends l ≡ true) × (◌≡◌ {A = Result (List X × List ℕ) ParseError} (Ok ([], l)) (Ok q))) ⊎ ((ends l ≡ false) × ((read l >>= λ p. segments_at read n p.1 >>= λ r. Ok (p.0 ++ r.0, r.1)) ≡ Ok q)) → length q.1 ≤ length l
    go more (inl (t, f)) = let m : l ≡ q.1 = cc in let k : length l ≡ length q.1 = ap length m in omega arith
    go more (inr (t, f)) =
        let p = bind_ok (read l) _ q f in
        let r = bind_ok (segments_at read n p.0.1) _ q p.2 in
        let g = r.2 in
        let m : r.0.1 ≡ q.1 = cc in
        let k : length r.0.1 ≡ length q.1 = ap length m in
        omega (arith, s l p.0 p.1, more p.0 r.0 r.1)

abbrev pub with_front : {X : Type 0} → List X → Result (List X × List ℕ) ParseError → Result (List X × List ℕ) ParseError
with_front xs r = r >>= λ q. Ok (xs ++ q.0, q.1)

cond_same : {A : Type 0} (b : Bool) (x : A) {y z : A} → y ≡ z → cond b x y ≡ cond b x z
cond_same b x e = ap (λ w. cond b x w) e

-- More room for segments than octets makes no difference.
pub segments_room : {X : Type 0} (read : List ℕ → Result (List X × List ℕ) ParseError) → AllShorten read → (n m : ℕ) (l : List ℕ) → length l ≤ n → length l ≤ m → segments_at read n l ≡ segments_at read m l
unfolding segments_at
segments_room read s zero zero l h k = refl
segments_room read s zero (suc m) [] h k = refl
segments_room read s zero (suc m) (b ∷ l) h k = absurd (omega arith)
segments_room read s (suc n) zero [] h k = refl
segments_room read s (suc n) zero (b ∷ l) h k = absurd (omega arith)
segments_room {X} read s (suc n) (suc m) l h k = cond_same (ends l) (Ok ([], l)) (go (read l) (λ p e. segments_room read s n m p.1 (omega (arith, s l p e)) (omega (arith, s l p e))))
  where
    go : (r : Result (List X × List ℕ) ParseError) → ((p : List X × List ℕ) → r ≡ Ok p → segments_at read n p.1 ≡ segments_at read m p.1)
        → (r >>= λ p. with_front p.0 (segments_at read n p.1)) ≡ (r >>= λ p. with_front p.0 (segments_at read m p.1))
    go (Ok p) f = ap (λ z. with_front p.0 z) (f p refl)
    go (Err e) f = refl

abbrev pub segments : {X : Type 0} → (List ℕ → Result (List X × List ℕ) ParseError) → List ℕ → Result (List X × List ℕ) ParseError
segments read l = segments_at read (length l) l

pub segments_end : {X : Type 0} (read : List ℕ → Result (List X × List ℕ) ParseError) (l : List ℕ) → ends l ≡ true → segments read l ≡ Ok ([], l)
unfolding segments_at
segments_end read [] e = refl
segments_end read (b ∷ l) e = rw e refl

pub segments_fault : {X : Type 0} (read : List ℕ → Result (List X × List ℕ) ParseError) (l : List ℕ) (f : ParseError) → ends l ≡ false → read l ≡ Err f → segments read l ≡ Err f
unfolding segments_at
segments_fault read [] f e g = cc
segments_fault read (b ∷ l) f e g = rw (e, g) refl

pub segments_step : {X : Type 0} (read : List ℕ → Result (List X × List ℕ) ParseError) → AllShorten read → (l : List ℕ) (p : List X × List ℕ) → ends l ≡ false → read l ≡ Ok p → segments read l ≡ with_front p.0 (segments read p.1)
unfolding segments_at
segments_step read s [] p e g = cc
segments_step read s (b ∷ l) p e g =
    let k = segments_room read s (length l) (length p.1) p.1 (omega (arith, s (b ∷ l) p g)) (omega arith) in
    rw (e, g) (ap (λ z. with_front p.0 z) k)

pub with_front_twice : {X : Type 0} (xs ys : List X) (r : Result (List X × List ℕ) ParseError) → with_front xs (with_front ys r) ≡ with_front (xs ++ ys) r
with_front_twice xs ys (Ok q) = ap (λ z. Ok (z, q.1)) (sym (append_assoc xs ys q.0))
with_front_twice xs ys (Err e) = refl

closed_shorter : (l r : List ℕ) → end_of_contents_at l ≡ Ok r → length r ≤ length l
unfolding end_of_contents_at
closed_shorter [] r e = cc
closed_shorter (a ∷ []) r e = go (nat_eq a 0) e
  where
    go : (b : Bool) → cond b (Err (Rattle.rasn_de.specs.declared.ber.de.parser.ParseError.TheVariants.Incomplete 1)) (Err Rattle.rasn_de.specs.declared.ber.de.parser.ParseError.TheVariants.MissingEndOfContents) ≡ Ok r → length r ≤ length (a ∷ [])
    go true e = cc
    go false e = cc
closed_shorter (a ∷ b ∷ l) r e = go (nat_eq a 0 && nat_eq b 0) e
  where
    go : (t : Bool) → cond t (Ok l) (Err Rattle.rasn_de.specs.declared.ber.de.parser.ParseError.TheVariants.MissingEndOfContents) ≡ Ok r → length r ≤ length (a ∷ b ∷ l)
    go true e = let m : l ≡ r = cc in let k : length l ≡ length r = ap length m in omega arith
    go false e = cc

used_up_shorter : (rest left r : List ℕ) → definite_end rest left ≡ Ok r → length r ≤ length rest
used_up_shorter rest [] r e = let m : rest ≡ r = cc in let k : length rest ≡ length r = ap length m in omega arith
used_up_shorter rest (b ∷ l) r e = cc

finished_shorter : (x : Extent) (rest left r : List ℕ) → length left ≤ length (octets_inside x rest) → end_at x rest left ≡ Ok r → length r ≤ length rest
finished_shorter (definite c) rest left r h e = used_up_shorter rest left r e
finished_shorter indefinite rest left r h e = omega (arith, closed_shorter left r e)

nested_shorter : {X : Type 0} (read : List ℕ → Result (List X × List ℕ) ParseError) → AllShorten read → (x : Extent) (rest : List ℕ) (p : List X × List ℕ) → segments_in read x rest ≡ Ok p → length p.1 ≤ length rest
nested_shorter read s x rest p e =
    let q = bind_ok (segments read (octets_inside x rest)) _ p e in
    let r = bind_ok (end_at x rest q.0.1) _ p q.2 in
    let f = r.2 in
    let m : r.0 ≡ p.1 = cc in
    let k : length r.0 ≡ length p.1 = ap length m in
    omega (arith, finished_shorter x rest q.0.1 r.0 (segments_shorter read s (length (octets_inside x rest)) (octets_inside x rest) q.0 q.1) r.1)

string_in_shorter : {X : Type 0} (rule : Codec) (segment : List ℕ → Result (List X) ParseError) (nested : Extent → List ℕ → Result (List X × List ℕ) ParseError)
    → ((x : Extent) (rest : List ℕ) (p : List X × List ℕ) → nested x rest ≡ Ok p → length p.1 ≤ length rest)
    → (bit : Bool) (x : Extent) (rest : List ℕ) (p : List X × List ℕ) → string_in rule segment nested bit x rest ≡ Ok p → length p.1 ≤ length rest
string_in_shorter rule segment nested s false (definite c) rest p e =
    let q = bind_ok (segment c) _ p e in
    let f = q.2 in
    let m : rest ≡ p.1 = cc in
    let k : length rest ≡ length p.1 = ap length m in omega arith
string_in_shorter rule segment nested s false indefinite rest p e = s indefinite rest p (guarded (is_der rule) _ _ p e).1
string_in_shorter rule segment nested s true x rest p e = s x rest p (guarded (is_der rule) _ _ p e).1

pub string_shorter : {X : Type 0} (rule : Codec) (segment : List ℕ → Result (List X) ParseError) (tag : Tag) (d : ℕ) (h : Header) (p : List X × List ℕ) → string_of rule segment tag d h ≡ Ok p → length p.1 ≤ length h.rest
unfolding string_of
string_shorter rule segment tag zero h p e = string_in_shorter rule segment too_deep (λ x rest p e. cc) h.bit h.extent h.rest p e
string_shorter rule segment tag (suc d) h p e =
    string_in_shorter rule segment (segments_in (segment_at rule segment tag d))
    (nested_shorter (segment_at rule segment tag d) (λ l p e. let g = bind_ok (header_at (form rule) (Tagged tag) l) _ p e in omega (arith, header_shorter (spelled (form rule)) (Tagged tag) l g.0 g.1, string_shorter rule segment tag d g.0 p g.2)))
    h.bit h.extent h.rest p e

pub segment_shorter : {X : Type 0} (rule : Codec) (segment : List ℕ → Result (List X) ParseError) (tag : Tag) (d : ℕ) → AllShorten (segment_at rule segment tag d)
segment_shorter rule segment tag d l p e =
    let g = bind_ok (header_at (form rule) (Tagged tag) l) _ p e in omega (arith, header_shorter (spelled (form rule)) (Tagged tag) l g.0 g.1, string_shorter rule segment tag d g.0 p g.2)

-- What has been gathered from start up to left.
pub record Gathering {X : Type 0} (read : List ℕ → Result (List X × List ℕ) ParseError) (start left : List ℕ) (Old New : List X → Type 0) : Type 0 where
  pub found : List X
  pub more : SeesMore found Old New
  pub same : with_front found (segments read left) ≡ segments read start

pub with_none : {X : Type 0} (r : Result (List X × List ℕ) ParseError) → with_front [] r ≡ r
with_none (Ok q) = refl
with_none (Err e) = refl

pub gathering_start : {X : Type 0} (read : List ℕ → Result (List X × List ℕ) ParseError) (start : List ℕ) (Old : List X → Type 0) → Gathering read start start Old Old
gathering_start read start Old = record { found = []; more = λ seen h. subst Old (sym (append-nil seen)) h; same = with_none (segments read start) }

pub gathering_step : {X : Type 0} (read : List ℕ → Result (List X × List ℕ) ParseError) → AllShorten read → (start left : List ℕ) (Old Mid New : List X → Type 0) (p : List X × List ℕ)
    → Gathering read start left Old Mid → ends left ≡ false → read left ≡ Ok p → SeesMore p.0 Mid New → Gathering read start p.1 Old New
gathering_step read s start left Old Mid New p g e f h = record {
  found = g.found ++ p.0;
  more = λ seen k. subst New (append_assoc seen g.found p.0) (h (seen ++ g.found) (g.more seen k));
  same = sym (with_front_twice g.found p.0 (segments read p.1)) ∙ (ap (λ z. with_front g.found z) (sym (segments_step read s left p e f)) ∙ g.same);
}

pub gathering_end : {X : Type 0} (read : List ℕ → Result (List X × List ℕ) ParseError) (start left : List ℕ) (Old New : List X → Type 0)
    → Gathering read start left Old New → ends left ≡ true → (xs : List X) × (segments read start ≡ Ok (xs, left)) × SeesMore xs Old New
gathering_end read start left Old New g e =
    (g.found, sym g.same ∙ (ap (λ z. with_front g.found z) (segments_end read left e) ∙ ap (λ z. Ok (z, left)) (append-nil g.found)), g.more)

pub gathering_fault : {X : Type 0} (read : List ℕ → Result (List X × List ℕ) ParseError) (start left : List ℕ) (Old New : List X → Type 0) (f : ParseError)
    → Gathering read start left Old New → ends left ≡ false → read left ≡ Err f → segments read start ≡ Err f
gathering_fault read start left Old New f g e h = sym g.same ∙ ap (λ z. with_front g.found z) (segments_fault read left f e h)

-- A value that isn't one segment alone.
abbrev pub IsNested : Header → Type 0
IsNested h = (h.bit ≡ true) ⊎ (h.extent ≡ indefinite)

string_in_nested : {X : Type 0} (rule : Codec) (segment : List ℕ → Result (List X) ParseError) (nested : Extent → List ℕ → Result (List X × List ℕ) ParseError)
    → (bit : Bool) (x : Extent) (rest : List ℕ) → (bit ≡ true) ⊎ (x ≡ indefinite) → string_in rule segment nested bit x rest ≡ cond (is_der rule) (Err (Der ConstructedEncodingNotAllowed)) (nested x rest)
string_in_nested rule segment nested true x rest h = refl
string_in_nested rule segment nested false indefinite rest h = refl
string_in_nested rule segment nested false (definite c) rest (inl e) = cc
string_in_nested rule segment nested false (definite c) rest (inr e) = cc

pub string_der : {X : Type 0} (rule : Codec) (segment : List ℕ → Result (List X) ParseError) (tag : Tag) (d : ℕ) (h : Header) → IsNested h → is_der rule ≡ true → string_of rule segment tag d h ≡ Err (Der ConstructedEncodingNotAllowed)
unfolding string_of
string_der rule segment tag zero h n e = string_in_nested rule segment too_deep h.bit h.extent h.rest n ∙ rw e refl
string_der rule segment tag (suc d) h n e = string_in_nested rule segment (segments_in (segment_at rule segment tag d)) h.bit h.extent h.rest n ∙ rw e refl

pub string_deep : {X : Type 0} (rule : Codec) (segment : List ℕ → Result (List X) ParseError) (tag : Tag) (d : ℕ) (h : Header) → IsNested h → is_der rule ≡ false → d ≡ 0
    → string_of rule segment tag d h ≡ Err Rattle.rasn_de.specs.declared.ber.de.parser.ParseError.TheVariants.ExceedsMaxParseDepth
unfolding string_of
string_deep rule segment tag zero h n e z = string_in_nested rule segment too_deep h.bit h.extent h.rest n ∙ rw e refl
string_deep rule segment tag (suc d) h n e z = absurd (omega arith)

pub string_nested : {X : Type 0} (rule : Codec) (segment : List ℕ → Result (List X) ParseError) (tag : Tag) (d : ℕ) (h : Header) → IsNested h → is_der rule ≡ false → d ≢ 0
    → string_of rule segment tag d h ≡ segments_in (segment_at rule segment tag (d - 1)) h.extent h.rest
unfolding string_of
string_nested rule segment tag zero h n e z = absurd (z refl)
string_nested rule segment tag (suc d) h n e z =
    let m : suc d - 1 ≡ d = omega arith in
    rw m (string_in_nested rule segment (segments_in (segment_at rule segment tag d)) h.bit h.extent h.rest n ∙ rw e refl)

pub string_plain : {X : Type 0} (rule : Codec) (segment : List ℕ → Result (List X) ParseError) (tag : Tag) (d : ℕ) (h : Header) (c : List ℕ) (xs : List X) → h.bit ≡ false → h.extent ≡ definite c → segment c ≡ Ok xs
    → string_of rule segment tag d h ≡ Ok (xs, h.rest)
unfolding string_of
string_plain rule segment tag zero h c xs e f g = rw (e, f, g) refl
string_plain rule segment tag (suc d) h c xs e f g = rw (e, f, g) refl

pub segments_in_fault : {X : Type 0} (read : List ℕ → Result (List X × List ℕ) ParseError) (x : Extent) (rest : List ℕ) (f : ParseError) → segments read (octets_inside x rest) ≡ Err f → segments_in read x rest ≡ Err f
segments_in_fault read x rest f e = rw e refl

pub segments_in_parsed : {X : Type 0} (read : List ℕ → Result (List X × List ℕ) ParseError) (x : Extent) (rest left : List ℕ) (xs : List X) → segments read (octets_inside x rest) ≡ Ok (xs, left)
    → segments_in read x rest ≡ (end_at x rest left >>= λ r. let a : Result (List X × List ℕ) ParseError = Ok (xs, r) in a)
segments_in_parsed read x rest left xs e = rw e refl

pub segment_fault : {X : Type 0} (rule : Codec) (segment : List ℕ → Result (List X) ParseError) (tag : Tag) (d : ℕ) (l : List ℕ) (f : ParseError) → header_at (form rule) (Tagged tag) l ≡ Err f → segment_at rule segment tag d l ≡ Err f
segment_fault rule segment tag d l f e = rw e refl

pub segment_parsed : {X : Type 0} (rule : Codec) (segment : List ℕ → Result (List X) ParseError) (tag : Tag) (d : ℕ) (l : List ℕ) (h : Header) → header_at (form rule) (Tagged tag) l ≡ Ok h → segment_at rule segment tag d l ≡ string_of rule segment tag d h
segment_parsed rule segment tag d l h e = rw e refl

pub string_plain_fault : {X : Type 0} (rule : Codec) (segment : List ℕ → Result (List X) ParseError) (tag : Tag) (d : ℕ) (h : Header) (c : List ℕ) (f : ParseError) → h.bit ≡ false → h.extent ≡ definite c → segment c ≡ Err f
    → string_of rule segment tag d h ≡ Err f
unfolding string_of
string_plain_fault rule segment tag zero h c x e f g = rw (e, f, g) refl
string_plain_fault rule segment tag (suc d) h c x e f g = rw (e, f, g) refl
