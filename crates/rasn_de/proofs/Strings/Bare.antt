-- Strings that are read where no memory is left.
use Rattle.std.proofs.Common.{◌≡◌, ◌≢◌, ℕ, zero, suc, ◌⊎◌, inl, inr, Bool, true, false, ◌&&◌, List, [], ◌∷◌, ◌++◌, length, Result, Ok, Err, refl, sym, ap, subst, ◌∙◌}
use Rattle.std.specs.Prelude.{nat_eq}
use Rattle.rasn_types.specs.declared.types.tag.Tag.{Tag}
use Rattle.rasn_types.specs.declared.types.codec.Codec.{Codec}
use Rattle.rasn_types.specs.Framing.{Extent, definite, indefinite}
use Rattle.rasn_types.specs.Tags.{form}
use Rattle.rasn_de.specs.declared.ber.de.parser.ParseError.{ParseError}
use Rattle.rasn_de.specs.declared.ber.de.parser.ParseError.TheVariants.{OutOfMemory}
use Rattle.rasn_de.specs.declared.ber.de.parser.headers.Expected.TheVariants.{Tagged}
use Rattle.rasn_de.specs.Headers.{◌>>=◌, Header, header_at, is_der}
use Rattle.rasn_de.specs.Segments.{ends, segments_at, end_of_contents_at, octets_inside, end_at, string_in, too_deep, segments_in, string_of, segment_at, without_memory}
use Rattle.rasn_de.proofs.Headers.Results.{bind_ok, chosen, guarded}
use Rattle.rasn_de.proofs.Headers.Memory.{NoMemory, none_cond}
use Rattle.rasn_de.proofs.Strings.Segments.{AllShorten, segments, segments_fault, segments_step, with_none}

-- Nothing was collected up to here, or memory was wanted.
abbrev pub IsBare : {X : Type 0} → Result (List X × List ℕ) ParseError → List ℕ → Type 0
IsBare r rest = (r ≡ Ok ([], rest)) ⊎ (r ≡ Err OutOfMemory)

-- A segment that holds something wants memory.
pub segment_wants : {X : Type 0} (segment : List ℕ → Result (List X) ParseError) (c : List ℕ) (xs : List X) → segment c ≡ Ok xs → xs ≢ [] → without_memory segment c ≡ Err OutOfMemory
segment_wants segment c [] e n = absurd (n refl)
segment_wants segment c (x ∷ xs) e n = rw e refl

segment_bare : {X : Type 0} (segment : List ℕ → Result (List X) ParseError) (c : List ℕ) (xs : List X) → segment c ≡ Ok xs → (without_memory segment c ≡ Ok []) ⊎ (without_memory segment c ≡ Err OutOfMemory)
segment_bare segment c [] e = inl (rw e refl)
segment_bare segment c (x ∷ xs) e = inr (rw e refl)

module _ {X : Type 0} (read bare : List ℕ → Result (List X × List ℕ) ParseError) (each : (l : List ℕ) (p : List X × List ℕ) → read l ≡ Ok p → IsBare (bare l) p.1) where
  segments_bare : (n : ℕ) (l : List ℕ) (q : List X × List ℕ) → segments_at read n l ≡ Ok q → IsBare (segments_at bare n l) q.1
  unfolding segments_at
  segments_bare zero l q e = let m : l ≡ q.1 = cc in inl (ap (λ z. Ok ([], z)) m)
  segments_bare (suc n) l q e = go (λ p f. segments_bare n p.1 f) (chosen (ends l) _ _ _ e)
    where
      both : (p : List X × List ℕ) (left : List ℕ) → ends l ≡ false → IsBare (bare l) p.1 → IsBare (segments_at bare n p.1) left → IsBare (segments_at bare (suc n) l) left
      both p left t (inl b) (inl d) = inl (rw (t, b, d) refl)
      both p left t (inl b) (inr d) = inr (rw (t, b, d) refl)
      both p left t (inr b) d = inr (rw (t, b) refl)

      go : ((p f : List X × List ℕ) → segments_at read n p.1 ≡ Ok f → IsBare (segments_at bare n p.1) f.1)
          → ((ends l ≡ true) × (◌≡◌ {A = Result (List X × List ℕ) ParseError} (Ok ([], l)) (Ok q))) ⊎ ((ends l ≡ false) × ((read l >>= λ p. segments_at read n p.1 >>= λ r. Ok (p.0 ++ r.0, r.1)) ≡ Ok q)) → IsBare (segments_at bare (suc n) l) q.1
      go more (inl (t, f)) = let m : l ≡ q.1 = cc in inl (rw (t, m) refl)
      go more (inr (t, f)) =
          let p = bind_ok (read l) _ q f in
          let r = bind_ok (segments_at read n p.0.1) _ q p.2 in
          let g = r.2 in
          let m : r.0.1 ≡ q.1 = cc in
          both p.0 q.1 t (each l p.0 p.1) (subst (IsBare (segments_at bare n p.0.1)) m (more p.0 r.0 r.1))

  nested_bare : (x : Extent) (rest : List ℕ) (p : List X × List ℕ) → segments_in read x rest ≡ Ok p → IsBare (segments_in bare x rest) p.1
  nested_bare x rest p e =
      let q = bind_ok (segments read (octets_inside x rest)) _ p e in
      let r = bind_ok (end_at x rest q.0.1) _ p q.2 in
      let g = r.2 in
      let m : r.0 ≡ p.1 = cc in
      go q.0.1 r.0 m r.1 (segments_bare (length (octets_inside x rest)) (octets_inside x rest) q.0 q.1)
    where
      go : (left after : List ℕ) → after ≡ p.1 → end_at x rest left ≡ Ok after → IsBare (segments bare (octets_inside x rest)) left → IsBare (segments_in bare x rest) p.1
      go left after m f (inl b) = inl (rw (b, f, m) refl)
      go left after m f (inr b) = inr (rw b refl)

string_in_bare : {X : Type 0} (rule : Codec) (segment : List ℕ → Result (List X) ParseError) (nested bare : Extent → List ℕ → Result (List X × List ℕ) ParseError)
    → ((x : Extent) (rest : List ℕ) (p : List X × List ℕ) → nested x rest ≡ Ok p → IsBare (bare x rest) p.1)
    → (bit : Bool) (x : Extent) (rest : List ℕ) (p : List X × List ℕ) → string_in rule segment nested bit x rest ≡ Ok p → IsBare (string_in rule (without_memory segment) bare bit x rest) p.1
string_in_bare {X} rule segment nested bare s false (definite c) rest p e =
    let q = bind_ok (segment c) _ p e in
    let f = q.2 in
    let m : rest ≡ p.1 = cc in
    go m (segment_bare segment c q.0 q.1)
  where
    go : rest ≡ p.1 → (without_memory segment c ≡ Ok []) ⊎ (without_memory segment c ≡ Err OutOfMemory) → IsBare (string_in rule (without_memory segment) bare false (definite c) rest) p.1
    go m (inl b) = inl (rw (b, m) refl)
    go m (inr b) = inr (rw b refl)
string_in_bare rule segment nested bare s false indefinite rest p e = let g = guarded (is_der rule) _ _ p e in rw g.0 (s indefinite rest p g.1)
string_in_bare rule segment nested bare s true x rest p e = let g = guarded (is_der rule) _ _ p e in rw g.0 (s x rest p g.1)

string_bare : {X : Type 0} (rule : Codec) (segment : List ℕ → Result (List X) ParseError) (tag : Tag) (d : ℕ) (h : Header) (p : List X × List ℕ) → string_of rule segment tag d h ≡ Ok p → IsBare (string_of rule (without_memory segment) tag d h) p.1
unfolding string_of
string_bare rule segment tag zero h p e = string_in_bare rule segment too_deep too_deep (λ x rest p e. cc) h.bit h.extent h.rest p e
string_bare rule segment tag (suc d) h p e =
    string_in_bare rule segment (segments_in (segment_at rule segment tag d)) (segments_in (segment_at rule (without_memory segment) tag d))
    (nested_bare (segment_at rule segment tag d) (segment_at rule (without_memory segment) tag d) (λ l p e. let g = bind_ok (header_at (form rule) (Tagged tag) l) _ p e in rw g.1 (string_bare rule segment tag d g.0 p g.2)))
    h.bit h.extent h.rest p e

pub segment_at_bare : {X : Type 0} (rule : Codec) (segment : List ℕ → Result (List X) ParseError) (tag : Tag) (d : ℕ) (l : List ℕ) (p : List X × List ℕ) → segment_at rule segment tag d l ≡ Ok p → IsBare (segment_at rule (without_memory segment) tag d l) p.1
segment_at_bare rule segment tag d l p e = let g = bind_ok (header_at (form rule) (Tagged tag) l) _ p e in rw g.1 (string_bare rule segment tag d g.0 p g.2)

-- From start up to left nothing was collected, or memory was wanted.
abbrev pub BareTo : {X : Type 0} → (List ℕ → Result (List X × List ℕ) ParseError) → List ℕ → List ℕ → Type 0
BareTo bare start left = (segments bare start ≡ Err OutOfMemory) ⊎ (segments bare left ≡ segments bare start)

pub bare_step : {X : Type 0} (bare : List ℕ → Result (List X × List ℕ) ParseError) → AllShorten bare → (start left next : List ℕ) → BareTo bare start left → ends left ≡ false → IsBare (bare left) next → BareTo bare start next
bare_step bare s start left next (inl f) e b = inl f
bare_step bare s start left next (inr g) e (inl m) = inr (sym (segments_step bare s left ([], next) e m ∙ with_none (segments bare next)) ∙ g)
bare_step bare s start left next (inr g) e (inr m) = inl (sym g ∙ segments_fault bare left OutOfMemory e m)

pub bare_fault : {X : Type 0} (bare : List ℕ → Result (List X × List ℕ) ParseError) (start left : List ℕ) → BareTo bare start left → ends left ≡ false → bare left ≡ Err OutOfMemory → segments bare start ≡ Err OutOfMemory
bare_fault bare start left (inl f) e m = f
bare_fault bare start left (inr g) e m = sym g ∙ segments_fault bare left OutOfMemory e m

-- The end asks for no memory.
pub end_none : (x : Extent) (rest left : List ℕ) → NoMemory (end_at x rest left)
unfolding end_of_contents_at
end_none (definite c) rest [] = tt
end_none (definite c) rest (b ∷ l) = λ e. cc
end_none indefinite rest [] = λ e. cc
end_none indefinite rest (a ∷ []) = none_cond (nat_eq a 0) _ _ (λ e. cc) (λ e. cc)
end_none indefinite rest (a ∷ b ∷ l) = none_cond (nat_eq a 0 && nat_eq b 0) _ _ tt (λ e. cc)
