-- What is read inside a value, as its header tells.
use Rattle.std.proofs.Common.{◌≡◌, ◌≢◌, ℕ, ◌<◌, Bool, true, false, ◌&&◌, not, cond, List, [], ◌∷◌, Result, Ok, Err, refl, ap, ◌∙◌, subst, arith}
use Rattle.std.specs.Prelude.{nat_eq}
use Rattle.std.proofs.lemmas.Bool.Decides.{nat_tests}
use Rattle.rasn_types.specs.declared.types.tag.Tag.{Tag}
use Rattle.rasn_types.specs.declared.types.codec.Codec.{Codec}
use Rattle.rasn_types.specs.Tags.{form}
use Rattle.rasn_de.specs.declared.ber.de.parser.headers.Expected.{Expected}
use Rattle.rasn_types.specs.Framing.{AreOctets, Extent, definite, indefinite, Frame}
use Rattle.rasn_types.specs.Shapes.{Tree}
use Rattle.rasn_types.specs.Readings.{Reading, ReadsContents, definite_form, indefinite_form}
use Rattle.rasn_de.specs.declared.ber.de.parser.ParseError.{ParseError}
use Rattle.rasn_de.specs.declared.ber.de.parser.headers.Expected.TheVariants.{Tagged}
use Rattle.rasn_de.specs.Headers.{Header, header_at, as_written}
use Rattle.rasn_de.specs.Segments.{octets_inside, end_at, end_of_contents_at, definite_end}
use Rattle.rasn_de.specs.declared.ber.de.constructed.ConstructedHeader.{ConstructedHeader}
use Rattle.rasn_de.specs.Constructed.{expected_header, constructed_header_at, is_indefinite_extent}
use Rattle.rasn_de.proofs.Headers.Frames.{IsExpected, header_parsed, header_spelled, written_tag}
use Rattle.rasn_de.proofs.Strings.Reads.{closed_parsed}

-- what was read inside, and how the value was closed
abbrev pub IsInside : (Bool → Reading Tree) → Header → Tree → List ℕ → Type 0
IsInside R h t s = (l : List ℕ) × R (is_indefinite_extent h.extent) (octets_inside h.extent h.rest) t l × (end_at h.extent h.rest l ≡ Ok s)

module _ (rule : Codec) (tag : Tag) (expected : Expected) (R : Bool → Reading Tree) (l : List ℕ) (o : AreOctets l) where
  pub inside_header : (bit : Bool) → IsExpected expected tag bit → (t : Tree) (s : List ℕ) → ReadsContents rule tag bit R l t s → (h : Header) × (header_at (form rule) expected l ≡ Ok h) × (h.bit ≡ bit) × IsInside R h t s
  unfolding end_of_contents_at
  inside_header bit x t s (definite_form c f r) =
      (record { tag = tag; bit = bit; extent = definite c; rest = s }, header_spelled (form rule) expected l tag bit s (definite c) o x f, refl, ([], r, refl))
  inside_header bit x t s (indefinite_form body f r) =
      (record { tag = tag; bit = bit; extent = indefinite; rest = body }, header_spelled (form rule) expected l tag bit body indefinite o x f, refl, (0 ∷ 0 ∷ s, r, refl))

  used_up_both : (rest left s : List ℕ) → definite_end rest left ≡ Ok s → (left ≡ []) × (rest ≡ s)
  used_up_both rest [] s e = (refl, cc)
  used_up_both rest (b ∷ m) s e = cc

  with_extent : (bit : Bool) (x : Extent) (rest : List ℕ) → Frame (form rule) l tag bit rest x → (t : Tree) (s m : List ℕ) → R (is_indefinite_extent x) (octets_inside x rest) t m → end_at x rest m ≡ Ok s → ReadsContents rule tag bit R l t s
  with_extent bit (definite c) rest f t s m r e =
      let u = used_up_both rest m s e in
      definite_form c (subst (λ z. Frame (form rule) l tag bit z (definite c)) u.1 f) (subst (λ z. R false c t z) u.0 r)
  with_extent bit indefinite rest f t s m r e = indefinite_form rest f (subst (λ z. R true rest t z) (closed_parsed m s e) r)

  pub header_inside : (h : Header) → header_at (form rule) expected l ≡ Ok h → ((found : Tag) (bit : Bool) → IsExpected expected found bit → found ≡ tag) → (t : Tree) (s : List ℕ) → IsInside R h t s → ReadsContents rule tag h.bit R l t s
  header_inside h e same t s (m, r, f) =
      let k = header_parsed (form rule) expected l h o e in
      with_extent h.bit h.extent h.rest (subst (λ z. Frame (form rule) l z h.bit h.rest h.extent) (same h.tag h.bit k.1) k.0) t s m r f

  -- At a header that is there, what is related is inside it.
  pub inside_of : (h : Header) → header_at (form rule) expected l ≡ Ok h → (bit : Bool) → IsExpected expected tag bit → (t : Tree) (s : List ℕ) → ReadsContents rule tag bit R l t s → IsInside R h t s
  inside_of h e bit x t s i = go (inside_header bit x t s i)
    where
      go : (k : Header) × (header_at (form rule) expected l ≡ Ok k) × (k.bit ≡ bit) × IsInside R k t s → IsInside R h t s
      go (k, f, b, r) = let m : k ≡ h = cc in subst (λ z. IsInside R z t s) m r

-- the constructed bit is one that the header admits
abbrev pub IsLetIn : ConstructedHeader → Codec → Bool → Type 0
IsLetIn d rule bit = (d.must_be_constructed && not bit ≡ false) × IsExpected (expected_header d rule) d.tag bit

-- what has to be constructed is
pub bit_is : (b : Bool) → true && not b ≡ false → b ≡ true
bit_is true e = refl
bit_is false e = cc

-- A constructed header asks for its tag.
expected_tag : (needed : Bool) (rule : Codec) (tag found : Tag) (bit : Bool) → IsExpected (cond needed (Tagged tag) (as_written rule tag true)) found bit → found ≡ tag
expected_tag true rule tag found bit e = e
expected_tag false rule tag found bit e = written_tag rule tag found true bit e

pub constructed_header_tag : (d : ConstructedHeader) (rule : Codec) (found : Tag) (bit : Bool) → IsExpected (expected_header d rule) found bit → found ≡ d.tag
constructed_header_tag d rule found bit e = expected_tag d.must_be_constructed rule d.tag found bit e

-- the header of a value after the constructed header
module _ (d : ConstructedHeader) (rule : Codec) (depth : ℕ) (l : List ℕ) where
  constructed_header_cases : (b : Bool) → nat_eq depth 0 ≡ b → (r : Result Header ParseError) → header_at (form rule) (expected_header d rule) l ≡ r → (h : Header) → constructed_header_at d rule depth l ≡ Ok h → (depth ≢ 0) × (header_at (form rule) (expected_header d rule) l ≡ Ok h) × (d.must_be_constructed && not h.bit ≡ false)
  constructed_header_cases true e r f h g = let k : nat_eq depth 0 ≡ true = e in absurd (let m : constructed_header_at d rule depth l ≡ Err (Rattle.rasn_de.specs.declared.ber.de.parser.ParseError.TheVariants.ExceedsMaxParseDepth, l) = rw e refl in cc)
  constructed_header_cases false e (Err x) f h g = absurd (let m : constructed_header_at d rule depth l ≡ Err (x, l) = rw (e, f) refl in cc)
  constructed_header_cases false e (Ok k) f h g = go (d.must_be_constructed && not k.bit) refl
    where
      deep : depth ≢ 0
      deep = grind (arith, nat_tests)

      go : (b : Bool) → d.must_be_constructed && not k.bit ≡ b → (depth ≢ 0) × (header_at (form rule) (expected_header d rule) l ≡ Ok h) × (d.must_be_constructed && not h.bit ≡ false)
      go true p = absurd (let m : constructed_header_at d rule depth l ≡ Err (Rattle.rasn_de.specs.declared.ber.de.parser.ParseError.TheVariants.InvalidConstructedIdentifier, k.rest) = rw (e, f, p) refl in cc)
      go false p =
          let m : constructed_header_at d rule depth l ≡ Ok k = rw (e, f, p) refl in
          let q : k ≡ h = cc in
          (deep, f ∙ ap Ok q, subst (λ (z : Header). d.must_be_constructed && not z.bit ≡ false) q p)

  pub constructed_header_parsed : (h : Header) → constructed_header_at d rule depth l ≡ Ok h → (depth ≢ 0) × (header_at (form rule) (expected_header d rule) l ≡ Ok h) × (d.must_be_constructed && not h.bit ≡ false)
  constructed_header_parsed h g = constructed_header_cases (nat_eq depth 0) refl (header_at (form rule) (expected_header d rule) l) refl h g

  pub constructed_header_spelled : (h : Header) → 0 < depth → header_at (form rule) (expected_header d rule) l ≡ Ok h → d.must_be_constructed && not h.bit ≡ false → constructed_header_at d rule depth l ≡ Ok h
  constructed_header_spelled h n e b = let k : nat_eq depth 0 ≡ false = grind (arith, nat_tests) in rw (k, e, b) refl
