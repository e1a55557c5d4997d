-- What is written round contents is read as they are.
use Rattle.std.proofs.Common.{◌≡◌, ℕ, ◌≢◌, inl, inr, List, [], ◌∷◌, ◌++◌, Bool, true, false, refl, sym, ap, ap₂, ◌∙◌, subst, append_assoc, append-nil}
use Rattle.rasn_types.specs.Tags.{eoc, Form, basic_form}
use Rattle.rasn_types.specs.declared.types.codec.Codec.{Codec}
use Rattle.rasn_types.specs.declared.types.codec.Codec.TheVariants.{Ber, Cer, Der}
use Rattle.rasn_types.specs.declared.types.tag.Tag.{Tag}
use Rattle.rasn_types.specs.Framing.{Frame, with_length, without_length, definite, indefinite, Ended}
use Rattle.rasn_types.specs.Readings.{Reading, ReadsContents, definite_form, indefinite_form, ReadsMany, ReadsFrom}
use Rattle.rasn_types.specs.Contents.{joined_lists}
use Rattle.rasn_types.specs.Bytes.{DefiniteForm, IndefiniteForm, ConstructedEncoding, Each}
use Rattle.rasn_types.proofs.Headers.Frames.{not_ended}
use Rattle.rasn.proofs.ReadBack.Begins.{HasNextTag}

-- What may follow the values of some contents.
abbrev pub IsTail : Bool → List ℕ → Type 0
IsTail false tail = tail ≡ []
IsTail true tail = (more : List ℕ) × (tail ≡ 0 ∷ 0 ∷ more)

pub tail_ended : (closing : Bool) (tail : List ℕ) → IsTail closing tail → Ended closing tail
tail_ended false tail h = inl h
tail_ended true tail h = inr (refl, h.0, h.1)

pub definite_back : {rule : Form} {tag : Tag} {bit : Bool} {contents b : List ℕ} (rest : List ℕ) → tag ≢ eoc → DefiniteForm tag bit contents b
    → Frame rule (b ++ rest) tag bit rest (definite contents)
definite_back {contents = contents} rest one d =
    with_length d.id d.len contents (record { spells = d.id_spells; is_one = one }) d.len_spells (λ z. (d.id_shortest, d.len_shortest)) (ap (λ l. l ++ rest) d.is ∙ simp append_assoc)

pub closed_back : {tag : Tag} {contents b : List ℕ} (rest : List ℕ) → tag ≢ eoc → IndefiniteForm tag contents b
    → Frame basic_form (b ++ rest) tag true (contents ++ (0 ∷ 0 ∷ rest)) indefinite
closed_back rest one d = without_length d.id (record { spells = d.id_spells; is_one = one }) refl tt (ap (λ l. l ++ rest) d.is ∙ simp append_assoc)

-- The contents are read as x, whatever ends them.
abbrev pub IsReadAs : {X : Type 0} → (Bool → Reading X) → List ℕ → X → Type 0
IsReadAs reads contents x = (closing : Bool) (tail : List ℕ) → IsTail closing tail → reads closing (contents ++ tail) x tail

pub cons_back : {X : Type 0} (rule : Codec) (tag : Tag) → tag ≢ eoc → (contents b : List ℕ) → ConstructedEncoding rule tag contents b
    → (inner : Bool → Reading X) (x : X) → IsReadAs inner contents x → (rest : List ℕ) → ReadsContents rule tag true inner (b ++ rest) x rest
cons_back Ber tag one contents b c inner x h rest =
    definite_form contents (definite_back rest one c) (subst (λ l. inner false l x []) (append-nil contents) (h false [] refl))
cons_back Cer tag one contents b c inner x h rest = indefinite_form (contents ++ (0 ∷ 0 ∷ rest)) (closed_back rest one c) (h true (0 ∷ 0 ∷ rest) (rest, refl))
cons_back Der tag one contents b c inner x h rest =
    definite_form contents (definite_back rest one c) (subst (λ l. inner false l x []) (append-nil contents) (h false [] refl))

-- b is read as a value alike to t, whatever follows.
pub record ReadBack {X : Type 0} (alike : X → X → Type 0) (reads : Reading X) (t : X) (b : List ℕ) : Type 0 where
  pub is : X
  pub same : alike t is
  pub again : (rest : List ℕ) → reads (b ++ rest) is rest
  pub begins : (rest : List ℕ) → HasNextTag (b ++ rest)

abbrev pub EachReadBack : {X : Type 0} → (X → X → Type 0) → Reading X → List X → List (List ℕ) → Type 0
EachReadBack alike reads [] bs = bs ≡ []
EachReadBack alike reads (t ∷ ts) bs = (b : List ℕ) × (cs : List (List ℕ)) × (bs ≡ b ∷ cs) × ReadBack alike reads t b × EachReadBack alike reads ts cs

-- Values that are alike to these are read, each from its octets.
abbrev pub ManyBack : {X : Type 0} → (X → X → Type 0) → Reading X → List X → List (List ℕ) → Type 0
ManyBack {X} alike reads ts bs = (us : List X) × Each alike ts us × IsReadAs (λ c. ReadsMany reads c) (joined_lists bs) us
    × ((tail : List ℕ) → ReadsFrom reads (joined_lists bs ++ tail) us tail bs)

pub many_back : {X : Type 0} (alike : X → X → Type 0) (reads : Reading X) (ts : List X) (bs : List (List ℕ)) → EachReadBack alike reads ts bs → ManyBack alike reads ts bs
many_back alike reads [] bs h = (
  [],
  refl,
  λ closing tail t. (subst (λ l. Ended closing (joined_lists l ++ tail)) (sym h) (tail_ended closing tail t), sym (ap (λ l. joined_lists l ++ tail) h)),
  λ tail. (h, sym (ap (λ l. joined_lists l ++ tail) h)),
)
many_back {X} alike reads (t ∷ ts) bs (b, cs, e, r, h) = go (many_back alike reads ts cs h)
  where
    apart : (tail : List ℕ) → joined_lists bs ++ tail ≡ b ++ (joined_lists cs ++ tail)
    apart tail = ap (λ l. joined_lists l ++ tail) e ∙ append_assoc b (joined_lists cs) tail

    go : ManyBack alike reads ts cs → ManyBack alike reads (t ∷ ts) bs
    go (us, s, m, f) = (
      r.is ∷ us,
      (r.is, us, refl, r.same, s),
      λ closing tail w.
          let n = r.begins (joined_lists cs ++ tail) in
          subst (λ i. ReadsMany reads closing i (r.is ∷ us) tail) (sym (apart tail))
          ((λ ended. not_ended closing (b ++ (joined_lists cs ++ tail)) n.1 n.2 ended), (joined_lists cs ++ tail), r.again (joined_lists cs ++ tail), m closing tail w),
      λ tail. subst (λ i. ReadsFrom reads i (r.is ∷ us) tail bs) (sym (apart tail)) (b, cs, joined_lists cs ++ tail, e, refl, r.again (joined_lists cs ++ tail), f tail),
    )

pub each_equal : {X : Type 0} (ts us : List X) → Each (λ x y. y ≡ x) ts us → us ≡ ts
each_equal [] us h = h
each_equal (t ∷ ts) us (v, vs, e, s, h) = e ∙ ap₂ ◌∷◌ s (each_equal ts vs h)
