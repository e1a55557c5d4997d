-- Texts of parts, joined.
use Rattle.std.proofs.Common.{take, get_or, ◌≡◌, ℕ, ◌+◌, ◌<◌, Bool, false, List, [], ◌∷◌, ◌++◌, length, reverse, refl, sym, ap, ◌∙◌, subst, append_assoc, arith, length-append}
use Rattle.std.specs.Prelude.{if◌then◌else◌, ◌==◌}
use Rattle.std.specs.List.{AllZip, join_with_byte}
use Rattle.std.proofs.lemmas.List.{length-take, length-reverse, reverse-append, take_more}
use Rattle.std.proofs.lemmas.Bool.Decides.{nat_tests}
use Rattle.rasn_pkix.specs.declared.attribute_type_and_value.AttributeTypeAndValue.{AttributeTypeAndValue}
use Rattle.rasn_pkix.specs.declared.relative_distinguished_name.RelativeDistinguishedName.{RelativeDistinguishedName}
use Rattle.rasn_text.specs.Joined.{AreJoined, IsAppended}
use Rattle.rasn_text.specs.Names.{IsAttributeText, IsRelativeText}

pub pushed : {X : Type 0} (R : X → List ℕ → Type 0) (xs : List X) (ts : List (List ℕ)) (x : X) (t : List ℕ) → AllZip R xs ts → R x t → AllZip R (xs ++ x ∷ []) (ts ++ t ∷ [])
pushed R [] [] x t z r = (r, tt)
pushed R [] (u ∷ ts) x t z r = absurd z
pushed R (y ∷ xs) [] x t z r = absurd z
pushed R (y ∷ xs) (u ∷ ts) x t z r = (z.0, pushed R xs ts x t z.1 r)

-- One more text follows those that are joined.
join_more : (mark : ℕ) (u : List ℕ) (ts : List (List ℕ)) (t : List ℕ) → join_with_byte mark ((u ∷ ts) ++ t ∷ []) ≡ join_with_byte mark (u ∷ ts) ++ mark ∷ t
join_more mark u [] t = refl
join_more mark u (v ∷ ts) t = ap (λ l. u ++ (mark ∷ l)) (join_more mark v ts t) ∙ sym (append_assoc u (mark ∷ join_with_byte mark (v ∷ ts)) (mark ∷ t))

-- What is before a part.
abbrev pub separator : ℕ → Bool → List ℕ
separator mark is_first = if is_first then [] else mark ∷ []

pub joined_more : {X : Type 0} (R : X → List ℕ → Type 0) (mark : ℕ) (xs : List X) (x : X) (old t : List ℕ) → AreJoined R mark xs old → R x t → AreJoined R mark (xs ++ x ∷ []) (old ++ (separator mark (length xs == 0) ++ t))
joined_more R mark [] x old t ([], z, e) r = (t ∷ [], (r, tt), ap (λ l. l ++ t) e)
joined_more R mark [] x old t (u ∷ ts, z, e) r = absurd z
joined_more R mark (y ∷ xs) x old t ([], z, e) r = absurd z
joined_more R mark (y ∷ xs) x old t (u ∷ ts, z, e) r =
    ((u ∷ ts) ++ t ∷ [], pushed R (y ∷ xs) (u ∷ ts) x t z r, ap (λ b. old ++ (separator mark b ++ t)) (some (length (y ∷ xs)) (omega arith)) ∙ (ap (λ l. l ++ (mark ∷ t)) e ∙ sym (join_more mark u ts t)))
  where
    some : (n : ℕ) → 0 < n → (n == 0) ≡ false
    some n h = grind arith

-- The same after other text.
pub part_added : {X : Type 0} (R : X → List ℕ → Type 0) (mark : ℕ) (xs : List X) (x : X) (start old marked new : List ℕ) (is_first : Bool) → IsAppended (AreJoined R mark xs) start old
    → marked ≡ old ++ separator mark is_first → is_first ≡ (length xs == 0) → IsAppended (R x) marked new → IsAppended (AreJoined R mark (xs ++ x ∷ [])) start new
part_added R mark xs x start old marked new is_first (text, joined, e) m f (t, r, n) = (
  text ++ (separator mark (length xs == 0) ++ t),
  joined_more R mark xs x text t joined r,
  n ∙ (ap (λ l. l ++ t) (m ∙ (ap (λ b. old ++ separator mark b) f ∙ ap (λ l. l ++ separator mark (length xs == 0)) e))
      ∙ (append_assoc (start ++ text) (separator mark (length xs == 0)) t ∙ append_assoc start text (separator mark (length xs == 0) ++ t))),
)

pub relative_more : (attributes : List AttributeTypeAndValue) (place : ℕ) (x : AttributeTypeAndValue) (start old marked new : List ℕ) → place < length attributes → x ≡ get_or attributes place x
    → IsAppended (IsRelativeText (take place attributes)) start old → marked ≡ old ++ separator 43 (place == 0) → IsAppended (IsAttributeText x) marked new
    → IsAppended (IsRelativeText (take (place + 1) attributes)) start new
relative_more attributes place x start old marked new within is before m after =
    let P : List AttributeTypeAndValue → Type 0 = λ l. IsAppended (IsRelativeText l) start new in
    let n : length (take place attributes) ≡ place = omega (arith, length-take place attributes, within) in
    subst P (ap (λ y. take place attributes ++ y ∷ []) is ∙ sym (take_more attributes place x within))
    (part_added IsAttributeText 43 (take place attributes) x start old marked new (place == 0) before m (ap (λ k. k == 0) (sym n)) after)

same_test : (a b d : ℕ) → b ≡ d + a → (a == b) ≡ (d == 0)
same_test a b d e = grind (arith, nat_tests)

pub name_more : (name rest earlier : List RelativeDistinguishedName) (relative : RelativeDistinguishedName) (done : List RelativeDistinguishedName) (text marked new : List ℕ)
    → reverse name ≡ done ++ reverse rest → rest ≡ earlier ++ relative ∷ [] → IsAppended (AreJoined (λ r. IsRelativeText r.value) 44 done) [] text → marked ≡ text ++ separator 44 (length rest == length name)
    → IsAppended (IsRelativeText relative.value) marked new → (more : List RelativeDistinguishedName) × (reverse name ≡ more ++ reverse earlier) × IsAppended (AreJoined (λ r. IsRelativeText r.value) 44 more) [] new
name_more name rest earlier relative done text marked new e split before m after =
    let n : length name ≡ length done + length rest = omega (arith, ap length e, length-reverse name, length-reverse rest, length-append done (reverse rest)) in (
      done ++ relative ∷ [],
      e ∙ (ap (λ l. done ++ reverse l) split ∙ (ap (λ l. done ++ l) (reverse-append earlier (relative ∷ [])) ∙ sym (append_assoc done (relative ∷ []) (reverse earlier)))),
      part_added (λ (r : RelativeDistinguishedName). IsRelativeText r.value) 44 done relative [] text marked new (length rest == length name) before m (same_test (length rest) (length name) (length done) n) after,
    )
