-- Times of digits, and arcs of a RELATIVE-OID, as JSON.
use Rattle.std.proofs.Common.{◌≡◌, ◌≢◌, ◌⊎◌, ℕ, ◌+◌, ◌-◌, ◌*◌, ◌/◌, ◌^◌, ◌<◌, ◌≤◌, List, [], ◌∷◌, inl, inr, refl, sym, ap, ap₂, ◌∙◌, subst, arith}
use Rattle.std.specs.Prelude.{All, min, encode_utf8_all}
use Rattle.std.proofs.lemmas.Bool.{cases_lt}
use Rattle.std.proofs.lemmas.List.Elements.{All-cons, All-head, All-tail}
use Rattle.json.specs.Json as json
use Rattle.json.specs.Json.{Json}
use Rattle.rasn_types.specs.Numbered.{AreArcs}
use Rattle.rasn_types.specs.Text.{IsSmall}
use Rattle.rasn_schema.specs.declared.types.LeafKind.{LeafKind}
use Rattle.rasn_schema.specs.declared.types.LeafKind.TheVariants.{RelativeOid, TimeOfDay, DateTime}
use Rattle.rasn_schema.specs.Fitting.{OctetsFit}
use Rattle.rasn_schema.specs.Relative.{first_arc, held_arcs, relative_text}
use Rattle.rasn_schema.specs.TimeTexts.{shown_digits}
use Rattle.rasn_schema.proofs.LeafTexts.{shown_octets}
use Rattle.rasn_json.specs.Json.{OctetsJson, TextOfArcs}
use Rattle.rasn_json.specs.Texts.{ArcsText, HaveSubidentifier, RelativeText}

pub digits_octets : (kind : LeafKind) (o : List ℕ) (j : Json) → (kind ≡ TimeOfDay) ⊎ (kind ≡ DateTime) → OctetsFit kind o → j ≡ json.string (encode_utf8_all (shown_digits o)) → OctetsJson kind o j
digits_octets TimeOfDay o j k f h = h ∙ ap json.string (shown_octets o f.1)
digits_octets DateTime o j k f h = h ∙ ap json.string (shown_octets o f.1)
digits_octets kind o j (inl k) f h = absurd cc
digits_octets kind o j (inr k) f h = absurd cc

-- ---- arcs

pub other_arcs : (kind : LeafKind) (s a : List ℕ) → (kind ≢ RelativeOid) → ArcsText s a → TextOfArcs kind s a
other_arcs RelativeOid s a n h = absurd (n refl)
other_arcs _ s a n h = h

pub other_arcs_none : (kind : LeafKind) (s a : List ℕ) → (kind ≢ RelativeOid) → TextOfArcs kind s a → ArcsText s a
other_arcs_none RelativeOid s a n h = absurd (n refl)
other_arcs_none _ s a n h = h

subidentifier : (s : ℕ) (ns : List ℕ) → HaveSubidentifier (held_arcs (s ∷ ns))
subidentifier s ns = go (cases_lt (s / 40) 2)
  where
    go : (s / 40 < 2) ⊎ (2 ≤ s / 40) → HaveSubidentifier (held_arcs (s ∷ ns))
    go (inl h) = inr (omega arith)
    go (inr h) = inl (omega arith)

held_told : (s x y : ℕ) (ns l : List ℕ) → x ∷ y ∷ l ≡ held_arcs (s ∷ ns) → (40 * x + y ≡ s) × (l ≡ ns)
held_told s x y ns l e =
    let a : x ≡ min 2 (s / 40) = cc in
    let b : y ≡ s - 40 * min 2 (s / 40) = cc in
    let c : l ≡ ns = cc in
    (omega arith, c)

held_again : (x y : ℕ) (l : List ℕ) → x ≤ 2 → (x ≡ 2) ⊎ (y < 40) → x ∷ y ∷ l ≡ held_arcs ((40 * x + y) ∷ l)
held_again x y l h k =
    let a : x ≡ min 2 ((40 * x + y) / 40) = first k in
    ap₂ (λ u v. u ∷ v ∷ l) a (omega arith)
  where
    first : (x ≡ 2) ⊎ (y < 40) → x ≡ min 2 ((40 * x + y) / 40)
    first (inl e) = omega arith
    first (inr e) = omega arith

pub relative_told : (a : List ℕ) → AreArcs a → HaveSubidentifier a → All IsSmall a → first_arc a < 2 ^ 32 → RelativeText (relative_text a) a
relative_told [] h k s f = absurd h
relative_told (x ∷ []) h k s f = absurd h
relative_told (x ∷ y ∷ l) h k s f =
    ((40 * x + y) ∷ l, (λ e. cc), All-cons IsSmall (40 * x + y) l f (All-tail IsSmall y l (All-tail IsSmall x (y ∷ l) s)), refl, held_again x y l h k)

pub relative_has : (s a : List ℕ) → RelativeText s a → HaveSubidentifier a × (first_arc a < 2 ^ 32)
relative_has s a ([], n, small, t, e) = absurd (n refl)
relative_has s a (n ∷ ns, some, small, t, e) =
    let d = All-head IsSmall n ns small in
    (subst HaveSubidentifier (sym e) (subidentifier n ns), subst (λ z. first_arc z < 2 ^ 32) (sym e) (low n d))
  where
    low : (n : ℕ) → n < 2 ^ 32 → 40 * min 2 (n / 40) + (n - 40 * min 2 (n / 40)) < 2 ^ 32
    low n h = omega arith

-- Arcs without a subidentifier of 32 bits have no text.
pub relative_none : {A : Type 0} (a : List ℕ) → (HaveSubidentifier a → 2 ^ 32 ≤ first_arc a) → (s : List ℕ) → RelativeText s a → A
relative_none a h s t = let r = relative_has s a t in let low = r.1 in let high = h r.0 in absurd (omega arith)
