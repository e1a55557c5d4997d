-- Lists of parts that are read and written one after the other.
use Rattle.std.proofs.Common.{◌≡◌, ◌⊎◌, inl, inr, ℕ, zero, suc, ◌+◌, ◌<◌, List, [], ◌∷◌, ◌++◌, length, take, get_or, map, sym, ap, ◌∙◌, subst, append_assoc, arith}
use Rattle.std.proofs.lemmas.List.{map-append, take_more, append-nil}
use Rattle.rasn_types.specs.Shapes.{Tree}
use Rattle.rasn_schema_octets.specs.Shallow.{Every}

every_pushed : {T : Type 0} (P : T → Type 0) (xs : List T) (x : T) → Every P xs → P x → Every P (xs ++ x ∷ [])
every_pushed P [] x h p = (p, tt)
every_pushed P (y ∷ xs) x h p = (h.0, every_pushed P xs x h.1 p)

-- These parts say what the first forms do, and these forms are left.
abbrev pub MadeSoFar : {T F : Type 0} → (T → Tree) → (T → Type 0) → (F → Tree) → List F → List T → List F → Type 0
MadeSoFar says is_shallow tree forms xs left = (map tree forms ≡ map says xs ++ map tree left) × Every is_shallow xs

pub made_none : {T F : Type 0} (says : T → Tree) (P : T → Type 0) (tree : F → Tree) (forms left : List F) (xs : List T) → xs ≡ [] → left ≡ forms → MadeSoFar says P tree forms xs left
made_none says P tree forms left xs e f = (ap (map tree) (sym f) ∙ ap (λ l. map says l ++ map tree left) (sym e), subst (Every P) (sym e) tt)

pub made_more : {T F : Type 0} (says : T → Tree) (P : T → Type 0) (tree : F → Tree) (forms before left : List F) (xs ys : List T) (f : F) (x : T)
    → MadeSoFar says P tree forms xs before → before ≡ f ∷ left → ys ≡ xs ++ x ∷ [] → (says x ≡ tree f) × P x → MadeSoFar says P tree forms ys left
made_more says P tree forms before left xs ys f x h e k m = (
  h.0
      ∙ (ap (λ l. map says xs ++ map tree l) e
      ∙ (ap (λ t. map says xs ++ (t ∷ map tree left)) (sym m.0)
      ∙ (sym (append_assoc (map says xs) (says x ∷ []) (map tree left))
      ∙ (ap (λ l. l ++ map tree left) (sym (map-append says xs (x ∷ [])))
      ∙ ap (λ l. map says l ++ map tree left) (sym k))))),
  subst (Every P) (sym k) (every_pushed P xs x h.1 m.1),
)

pub made_all : {T F : Type 0} (says : T → Tree) (P : T → Type 0) (tree : F → Tree) (forms left : List F) (xs : List T) → MadeSoFar says P tree forms xs left → left ≡ [] → (map says xs ≡ map tree forms) × Every P xs
made_all says P tree forms left xs h e = (sym (append-nil (map says xs)) ∙ (ap (λ l. map says xs ++ map tree l) (sym e) ∙ sym h.0), h.1)

-- What is said after these is said by a part.
said_next : {T : Type 0} (says : T → Tree) (P : T → Type 0) (before after : List Tree) (t : Tree) (ys : List T) → map says ys ≡ before ++ (t ∷ after) → Every P ys → (y : T) × (says y ≡ t) × P y
said_next says P [] after t [] e h = absurd cc
said_next says P [] after t (y ∷ ys) e h = (y, cc, h.0)
said_next says P (b ∷ before) after t [] e h = absurd cc
said_next says P (b ∷ before) after t (y ∷ ys) e h = let k : map says ys ≡ before ++ (t ∷ after) = cc in said_next says P before after t ys k h.1

pub made_not : {T F M N : Type 0} (says : T → Tree) (P : T → Type 0) (tree : F → Tree) (forms before left : List F) (xs : List T) (f : F)
    → MadeSoFar says P tree forms xs before → before ≡ f ∷ left → (M → N) → M ⊎ ((x : T) → P x → says x ≡ tree f → ⊥) → N ⊎ ((ys : List T) → Every P ys → map says ys ≡ map tree forms → ⊥)
made_not says P tree forms before left xs f h e g (inl m) = inl (g m)
made_not says P tree forms before left xs f h e g (inr k) = inr (λ ys p q.
    let n = said_next says P (map says xs) (map tree left) (tree f) ys (q ∙ (h.0 ∙ ap (λ l. map says xs ++ map tree l) e)) p in
    k n.0 n.2 n.1)

-- ---- what is written

pub formed_more : {T F : Type 0} (says : T → Tree) (tree : F → Tree) (xs : List T) (fs gs : List F) (i : ℕ) (x : T) (f : F) → i < length xs → x ≡ get_or xs i x → map tree fs ≡ map says (take i xs) → gs ≡ fs ++ f ∷ [] → tree f ≡ says x
    → map tree gs ≡ map says (take (i + 1) xs)
formed_more says tree xs fs gs i x f h at e k m =
    ap (map tree) k
    ∙ (map-append tree fs (f ∷ [])
    ∙ (ap (λ l. l ++ (tree f ∷ [])) e
    ∙ (ap (λ t. map says (take i xs) ++ (t ∷ [])) m
    ∙ (sym (map-append says (take i xs) (x ∷ [])) ∙ ap (map says) (ap (λ y. take i xs ++ y ∷ []) at ∙ sym (take_more xs i x h))))))

every_at : {T : Type 0} (P : T → Type 0) (xs : List T) (i : ℕ) (d : T) → i < length xs → Every P xs → P (get_or xs i d)
every_at P [] i d h e = absurd (omega (arith, h))
every_at P (x ∷ xs) zero d h e = e.0
every_at P (x ∷ xs) (suc i) d h e = every_at P xs i d (omega (arith, h)) e.1

pub formed_not : {T M N : Type 0} (P : T → Type 0) (xs : List T) (i : ℕ) (x : T) → i < length xs → x ≡ get_or xs i x → (M → N) → M ⊎ (P x → ⊥) → N ⊎ (Every P xs → ⊥)
formed_not P xs i x h at g (inl m) = inl (g m)
formed_not P xs i x h at g (inr k) = inr (λ e. k (subst P (sym at) (every_at P xs i x h e)))
