-- The tags that components begin with.
use Rattle.std.proofs.Common.{◌≡◌, ◌≢◌, inl, inr, ℕ, List, [], ◌∷◌, ◌++◌, length, Option, Some, None, Ok, Err, refl, sym, ap, ap₂, ◌∙◌, subst}
use Rattle.rasn_types.specs.declared.types.tag.Tag.{Tag}
use Rattle.rasn_types.specs.declared.error.decode.DecodeError.{DecodeError}
use Rattle.rasn_types.specs.Tags.{form, IsStrict, IsTagBelow}
use Rattle.rasn_types.specs.Framing.{Begins, NextTag}
use Rattle.rasn_types.specs.Shapes.{Tree, Shape}
use Rattle.rasn_types.specs.Readings.{AreInTagOrder}
use Rattle.rasn_types.specs.Order.{Each, AreAscending}
use Rattle.rasn_types.proofs.Headers.Frames.{begins_one}
use Rattle.rasn_de.specs.State.{State, at}
use Rattle.rasn_de.specs.Decodes.{Decodes}
use Rattle.rasn_de.specs.Set.{IsBelowLast, PeeksInOrder, FailsAtComponent, no_tag, falls}
use Rattle.rasn_de.proofs.Headers.Begins.{strict_begins}

-- the last of these tags, where there is one
abbrev pub EndsAt : List Tag → Option Tag → Type 0
EndsAt [] last = last ≡ None
EndsAt (t ∷ []) last = last ≡ Some t
EndsAt (s ∷ t ∷ ts) last = EndsAt (t ∷ ts) last

pub ends_at_more : (ts : List Tag) (tag : Tag) → EndsAt (ts ++ tag ∷ []) (Some tag)
ends_at_more [] tag = refl
ends_at_more (t ∷ []) tag = refl
ends_at_more (s ∷ t ∷ ts) tag = ends_at_more (t ∷ ts) tag

pub tags_in_order : (ts : List Tag) (last : Option Tag) (tag : Tag) → AreAscending IsTagBelow ts → EndsAt ts last → (IsBelowLast tag last → ⊥) → AreAscending IsTagBelow (ts ++ tag ∷ [])
tags_in_order [] last tag d e n = tt
tags_in_order (t ∷ []) last tag d e n = (subst (λ l. IsBelowLast tag l → ⊥) e n, tt)
tags_in_order (s ∷ t ∷ ts) last tag d e n = (d.0, tags_in_order (t ∷ ts) last tag d.1 e n)

pub tags_out_of_order : (ts : List Tag) (last : Option Tag) (tag : Tag) → EndsAt ts last → IsBelowLast tag last → AreAscending IsTagBelow (ts ++ tag ∷ []) → ⊥
tags_out_of_order [] last tag e h d = subst (IsBelowLast tag) e h
tags_out_of_order (t ∷ []) last tag e h d = d.0 (subst (IsBelowLast tag) e h)
tags_out_of_order (s ∷ t ∷ ts) last tag e h d = tags_out_of_order (t ∷ ts) last tag e h d.1

pub tags_more : (bs : List (List ℕ)) (ts : List Tag) (b : List ℕ) (tag : Tag) → Each Begins bs ts → Begins b tag → Each Begins (bs ++ b ∷ []) (ts ++ tag ∷ [])
tags_more [] ts b tag e h = subst (λ l. Each Begins (b ∷ []) (l ++ tag ∷ [])) (sym e) (tag, [], refl, h, refl)
tags_more (a ∷ bs) ts b tag (t, us, f, g, k) h = (t, us ++ tag ∷ [], ap (λ l. l ++ tag ∷ []) f, g, tags_more bs us b tag k h)

-- The tags of these octets, and of some after them.
pub tags_split : (bs cs : List (List ℕ)) (ts : List Tag) → Each Begins (bs ++ cs) ts → (us : List Tag) × (vs : List Tag) × (ts ≡ us ++ vs) × Each Begins bs us × Each Begins cs vs
tags_split [] cs ts e = ([], ts, refl, refl, e)
tags_split (b ∷ bs) cs ts (t, us, f, g, k) = let s = tags_split bs cs us k in (t ∷ s.0, s.1, f ∙ ap (λ l. t ∷ l) s.2, (t, s.0, refl, g, s.3), s.4)

pub tags_one : (bs : List (List ℕ)) (ts us : List Tag) → Each Begins bs ts → Each Begins bs us → ts ≡ us
tags_one [] ts us e f = e ∙ sym f
tags_one (b ∷ bs) ts us (t, xs, e, g, k) (u, ys, f, h, l) = e ∙ (ap₂ ◌∷◌ (begins_one b t u g h) (tags_one bs xs ys k l) ∙ sym f)

-- The first of these don't fall where none of them does.
pub front_in_order : {X : Type 0} (less : X → X → Type 0) (xs ys : List X) → AreAscending less (xs ++ ys) → AreAscending less xs
front_in_order less [] ys d = tt
front_in_order less (x ∷ []) ys d = tt
front_in_order less (x ∷ z ∷ xs) ys d = (d.0, front_in_order less (z ∷ xs) ys d.1)

-- Under the strict rule these octets begin with tags that don't fall, up to the last one.
abbrev pub Tagged : State → List (List ℕ) → Option Tag → Type 0
Tagged old bs last = IsStrict old.rule → (tags : List Tag) × Each Begins bs tags × AreAscending IsTagBelow tags × EndsAt tags last

pub tagged_order : (old : State) (bs : List (List ℕ)) (last : Option Tag) → Tagged old bs last → IsStrict old.rule → AreInTagOrder bs
tagged_order old bs last k strict = let t = k strict in (t.0, t.1, t.2)

-- where the read octets end
module _ (old here : State) (stays : here ≡ at old here.rest) (bs : List (List ℕ)) (last : Option Tag) (k : Tagged old bs last) where
  strict_before : IsStrict here.rule → IsStrict old.rule
  strict_before h = subst (λ (s : State). IsStrict s.rule) stays h

  strict_here : IsStrict old.rule → IsStrict here.rule
  strict_here h = subst (λ (s : State). IsStrict s.rule) (sym stays) h

  pub look_refused : (fails : State → DecodeError → State → Type 0) (e : DecodeError) → PeeksInOrder last here (Err e) → FailsAtComponent fails bs here e here
  look_refused fails e (strict, inl p) = no_tag strict p refl
  look_refused fails e (strict, inr (tag, next, below, w)) = falls strict tag next (λ (all, h, d). out_of_order all h d) w refl
    where
      t : (tags : List Tag) × Each Begins bs tags × AreAscending IsTagBelow tags × EndsAt tags last
      t = k (strict_before strict)

      out_of_order : (all : List Tag) → Each Begins (bs ++ here.rest ∷ []) all → AreAscending IsTagBelow all → ⊥
      out_of_order all h d = tags_out_of_order t.0 last tag t.3 below
          (subst (AreAscending IsTagBelow) (tags_one (bs ++ here.rest ∷ []) all (t.0 ++ tag ∷ []) h (tags_more bs t.0 here.rest tag t.1 next.begins)) d)

  pub look_follows : (found : Option Tag) → PeeksInOrder last here (Ok found) → IsStrict here.rule → (tag : Tag) × NextTag (form here.rule) here.rest tag × AreInTagOrder (bs ++ here.rest ∷ [])
  look_follows None l strict = absurd (l strict)
  look_follows (Some tag) l strict =
      let t = k (strict_before strict) in
      (tag, l.0, (t.0 ++ tag ∷ [], tags_more bs t.0 here.rest tag t.1 l.0.begins, tags_in_order t.0 last tag t.2 t.3 l.1))

  taken : (b rest : List ℕ) → here.rest ≡ b ++ rest → length rest ≢ length here.rest → b ≢ []
  taken b rest e n f = n (ap length (sym (e ∙ ap (λ l. l ++ rest) f)))

  pub look_kept : {D : Type 0} (s : Shape) (tree : D → Tree) (found : Option Tag) → PeeksInOrder last here (Ok found) → (v : D) (new : State) → Decodes s tree here (Ok v) new → (b : List ℕ) → here.rest ≡ b ++ new.rest
      → length new.rest ≢ length here.rest → Tagged old (bs ++ b ∷ []) found
  look_kept s tree None l v new d b e n strict = absurd (l (strict_here strict))
  look_kept s tree (Some tag) l v new d b e n strict =
      let t = k strict in
      let h : Begins b tag = strict_begins here.rule (strict_here strict) s here.depth here.closing here.rest (tree v) new.rest b e (taken b new.rest e n) d.exact.0 tag l.0.begins in
      (t.0 ++ tag ∷ [], tags_more bs t.0 b tag t.1 h, tags_in_order t.0 last tag t.2 t.3 l.1, ends_at_more t.0 tag)
