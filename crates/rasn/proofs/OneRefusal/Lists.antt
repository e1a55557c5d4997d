-- Elements up to the end are refused in one way if each element is.
use Rattle.std.proofs.Common.{◌≡◌, ◌≢◌, ℕ, ◌⊎◌, inl, inr, List, [], ◌∷◌, ◌++◌, length, map, Vec, None, Ok, Err, refl, sym, ap, ap₂, ◌∙◌, subst, append_assoc}
use Rattle.std.specs.Global.{Global}
use Rattle.std.specs.Prelude.{vec_len}
use Rattle.std.proofs.lemmas.List.{append_cancel_right, length-map}
use Rattle.rasn_types.specs.declared.types.tag.Tag.{Tag}
use Rattle.rasn_types.specs.declared.types.constraints.Constraints.{Constraints}
use Rattle.rasn_types.specs.declared.types.unknown.Unknown.{Unknown}
use Rattle.rasn_types.specs.declared.error.decode.DecodeError.{DecodeError}
use Rattle.rasn_types.specs.Errors.{IsOutOfMemory}
use Rattle.rasn_types.specs.Tags.{IsStrict, eoc}
use Rattle.rasn_types.specs.Order.{IsLess, AreAscending}
use Rattle.rasn_types.specs.Framing.{AreOctets, Ended}
use Rattle.rasn_types.specs.Shapes.{Tree, set_elements, numbers, any, Shape, list, set_of, unknown, constraint_of}
use Rattle.rasn_types.specs.Trees.{list_tree}
use Rattle.rasn_types.proofs.SetOf.Same.{items_one}
use Rattle.rasn_de.specs.declared.ber.de.parser.ParseError.TheVariants.{SizeConstraintNotSatisfied}
use Rattle.rasn_de.specs.State.{State, Call, at}
use Rattle.rasn_de.specs.Constructed.{list_header}
use Rattle.rasn_de.specs.SequenceOf.{ReadsElements, ReadsSetElements, DecodesInTurn, RefusesElement, FailsAtElement, DecodesElements, DecodesInTurnFrom, IsOutOfOrder, DecodesElementsInOrder, DecodesInList, DecodesSized, DecodesSequenceOfBy, DecodesSetOfBy}
use Rattle.rasn_de.specs.Any.{DecodesOpenType}
use Rattle.rasn_de.specs.Unknown.{DecodesUnknown}
use Rattle.rasn_de.specs.Decodes.{Decodes}
use Rattle.rasn_de.specs.ValueErrors.{Errors, errors_of, DecodesOr}
use Rattle.rasn_de.proofs.Any.Reads.{open_decodes}
use Rattle.rasn_de.proofs.Any.Unknown.{unknown_decodes}
use Rattle.rasn_de.proofs.Headers.Tags.{front_in_order}
use Rattle.rasn_de.proofs.Constructed.SetOfElements.{each_decodes, in_order_decodes}
use Rattle.rasn_de.proofs.Constructed.ValueErrors.{elements_by, in_order_by, or_decodes, sequence_of_or, set_of_or}
use Rattle.rasn.specs.OneRefusal.{IsSameError, ReadingBy, ReadsShape, IsRefusedOnce, AreApart, IsDetermined}
use Rattle.rasn.proofs.OneRefusal.Calls.{equal_errors, same_fault, exactly_apart, octets_end, IsExactCall, one_value, not_both, exactly_determined}
use Rattle.rasn.proofs.OneRefusal.Inside.{inside_determined, inside_tree, or_exact, or_once}
use Rattle.rasn.proofs.OneRefusal.Open.{open_type_once}

-- Where memory suffices, an element can't be read, or it consumes nothing.
pub refuses : {D : Type 0} (read : Call D) (here : State) (e : DecodeError) (new : State) → (IsOutOfMemory e.kind → ⊥) → FailsAtElement read here e new → RefusesElement read here e new
refuses read here e new m (inl a) = inl a
refuses read here e new m (inr (v, a, inl c)) = inr (v, a, c)
refuses read here e new m (inr (v, a, inr c)) = absurd (m (ap (λ (x : DecodeError). x.kind) c))

module _ {D : Type 0} (read : Call D) (reads : ReadingBy) (tree : D → Tree) (exact : IsExactCall read reads tree) (once : IsRefusedOnce (errors_of read)) where
  -- An element can't be read, or it consumes nothing, and both in one way.
  pub element_once : IsRefusedOnce (RefusesElement read)
  element_once here o e f new other (inl a, m) (inl b, n) = once here o e f new other (a, m) (b, n)
  element_once here o e f new other (inl a, m) (inr (w, b, c), n) = absurd (not_both read reads tree exact here o w e other new b a m)
  element_once here o e f new other (inr (v, a, c), m) (inl b, n) = absurd (not_both read reads tree exact here o v f new other a b n)
  element_once here o e f new other (inr (v, a, c), m) (inr (w, b, k), n) = (equal_errors (c.1 ∙ sym k.1), (one_value read reads tree exact here o v w new other a b).1)

  -- Then no element is read that consumes octets.
  pub stuck : (here : State) → AreOctets here.rest → (e : DecodeError) (new next : State) (w : D) → (IsOutOfMemory e.kind → ⊥) → RefusesElement read here e new → read here (Ok w) next → length next.rest ≢ length here.rest → ⊥
  stuck here o e new next w m (inl a) b n = not_both read reads tree exact here o w e next new b a m
  stuck here o e new next w m (inr (v, a, c)) b n = let p = (one_value read reads tree exact here o v w new next a b).1 in n (ap (λ (s : State). length s.rest) (sym p) ∙ c.0)

  -- More elements are read from here, and these are the octets of all.
  pub record GoesOn (here : State) (bs cs : List (List ℕ)) : Type 0 where
    pub value : D
    pub next : State
    pub octets : List ℕ
    pub others : List (List ℕ)
    pub is : cs ≡ bs ++ octets ∷ others
    pub from : here.rest ≡ octets ++ next.rest
    pub more : Ended here.closing here.rest → ⊥
    pub reading : read here (Ok value) next
    pub takes : length next.rest ≢ length here.rest

  -- Elements that are read from the same state are the same as far as both are read.
  pub data Compared (vs ws : List D) (bs cs : List (List ℕ)) (here there : State) : Type 0 where
    same : map tree vs ≡ map tree ws → bs ≡ cs → here ≡ there → Compared vs ws bs cs here there
    longer : GoesOn here bs cs → Compared vs ws bs cs here there
    shorter : GoesOn there cs bs → Compared vs ws bs cs here there

  goes_on : (b : List ℕ) (here : State) (bs cs ds es : List (List ℕ)) → ds ≡ b ∷ bs → es ≡ b ∷ cs → GoesOn here bs cs → GoesOn here ds es
  goes_on b here bs cs ds es p q g = record {
    value = g.value;
    next = g.next;
    octets = g.octets;
    others = g.others;
    is = q ∙ (ap (λ z. b ∷ z) g.is ∙ ap (λ z. z ++ g.octets ∷ g.others) (sym p));
    from = g.from;
    more = g.more;
    reading = g.reading;
    takes = g.takes;
  }

  pub compare : (old : State) → AreOctets old.rest → (vs ws : List D) (bs cs : List (List ℕ)) (here there : State) → DecodesInTurnFrom read old vs bs here → DecodesInTurnFrom read old ws cs there → Compared vs ws bs cs here there
  compare old o [] [] bs cs here there (e, s) (f, t) = same refl (e ∙ sym f) (s ∙ sym t)
  compare old o [] (w ∷ ws) bs cs here there (e, s) (c, more, next, f, g, n, r, l, p) =
      longer (subst (λ (x : State). GoesOn x bs cs) (sym s) (record { value = w; next = next; octets = c; others = more; is = f ∙ ap (λ z. z ++ c ∷ more) (sym e); from = g; more = n; reading = r; takes = l }))
  compare old o (v ∷ vs) [] bs cs here there (b, more, next, e, g, n, r, l, p) (f, t) =
      shorter (subst (λ (x : State). GoesOn x cs bs) (sym t) (record { value = v; next = next; octets = b; others = more; is = e ∙ ap (λ z. z ++ b ∷ more) (sym f); from = g; more = n; reading = r; takes = l }))
  compare old o (v ∷ vs) (w ∷ ws) bs cs here there (b, ds, next, e, g, n, r, l, p) (c, es, then, f, h, i, q, j, k) =
      let x = one_value read reads tree exact old o v w next then r q in
      let y : b ≡ c = append_cancel_right b c then.rest (ap (λ (s : State). b ++ s.rest) (sym x.1) ∙ (sym g ∙ h)) in
      go y x.0 (compare then (octets_end o (c, h)) vs ws ds es here there (subst (λ (s : State). DecodesInTurnFrom read s vs ds here) x.1 p) k)
    where
      go : b ≡ c → tree v ≡ tree w → Compared vs ws ds es here there → Compared (v ∷ vs) (w ∷ ws) bs cs here there
      go y x (same a d s) = same (ap₂ ◌∷◌ x a) (e ∙ (ap₂ ◌∷◌ y d ∙ sym f)) s
      go y x (longer a) = longer (goes_on c here ds es bs cs (e ∙ ap (λ z. z ∷ ds) y) f a)
      go y x (shorter a) = shorter (goes_on c there es ds cs bs f (e ∙ ap (λ z. z ∷ ds) y) a)

  -- Where elements are read from, and what doesn't change.
  pub run_end : (old here : State) (vs : List D) (bs : List (List ℕ)) → DecodesInTurnFrom read old vs bs here → AreOctets old.rest → (here ≡ at old here.rest) × AreOctets here.rest
  run_end old here [] bs (e, s) o = (subst (λ (x : State). x ≡ at old x.rest) (sym s) refl, subst (λ (x : State). AreOctets x.rest) (sym s) o)
  run_end old here (v ∷ vs) bs (b, more, next, e, g, n, r, l, p) o =
      let k = run_end next here vs more p (octets_end o (b, g)) in
      let x = exact old o (Ok v) next r in
      (k.0 ∙ ap (λ (s : State). at s here.rest) x.stays, k.1)

  -- Elements that are read consume the octets before the rest.
  with_octets : (old here : State) (vs : List D) → DecodesInTurn read old vs here → AreOctets old.rest → (bs : List (List ℕ)) × DecodesInTurnFrom read old vs bs here
  with_octets old here [] e o = ([], (refl, e))
  with_octets old here (v ∷ vs) (next, n, r, l, p) o =
      let x = exact old o (Ok v) next r in
      let k = with_octets next here vs p (octets_end o x.end) in
      (x.end.0 ∷ k.0, (x.end.0, k.0, next, refl, x.end.1, n, r, l, k.1))

  -- SEQUENCE OF.
  pub elements_once : {L : Type 0} (elements : L → List D) → IsRefusedOnce (errors_of (DecodesElements read elements))
  elements_once elements old o e f new other ((vs, here, p, x, k), m) ((ws, there, q, y, l), n) =
      let a = with_octets old here vs p o in
      let b = with_octets old there ws q o in
      go (compare old o vs ws a.0 b.0 here there a.1 b.1) (run_end old here vs a.0 a.1 o).1 (run_end old there ws b.0 b.1 o).1
    where
      go : {bs cs : List (List ℕ)} → Compared vs ws bs cs here there → AreOctets here.rest → AreOctets there.rest → IsSameError e f × (new ≡ other)
      go (same a b s) i j = element_once there j e f new other (subst (λ (z : State). RefusesElement read z e new) s (refuses read here e new m k), m) (refuses read there f other n l, n)
      go (longer g) i j = absurd (stuck here i e new g.next g.value m (refuses read here e new m k) g.reading g.takes)
      go (shorter g) i j = absurd (stuck there j f other g.next g.value n (refuses read there f other n l) g.reading g.takes)

  -- SET OF.
  disorder_rule : (old here : State) → here ≡ at old here.rest → IsStrict here.rule → IsStrict old.rule
  disorder_rule old here s h = subst (λ (z : State). IsStrict z.rule) s h

  fails_on : (old here : State) (bs cs : List (List ℕ)) (e : DecodeError) (new : State) → here ≡ at old here.rest → AreOctets here.rest → (IsOutOfMemory e.kind → ⊥) → (IsStrict old.rule → AreAscending IsLess cs)
      → FailsAtElement read here e new ⊎ IsOutOfOrder read bs here e new → GoesOn here bs cs → ⊥
  fails_on old here bs cs e new s o m up (inl k) g = stuck here o e new g.next g.value m (refuses read here e new m k) g.reading g.takes
  fails_on old here bs cs e new s o m up (inr (v, b, r, f, l, strict, down, is)) g =
      let x = (one_value read reads tree exact here o v g.value new g.next r g.reading).1 in
      let y : b ≡ g.octets = append_cancel_right b g.octets g.next.rest (ap (λ (z : State). b ++ z.rest) (sym x) ∙ (sym f ∙ g.from)) in
      let z : cs ≡ (bs ++ b ∷ []) ++ g.others = g.is ∙ (ap (λ c. bs ++ c ∷ g.others) (sym y) ∙ sym (append_assoc bs (b ∷ []) g.others)) in
      down (front_in_order IsLess (bs ++ b ∷ []) g.others (subst (AreAscending IsLess) z (up (disorder_rule old here s strict))))

  in_order_one : (bs : List (List ℕ)) (here : State) → AreOctets here.rest → (e f : DecodeError) (new other : State) → (IsOutOfMemory e.kind → ⊥) → (IsOutOfMemory f.kind → ⊥)
      → FailsAtElement read here e new ⊎ IsOutOfOrder read bs here e new → FailsAtElement read here f other ⊎ IsOutOfOrder read bs here f other → IsSameError e f × (new ≡ other)
  in_order_one bs here o e f new other m n (inl k) (inl l) = element_once here o e f new other (refuses read here e new m k, m) (refuses read here f other n l, n)
  in_order_one bs here o e f new other m n (inl k) (inr (w, c, r, g, l, s, d, is)) = absurd (stuck here o e new other w m (refuses read here e new m k) r l)
  in_order_one bs here o e f new other m n (inr (v, b, r, g, k, s, d, is)) (inl l) = absurd (stuck here o f other new v n (refuses read here f other n l) r k)
  in_order_one bs here o e f new other m n (inr (v, b, r, g, k, s, d, is)) (inr (w, c, q, h, l, t, u, are)) = (equal_errors (is ∙ sym are), (one_value read reads tree exact here o v w new other r q).1)

  pub in_order_once : {L : Type 0} (elements : L → List D) → IsRefusedOnce (errors_of (DecodesElementsInOrder read elements))
  in_order_once elements old o e f new other ((vs, bs, here, p, up, x, k), m) ((ws, cs, there, q, on, y, l), n) = go (compare old o vs ws bs cs here there p q)
    where
      i : (here ≡ at old here.rest) × AreOctets here.rest
      i = run_end old here vs bs p o

      j : (there ≡ at old there.rest) × AreOctets there.rest
      j = run_end old there ws cs q o

      go : Compared vs ws bs cs here there → IsSameError e f × (new ≡ other)
      go (same a b s) =
          in_order_one cs there j.1 e f new other m n
          (subst (λ z. FailsAtElement read there e new ⊎ IsOutOfOrder read z there e new) b (subst (λ (z : State). FailsAtElement read z e new ⊎ IsOutOfOrder read bs z e new) s k)) l
      go (longer g) = absurd (fails_on old here bs cs e new i.0 i.1 m on k g)
      go (shorter g) = absurd (fails_on old there cs bs f other j.0 j.1 n up l g)

-- The size of a list is checked after its end.
module _ {L : Type 0} (read : Call L) (reads : ReadingBy) (trees : L → Tree) (exact : IsExactCall read reads trees) (once : IsRefusedOnce (errors_of read)) (size : L → ℕ) (counted : (v w : L) → trees v ≡ trees w → size v ≡ size w)
    (tag : Tag) (c : Constraints) where
  in_list : IsDetermined (DecodesInList read tag)
  in_list = inside_determined read (exactly_determined read reads trees exact once) (list_header tag)

  sized_once : IsRefusedOnce (errors_of (DecodesSized read size tag c))
  sized_once old o e f new other (inl a, m) (inl b, n) = in_list.once old o e f new other (a, m) (b, n)
  sized_once old o e f new other (inl a, m) (inr (w, b, y, d), n) = absurd (in_list.unrefused old o w e other new b (a, m))
  sized_once old o e f new other (inr (v, a, x, d), m) (inl b, n) = absurd (in_list.unrefused old o v f new other a (b, n))
  sized_once old o e f new other (inr (v, a, x, d), m) (inr (w, b, y, g), n) =
      let q : size v ≡ size w = counted v w (inside_tree read reads trees exact (list_header tag) old o v w new other a b) in
      (same_fault (ap (λ z. SizeConstraintNotSatisfied z (constraint_of c.size)) q) d g, in_list.left old o v w new other a b)

module _ {D : Type 0} (s : Shape) (tree : D → Tree) (errors : Errors) (once : IsRefusedOnce errors) where
  same_length : (vs ws : List D) → list_tree tree vs ≡ list_tree tree ws → length vs ≡ length ws
  same_length vs ws e =
      let f : map tree vs ≡ map tree ws = items_one (map tree vs) (map tree ws) e in
      sym (length-map vs tree) ∙ (ap length f ∙ length-map ws tree)

  pub sequence_of_apart : (tag : Tag) (c : Constraints) → AreApart (errors_of (DecodesSequenceOfBy (DecodesOr s tree errors) tag c)) (ReadsShape (list tag s c.size))
  sequence_of_apart tag c =
      let elements = λ (v : Vec D Global). v.items in
      exactly_apart _ (ReadsShape (list tag s c.size)) (λ old o e new a. sequence_of_or s tree errors tag c old (λ _. o) (Err e) new a)
      (sized_once (DecodesElements (DecodesOr s tree errors) elements) (ReadsElements s) (λ (v : Vec D Global). list_tree tree v.items)
      (λ old o r new a. each_decodes s tree elements old r new (elements_by (DecodesOr s tree errors) (Decodes s tree) (or_decodes s tree errors) elements old r new a))
      (elements_once (DecodesOr s tree errors) (ReadsShape s) tree (or_exact s tree errors) (or_once s tree errors once) elements)
      (λ (v : Vec D Global). vec_len v) (λ v w e. v.ok.0 ∙ (same_length v.items w.items e ∙ sym w.ok.0)) tag c)

  pub set_of_apart : (tag : Tag) (c : Constraints) → AreApart (errors_of (DecodesSetOfBy (DecodesOr s tree errors) tag c)) (ReadsShape (set_of tag s c.size))
  set_of_apart tag c =
      let elements = λ (v : List D). v in
      exactly_apart _ (ReadsShape (set_of tag s c.size)) (λ old o e new a. set_of_or s tree errors tag c old (λ _. o) (Err e) new a)
      (sized_once (DecodesElementsInOrder (DecodesOr s tree errors) elements) (ReadsSetElements s) (λ (v : List D). set_elements (list_tree tree v))
      (λ old o r new a. in_order_decodes s tree elements old r new (in_order_by (DecodesOr s tree errors) (Decodes s tree) (or_decodes s tree errors) elements old r new a))
      (in_order_once (DecodesOr s tree errors) (ReadsShape s) tree (or_exact s tree errors) (or_once s tree errors once) elements)
      (λ (v : List D). length v) (λ v w e. let f : list_tree tree v ≡ list_tree tree w = cc in same_length v w f) tag c)

-- Unknown values.
pub unknown_apart : AreApart (errors_of DecodesUnknown) (ReadsShape unknown)
unknown_apart = exactly_apart _ (ReadsShape unknown) (λ old o e new a. unknown_decodes old (Err e) new a)
    (elements_once (DecodesOpenType eoc) (ReadsShape (any None)) numbers (λ old o r new a. open_decodes eoc old new r a) (open_type_once eoc) (λ (u : Unknown). u.values.items))
