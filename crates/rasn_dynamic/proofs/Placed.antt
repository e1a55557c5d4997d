-- Each part that is listed is where it says.
use Rattle.std.proofs.Common.{Bool, ◌≡◌, ◌+◌, ◌<◌, ◌^◌, ℕ, zero, suc, List, [], ◌∷◌, ◌++◌, length, Some, Vec, refl, sym, ap, ◌∙◌, subst, inl, inr, append_assoc, arith, length-append}
use Rattle.std.proofs.lemmas.List.{append-nil}
use Rattle.std.proofs.lemmas.List.Elements.{All-append, All-cons}
use Rattle.std.specs.List.{All}
use Rattle.std.specs.Prelude.{map, slice_get, if◌then◌else◌}
use Rattle.rasn_types.specs.Framing.{AreOctets}
use Rattle.rasn_types.specs.Shapes.{Shape}
use Rattle.rasn_types.specs.declared.types.codec.Codec.{Codec}
use Rattle.rasn_schema.specs.declared.type_id.TypeId.{TypeId}
use Rattle.std.specs.Global.{Global}
use Rattle.rasn_types.proofs.Headers.Digits.{front_octets}
use Rattle.rasn_de.specs.State.{State}
use Rattle.rasn_de.specs.Segments.{octets_inside}
use Rattle.rasn_de.specs.declared.ber.de.constructed.ConstructedHeader.{ConstructedHeader}
use Rattle.rasn_de.specs.Constructed.{sequence_header, list_header, prefix_header}
use Rattle.rasn_schema.specs.declared.types.«Type».{«Type»}
use Rattle.rasn_schema.specs.declared.types.«Type».TheVariants.{Leaf, Enumerated, Any, Tagged, Choice, Sequence, Set, SequenceOf, SetOf, Unknown}
use Rattle.rasn_schema.specs.Shapes.{shape_of_type}
use Rattle.rasn_dynamic.specs.declared.span.Span.{Span}
use Rattle.rasn_dynamic.specs.Faults.{octets_after, start}
use Rattle.rasn_dynamic.specs.Listed.{is_true, wanted_of, Lists, IsEmpty, capped, GoesInside, GoesInto, InTurn, UnknownListed, PartListed, ComponentAt, MemberListed, ContentsListed, ValueListed, PartsInside, Inside}
use Rattle.rasn_dynamic.specs.Sets.{is_extensible, named_components, last_type}
use Rattle.rasn_dynamic.specs.Walk.{IsPlaced, AreParts, ArePartsOf, is_open_type, is_open, open_of}
use Rattle.rasn_dynamic.specs.declared.span.Spans.{Spans}
use Rattle.rasn_dynamic.specs.declared.message.MessageParts.{MessageParts}
use Rattle.rasn_dynamic.proofs.Faults.{after, after_length, contents_within}
use Rattle.rasn_dynamic.proofs.Listed.{same_list}

-- The octets are among those of the input, and b follow them.
abbrev pub IsSeenTo : List ℕ → List ℕ → ℕ → Type 0
IsSeenTo input l b = (front : List ℕ) × (back : List ℕ) × (input ≡ front ++ (l ++ back)) × (length back ≡ b)

seen_part : (input whole pre l more : List ℕ) (b : ℕ) → IsSeenTo input whole b → whole ≡ pre ++ (l ++ more) → IsSeenTo input l (b + length more)
seen_part input whole pre l more b (front, back, e, n) w =
    let size = length-append more back in (
      front ++ pre,
      more ++ back,
      e ∙ ap (λ z. front ++ (z ++ back)) w ∙ ap (λ z. front ++ z) (append_assoc pre (l ++ more) back ∙ ap (λ z. pre ++ z) (append_assoc l more back)) ∙ sym (append_assoc front pre (l ++ (more ++ back))),
      omega (arith, size, n),
    )

seen_rest : (input whole pre l : List ℕ) (b : ℕ) → IsSeenTo input whole b → whole ≡ pre ++ l → IsSeenTo input l b
seen_rest input whole pre l b (front, back, e, n) w = (front ++ pre, back, e ∙ ap (λ z. front ++ (z ++ back)) w ∙ ap (λ z. front ++ z) (append_assoc pre l back) ∙ sym (append_assoc front pre (l ++ back)), n)

seen_short : (input l : List ℕ) (b : ℕ) → IsSeenTo input l b → length input < 2 ^ 64 → b + length l < 2 ^ 64
seen_short input l b (front, back, e, n) h =
    let x = ap length e ∙ length-append front (l ++ back) in
    let y = length-append l back in
    omega (arith, x, y, n, h)

exact : (a b : ℕ) → a + b < 2 ^ 64 → capped a b ≡ a + b
exact a b h = omega (arith, h)

module _ (input : List ℕ) (short : length input < 2 ^ 64) (o : AreOctets input) where
  seen_octets : (l : List ℕ) (b : ℕ) → IsSeenTo input l b → AreOctets l
  seen_octets l b (front, back, e, n) = (front_octets l back (front_octets front (l ++ back) (subst AreOctets e o)).1).0

  inside_seen : (d : ConstructedHeader) (b : ℕ) (s : State) (c : ℕ) (inner : State) → IsSeenTo input s.rest b → GoesInside d b s c inner → IsSeenTo input inner.rest c
  inside_seen d b s c inner seen (h, g, q, k) =
      let t = contents_within [] d s (λ z. seen_octets s.rest b seen) h g in
      let l = octets_inside h.extent h.rest in
      let more = after [] h.extent h.rest in
      let v = seen_part input s.rest t.0 l more b seen t.1 in
      let n : octets_after inner.closing (length h.rest) ≡ length more = ap (λ (z : State). octets_after z.closing (length h.rest)) q ∙ sym (after_length [] h.extent h.rest) in
      let fits : b + length more < 2 ^ 64 = (let w = seen_short input l (b + length more) v short in omega (arith, w)) in
      let same : c ≡ b + length more = k ∙ ap (λ z. capped b z) n ∙ exact b (length more) fits in
      subst (λ z. IsSeenTo input z c) (sym (ap (λ (z : State). z.rest) q)) (subst (λ z. IsSeenTo input l z) (sym same) v)

  stays_seen : (b : ℕ) (s : State) (c : ℕ) (inner : State) → IsSeenTo input s.rest b → (c ≡ b) × (inner ≡ s) → IsSeenTo input inner.rest c
  stays_seen b s c inner seen (e, q) = subst (λ (z : State). IsSeenTo input z.rest c) (sym q) (subst (λ n. IsSeenTo input s.rest n) (sym e) seen)

  into_seen : (ty : «Type») (b : ℕ) (s : State) (c : ℕ) (inner : State) → IsSeenTo input s.rest b → GoesInto ty b s c inner → IsSeenTo input inner.rest c
  into_seen (Leaf kind tag k names) b s c inner seen g = stays_seen b s c inner seen g
  into_seen (Enumerated tag ns) b s c inner seen g = stays_seen b s c inner seen g
  into_seen (Any tag) b s c inner seen g = stays_seen b s c inner seen g
  into_seen Unknown b s c inner seen g = stays_seen b s c inner seen g
  into_seen (Tagged tag id) b s c inner seen g = inside_seen (prefix_header tag) b s c inner seen g
  into_seen (Choice name ks) b s c inner seen g = stays_seen b s c inner seen g
  into_seen (Sequence tag ps) b s c inner seen g = inside_seen (sequence_header tag) b s c inner seen g
  into_seen (Set name tag ps) b s c inner seen g = inside_seen (sequence_header tag) b s c inner seen g
  into_seen (SequenceOf tag id k) b s c inner seen g = inside_seen (list_header tag) b s c inner seen g
  into_seen (SetOf tag id k) b s c inner seen g = inside_seen (list_header tag) b s c inner seen g

  one_placed : (e : Span) (rest whole : List ℕ) (b : ℕ) → IsSeenTo input whole b → whole ≡ e.octets.now ++ rest → e.left ≡ capped b (length whole) → IsPlaced input e
  one_placed e rest whole b (front, back, q, n) w k =
      let x = append_assoc e.octets.now rest back in
      let size : length (e.octets.now ++ (rest ++ back)) ≡ length whole + length back = ap length (sym x ∙ ap (λ z. z ++ back) (sym w)) ∙ length-append whole back in
      let fits = seen_short input whole b (front, back, q, n) short in
      (front, rest ++ back, q ∙ ap (λ z. front ++ (z ++ back)) w ∙ ap (λ z. front ++ z) x, (let y = k ∙ exact b (length whole) fits in omega (arith, size, n, y)))

  -- P places each part inside a value that is seen, if below says so.
  module _ (f : ℕ → Shape) (levels : ℕ) (P : ℕ → ℕ → State → List Span → Type 0)
      (below : (id b : ℕ) (s : State) (es : List Span) → IsSeenTo input s.rest b → P id b s es → All (IsPlaced input) es) where
    pub part_placed : (id k b : ℕ) (s next : State) (es : List Span) → IsSeenTo input s.rest b → PartListed f levels P id k b s next es → All (IsPlaced input) es × IsSeenTo input next.rest b
    part_placed id k b s next es seen p = (
      subst (All (IsPlaced input)) (sym p.is)
          (All-cons (IsPlaced input) p.part p.inside (one_placed p.part next.rest s.rest b seen p.octets p.left) (below id b s p.inside seen p.parts)),
      seen_rest input s.rest p.part.octets.now next.rest b seen p.octets,
    )

    none_placed : (es : List Span) → es ≡ [] → All (IsPlaced input) es
    none_placed es e = subst (All (IsPlaced input)) (sym e) (λ k d h. absurd (omega (arith, h)))

    unknown_placed : (id k b : ℕ) (s next : State) (es : List Span) → IsSeenTo input s.rest b → UnknownListed levels id k b s next es → All (IsPlaced input) es × IsSeenTo input next.rest b
    unknown_placed id k b s next es seen p = (
      subst (All (IsPlaced input)) (sym p.is)
          (All-cons (IsPlaced input) p.part [] (one_placed p.part next.rest s.rest b seen p.octets p.left) (none_placed [] refl)),
      seen_rest input s.rest p.part.octets.now next.rest b seen p.octets,
    )

    turns_placed : (step : ℕ → State → State → List Span → Type 0) (b : ℕ)
        → ((k : ℕ) (s next : State) (es : List Span) → IsSeenTo input s.rest b → step k s next es → All (IsPlaced input) es × IsSeenTo input next.rest b)
        → (n : ℕ) (s last : State) (es : List Span) → IsSeenTo input s.rest b → InTurn step n s last es → All (IsPlaced input) es × IsSeenTo input last.rest b
    turns_placed step b each zero s last es seen (e, q) = (subst (All (IsPlaced input)) (sym q) (λ k d h. absurd (omega (arith, h))), subst (λ (z : State). IsSeenTo input z.rest b) (sym e) seen)
    turns_placed step b each (suc n) s last es seen (before, mine, here, e, t, m) =
        let x = turns_placed step b each n s here before seen t in
        let y = each n here last mine x.1 m in
        (subst (All (IsPlaced input)) (sym e) (All-append (IsPlaced input) before mine x.0 y.0), y.1)

    contents_placed : (ty : «Type») (b : ℕ) (s : State) (es : List Span) → IsSeenTo input s.rest b → ContentsListed f levels P ty b s es → All (IsPlaced input) es
    contents_placed (Leaf kind tag c names) b s es seen q = none_placed es q
    contents_placed (Enumerated tag ns) b s es seen q = none_placed es q
    contents_placed (Any tag) b s es seen q = none_placed es q
    contents_placed Unknown b s es seen q = none_placed es q
    contents_placed (Tagged tag id) b s es seen (last, q) = (part_placed id.0 0 b s last es seen q).0
    contents_placed (Choice name ks) b s es seen (k, a, at, last, q) = (part_placed a.type_id.0 k b s last es seen q).0
    contents_placed (Sequence tag ps) b s es seen (inl (h, e)) = none_placed es e
    contents_placed (Sequence tag ps) b s es seen (inr (last, q)) = (turns_placed (ComponentAt f levels P ps.items b) b (λ k z next mine h m. elim m.2 [
      | inl a ↦ (none_placed mine a.2, subst (λ (v : State). IsSeenTo input v.rest b) (sym a.1) h)
      | inr y ↦ part_placed m.0.type_id.0 k b z next mine h y
    ]) (length ps.items) s last es seen q).0
    contents_placed (Set name tag ps) b s es seen (n, last, q, h) =
        (turns_placed (λ k. MemberListed f levels P (is_extensible f ps.items) (named_components f ps.items) (last_type ps.items) b) b (λ k z next mine y m. elim m [
          | inl (d, x) ↦ unknown_placed (last_type ps.items) (length (named_components f ps.items)) b z next mine y x
          | inr (j, p, at, x) ↦ part_placed p.type_id.0 j b z next mine y x
        ]) n s last es seen q).0
    contents_placed (SequenceOf tag id c) b s es seen (n, last, q, h) = (turns_placed (λ k. PartListed f levels P id.0 k b) b (λ k z next mine. part_placed id.0 k b z next mine) n s last es seen q).0
    contents_placed (SetOf tag id c) b s es seen (n, last, q, h) = (turns_placed (λ k. PartListed f levels P id.0 k b) b (λ k z next mine. part_placed id.0 k b z next mine) n s last es seen q).0

    value_placed : (ty : «Type») (b : ℕ) (s : State) (es : List Span) → IsSeenTo input s.rest b → ValueListed f levels P ty b s es → All (IsPlaced input) es
    value_placed ty b s es seen (c, inner, g, q) = contents_placed ty c inner es (into_seen ty b s c inner seen g) q

  inside_placed : (types : List «Type») (n id b : ℕ) (s : State) (es : List Span) → IsSeenTo input s.rest b → PartsInside types n id b s es → All (IsPlaced input) es
  unfolding PartsInside
  inside_placed types zero id b s es seen q = absurd q
  inside_placed types (suc n) id b s es seen (ty, at, q) = value_placed (shape_of_type types n) n (Inside types n) (λ k c z more. inside_placed types n k c z more) ty b s es seen q

  -- Those of a whole message.
  pub all_placed : (types : List «Type») (n id k : ℕ) (s next : State) (es : List Span) → s.rest ≡ input → PartListed (shape_of_type types n) n (Inside types n) id k 0 s next es → All (IsPlaced input) es
  all_placed types n id k s next es e q = (part_placed (shape_of_type types n) n (Inside types n) (λ j c z more. inside_placed types n j c z more) id k 0 s next es ([], [], sym (append-nil s.rest ∙ e), refl) q).0

-- ---- what the call returns

-- The parts that were read are those of the message.
module _ (types : List «Type») (rule : Codec) (id : TypeId) (input rest : List ℕ) (s last : State) (o n : Spans)
    (l : Lists (λ b es. PartListed (shape_of_type types 18446744073709551615) 18446744073709551615 (Inside types 18446744073709551615) id.0 0 b s last es) o n) (empty : IsEmpty o) where
  pub are_parts : s ≡ start rule input → last.rest ≡ rest → length input < 2 ^ 64 → AreOctets input → AreParts types rule id.0 input rest l.parts
  are_parts e end short octets =
      let listed =
      subst (λ z. PartListed (shape_of_type types 18446744073709551615) 18446744073709551615 (Inside types 18446744073709551615) id.0 0 0 z last l.parts) e
      (subst (λ b. PartListed (shape_of_type types 18446744073709551615) 18446744073709551615 (Inside types 18446744073709551615) id.0 0 b s last l.parts) empty.0 l.are) in
      record {
        last = last;
        ends = end;
        listed = listed;
        placed = all_placed input short octets types 18446744073709551615 id.0 0 (start rule input) last l.parts refl listed;
      }

  -- Those that are wanted are in the list.
  pub are_wanted : (list : Vec Span Global) → n.list ≡ Some list → list.items ≡ wanted_of o.wanted l.parts
  are_wanted list q =
      let w = l.more list q in
      let same : w.0 ≡ empty.1 = same_list w.0 empty.1 (sym w.1 ∙ empty.2) in
      w.2 ∙ ap (λ z. z ++ wanted_of o.wanted l.parts) (ap (λ (v : Vec Span Global). v.items) same ∙ empty.3)

-- Those of a list of all parts.
pub all_parts : (types : List «Type») (rule : Codec) (id : ℕ) (input rest : List ℕ) (es : List Span) (ps : MessageParts) → AreParts types rule id input rest es → ps.list.items ≡ es
    → ps.input.now ≡ input → ps.next ≡ 0 → ps.path.items ≡ [] → ArePartsOf types rule id input ps
all_parts types rule id input rest es ps a e i x p = record {
  last = a.last;
  listed = subst (λ z. PartListed (shape_of_type types 18446744073709551615) 18446744073709551615 (Inside types 18446744073709551615) id 0 0 (start rule input) a.last z) (sym e) a.listed;
  placed = subst (λ z. All (IsPlaced input) z) (sym e) a.placed;
  input_is = i;
  next = x;
  path = p;
}

-- ---- open types

open_get : (types : List «Type») (k : ℕ) → is_true (slice_get (map is_open_type types) k) ≡ is_open (slice_get types k)
open_get [] k = refl
open_get (ty ∷ types) zero = refl
open_get (ty ∷ types) (suc k) = open_get types k

-- Those whose types are wanted are the open ones.
pub open_wanted : (types : List «Type») (v : Vec Bool Global) (es : List Span) → v.items ≡ map is_open_type types → wanted_of (Some v) es ≡ open_of types es
open_wanted types v [] e = refl
open_wanted types v (x ∷ es) e =
    let here : is_true (slice_get v.items x.id.0) ≡ is_open (slice_get types x.id.0) = ap (λ l. is_true (slice_get l x.id.0)) e ∙ open_get types x.id.0 in
    ap (λ l. if is_true (slice_get v.items x.id.0) then x ∷ l else l) (open_wanted types v es e) ∙ ap (λ b. if b then x ∷ open_of types es else open_of types es) here
