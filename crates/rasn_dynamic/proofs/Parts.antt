-- The way to the part at the end of a path.
use Rattle.std.proofs.Common.{◌≡◌, ◌≢◌, ℕ, suc, ◌+◌, ◌-◌, ◌<◌, ◌≤◌, List, [], ◌∷◌, ◌++◌, length, take, drop, get_or, Vec, Global, String, Option, length-append, append_assoc, Some, None, Ok, Bool, true, false, refl, sym, ap, ◌∙◌, subst, arith}
use Rattle.std.specs.Prelude.{slice_get, MatchOption, MatchBool}
use Rattle.std.proofs.lemmas.List.{append-nil}
use Rattle.rasn_types.specs.declared.types.tag.Tag.{Tag}
use Rattle.rasn_types.specs.declared.types.codec.Codec.TheVariants.{Ber}
use Rattle.rasn_types.specs.Tags.{form}
use Rattle.rasn_types.specs.Framing.{AreOctets, Extent, definite, indefinite, Frame, NextTag, Ended}
use Rattle.rasn_types.specs.Shapes.{Shape, Tree, chosen, any, choice_by, count, IsFirstOf}
use Rattle.rasn_types.specs.Readings.{NoneOf}
use Rattle.rasn_de.specs.State.{State, at, IsEnd}
use Rattle.rasn_de.specs.declared.ber.de.parser.Contents.{Contents}
use Rattle.rasn_de.specs.declared.ber.de.constructed.ConstructedHeader.{ConstructedHeader}
use Rattle.rasn_de.specs.Headers.{Header}
use Rattle.rasn_de.specs.Segments.{octets_inside}
use Rattle.rasn_de.specs.SequenceOf.{DecodesInTurnFrom}
use Rattle.rasn_de.proofs.Constructed.SetOfElements.{passes_from}
use Rattle.rasn_de.specs.Constructed.{sequence_header, list_header, prefix_header, ConsumesOpening, expected_header, is_indefinite_extent}
use Rattle.rasn_de.proofs.Headers.Ends.{IsEnd-refl, IsEnd-trans}
use Rattle.rasn_schema.specs.declared.types.«Type».{«Type»}
use Rattle.rasn_schema.specs.declared.types.«Type».TheVariants.{Leaf, Enumerated, Any, Tagged, Choice, Sequence, Set, SequenceOf, SetOf, Unknown}
use Rattle.rasn_schema.specs.declared.types.Component.{Component}
use Rattle.rasn_schema.specs.Shapes.{shape_of_type, type_by, components_by, presence_in, IsReadable, AreReadable}
use Rattle.rasn_dynamic.specs.Inside.{DecodesTree}
use Rattle.rasn_dynamic.specs.Sets.{is_extensible, named_components, AreLawfulMembers}
use Rattle.rasn_dynamic.specs.Faults.{octets_after, ComponentsInTurn, IsPart, EntersBy, Enters, LeadsBy, Leads, start}
use Rattle.rasn_dynamic.specs.Parts.{IsSeen, IsEntered, IsHeader, IsHeaderOf, LacksPart, IsReadHere, IsPartAt, PassesPresent, PassesElement}
use Rattle.rasn_dynamic.specs.declared.part.Part.{Part}
use Rattle.rasn_de.proofs.Headers.Frames.{header_parsed}
use Rattle.rasn_de.proofs.Constructed.Contents.{constructed_header_parsed}
use Rattle.rasn_types.specs.declared.types.codec.Codec.{Codec}
use Rattle.rasn_dynamic.specs.Typed.{HoldsOthers}
use Rattle.rasn_schema.specs.declared.types.Alternative.{Alternative}
use Rattle.rasn_schema.proofs.Lists.{split}
use Rattle.rasn_dynamic.proofs.Faults.{within_itself, within_short, opened_within, forgotten, turns_keep}
use Rattle.rasn_dynamic.proofs.Contents.{prefix_lawful, list_lawful, set_of_lawful, seq_lawful}
use Rattle.rasn_dynamic.proofs.InOrder.{lawful_parts}
use Rattle.rasn_dynamic.proofs.OpenChoice.{lawful_at}
use Rattle.rasn_dynamic.specs.Calls.{IsComponentFor}
use Rattle.rasn_dynamic.proofs.Members.{member_got, unknown_got}
use Rattle.rasn_dynamic.proofs.Pieces.{part_lawful}
use Rattle.rasn_dynamic.proofs.Named.{named_lawful}

-- ---- octets among others

pub seen_itself : (l : List ℕ) (n : ℕ) → IsSeen l n l n
seen_itself l n = ([], [], sym (append-nil l), omega arith)

pub seen_through : (a b c : List ℕ) (m n k : ℕ) → IsSeen a m b n → IsSeen b n c k → IsSeen a m c k
seen_through a b c m n k (p, q, e, f) (r, s, g, h) =
    let inside : (r ++ (c ++ s)) ++ q ≡ r ++ (c ++ (s ++ q)) = append_assoc r (c ++ s) q ∙ ap (λ l. r ++ l) (append_assoc c s q) in
    let size = length-append s q in (
      p ++ r,
      s ++ q,
      e ∙ ap (λ l. p ++ l) (ap (λ l. l ++ q) g ∙ inside) ∙ sym (append_assoc p r (c ++ (s ++ q))),
      omega (arith, size, f, h),
    )

pub seen_end : (a b : List ℕ) (n : ℕ) → IsEnd a b → IsSeen a n b n
seen_end a b n (front, e) = (front, [], e ∙ ap (λ l. front ++ l) (sym (append-nil b)), omega arith)

pub seen_short : (a b : List ℕ) (m n : ℕ) → IsSeen a m b n → length a ≤ m → length b ≤ n
seen_short a b m n (p, q, e, f) h =
    let x = ap length e ∙ length-append p (b ++ q) in
    let y = length-append b q in
    omega (arith, x, y, f, h)

-- The contents of a value are seen from it.
module _ (d : ConstructedHeader) (old : State) (o : old.depth ≢ 0 → AreOctets old.rest) (p : State) (c : Contents) (mid : State) (w : ConsumesOpening d old (Ok (p, c)) mid) where
  pub inside_short : length p.rest + octets_after p.closing (length mid.rest) ≤ length old.rest
  inside_short = within_short old.rest p.rest _ (opened_within [] d old o p c mid w p.rest (length p.rest) (within_itself p.rest))

  pub seen_inside : (end : ℕ) → length old.rest ≤ end → IsSeen old.rest end p.rest (end - octets_after p.closing (length mid.rest))
  seen_inside end h =
      let (front, back, e, n) = opened_within [] d old o p c mid w p.rest (length p.rest) (within_itself p.rest) in
      let y = length-append p.rest back in
      let z = inside_short in
      (front, back, e, omega (arith, y, z, n, h))

-- ---- a part in the contents

components_keep : (f : ℕ → Shape) (done : List Component) (s here : State) → ComponentsInTurn f done s here → (here ≡ at s here.rest) × IsEnd s.rest here.rest
components_keep f [] s here e = (e ∙ ap (λ (z : State). at s z.rest) (sym e), subst (λ (z : State). IsEnd s.rest z.rest) (sym e) (IsEnd-refl s.rest))
components_keep f (p ∷ ps) s here (v, next, d, t) = let k = components_keep f ps next here t in (k.0 ∙ ap (λ (z : State). at z here.rest) d.stays, IsEnd-trans s.rest next.rest here.rest d.end k.1)

same_keeps : (s here : State) → here ≡ s → (here ≡ at s here.rest) × IsEnd s.rest here.rest
same_keeps s here e = (e ∙ ap (λ (z : State). at s z.rest) (sym e), subst (λ (z : State). IsEnd s.rest z.rest) (sym e) (IsEnd-refl s.rest))

-- What was read before the part is what is missing.
pub part_keeps : (f : ℕ → Shape) (ty : «Type») (s : State) (k next : ℕ) (here : State) → IsPart f ty s k next here → (here ≡ at s here.rest) × IsEnd s.rest here.rest
part_keeps f (Leaf kind tag c names) s k next here i = absurd i
part_keeps f (Enumerated tag ns) s k next here i = absurd i
part_keeps f (Any tag) s k next here i = absurd i
part_keeps f Unknown s k next here i = absurd i
part_keeps f (Tagged tag id) s k next here (a, b, g) = same_keeps s here g
part_keeps f (Choice name ks) s k next here (a, e, b, g) = same_keeps s here g
part_keeps f (Sequence tag ps) s k next here (done, p, after, e, l, b, t) = components_keep f done s here t
part_keeps f (Set name tag ps) s k next here (p, e, b, done, bs, d) =
    let z = choice_by (is_extensible f ps.items) (components_by f (named_components f ps.items)) in
    turns_keep z (λ (t : Tree). t) s done here (forgotten (DecodesTree z) s done bs here d)
part_keeps f (SequenceOf tag id c) s k next here (b, ts, l, d, n) = turns_keep (f id.0) (λ (t : Tree). t) s ts here d
part_keeps f (SetOf tag id c) s k next here (b, ts, l, d, n) = turns_keep (f id.0) (λ (t : Tree). t) s ts here d

component_lawful : (f : ℕ → Shape) (done : List Component) (p : Component) (after : List Component) → AreReadable (components_by f (done ++ p ∷ after)) → IsReadable (f p.type_id.0)
component_lawful f [] p after h = h.0
component_lawful f (q ∷ qs) p after h = component_lawful f qs p after h.1

-- The shape of a part is lawful, or unknown values.
pub lawful_part : (f : ℕ → Shape) (ty : «Type») → IsReadable (type_by f ty) → (s : State) (k next : ℕ) (here : State) → IsPart f ty s k next here → IsReadable (f next)
lawful_part f (Leaf kind tag c names) h s k next here i = absurd i
lawful_part f (Enumerated tag ns) h s k next here i = absurd i
lawful_part f (Any tag) h s k next here i = absurd i
lawful_part f Unknown h s k next here i = absurd i
lawful_part f (Tagged tag id) h s k next here (a, b, g) = subst (λ z. IsReadable (f z)) (sym b) (prefix_lawful tag (f id.0) h)
lawful_part f (Choice name ks) h s k next here (a, (tag, n, e), b, g) = subst (λ z. IsReadable (f z)) (sym b) (lawful_at f ks.items k a h e.0)
lawful_part f (Sequence tag ps) h s k next here (done, p, after, e, l, b, t) =
    let all = lawful_parts f ps.items (seq_lawful tag (components_by f ps.items) h) in
    subst (λ z. IsReadable (f z)) (sym b) (component_lawful f done p after (subst (λ z. AreReadable (components_by f z)) e all))
lawful_part f (Set name tag ps) h s k next here (p, e, b, done, bs, d) =
    let are = named_lawful f tag ps.items (named_components f ps.items) refl h in
    subst (λ z. IsReadable (f z)) (sym b) (part_lawful f (named_components f ps.items) k p are e)
lawful_part f (SequenceOf tag id c) h s k next here (b, vs, l, d, n) = subst (λ z. IsReadable (f z)) (sym b) (list_lawful tag (f id.0) c.size h)
lawful_part f (SetOf tag id c) h s k next here (b, vs, l, d, n) = subst (λ z. IsReadable (f z)) (sym b) (set_of_lawful tag (f id.0) c.size h)

-- What has a part holds others.
pub entered_for : (f : ℕ → Shape) (ty : «Type») (s inner : State) (k next : ℕ) (here : State) → IsEntered ty s inner → IsPart f ty inner k next here → Enters ty s inner
entered_for f (Leaf kind tag c names) s inner k next here e i = absurd i
entered_for f (Enumerated tag ns) s inner k next here e i = absurd i
entered_for f (Any tag) s inner k next here e i = absurd i
entered_for f Unknown s inner k next here e i = absurd i
entered_for f (Tagged tag id) s inner k next here e i = e
entered_for f (Choice name ks) s inner k next here e i = e
entered_for f (Sequence tag ps) s inner k next here e i = e
entered_for f (Set name tag ps) s inner k next here e i = e
entered_for f (SequenceOf tag id c) s inner k next here e i = e
entered_for f (SetOf tag id c) s inner k next here e i = e

-- There are as many parts as components.
pub count_is : (f : ℕ → Shape) (ps : List Component) → count (components_by f ps) ≡ length ps
count_is f [] = refl
count_is f (p ∷ ps) = ap suc (count_is f ps)

-- One more reading, of another part.
pub none_more : (k j : ℕ) (t : Tree) (done : List Tree) → NoneOf k done → j ≢ k → NoneOf k (done ++ chosen j t ∷ [])
none_more k j t [] n d = ((λ u e. d cc), tt)
none_more k j t (r ∷ rs) n d = (n.0, none_more k j t rs n.1 d)

-- Components of a SET are passed by, none of which is the one that is looked for.
abbrev pub MembersPassed : (ℕ → Shape) → Bool → List Component → ℕ → State → State → Type 0
MembersPassed f extensible ps k s here = (done : List Tree) × (bs : List (List ℕ)) × DecodesInTurnFrom (DecodesTree (choice_by extensible (components_by f ps))) s done bs here × (k < length ps → NoneOf k done)

-- One more is.
module _ (f : ℕ → Shape) (extensible : Bool) (ps : List Component) (k : ℕ) (s here next : State) (tag : Tag) (n : NextTag (form here.rule) here.rest tag) (more : Ended here.closing here.rest → ⊥) (i : MembersPassed f extensible ps k s here) where
  one_passed : (j : ℕ) (t : Tree) → DecodesTree (choice_by extensible (components_by f ps)) here (Ok (chosen j t)) next → (length next.rest ≡ length here.rest → ⊥) → (k < length ps → j ≢ k) → MembersPassed f extensible ps k s next
  one_passed j t d l m = (
    i.0 ++ (chosen j t ∷ []),
    i.1 ++ (d.end.0 ∷ []),
    passes_from (DecodesTree (choice_by extensible (components_by f ps))) here next (chosen j t) d.end.0 d.end.1 more d l s i.0 _ i.1 refl i.2,
    λ h. none_more k j t i.0 (i.3 h) (m h),
  )

  pub member_passed : (j : ℕ) (p : Component) → AreLawfulMembers (components_by f ps) → IsComponentFor f ps tag j p → j ≢ k → PassesPresent (presence_in f p) (f p.type_id.0) here next → MembersPassed f extensible ps k s next
  member_passed j p are b m (t, d, l) = one_passed j t (member_got f ps j p tag are b here next n extensible t d) l (λ h. m)

  pub unknown_passed : (IsFirstOf (components_by f ps) tag → ⊥) → extensible ≡ true → PassesElement (any None) here next → MembersPassed f extensible ps k s next
  unknown_passed others e (u, d, l) =
      one_passed (count (components_by f ps)) u (subst (λ b. DecodesTree (choice_by b (components_by f ps)) here (Ok (chosen (count (components_by f ps)) u)) next) (sym e) (unknown_got (components_by f ps) here next tag n others u d)) l
      (λ h m. omega (arith, h, m, count_is f ps))

-- ---- paths

module _ (types : List «Type») where
  -- The path with one part.
  pub leads_one : (levels id n k : ℕ) (ty : «Type») (s inner : State) (next : ℕ) (here : State) → levels ≡ suc n → slice_get types id ≡ Some ty → IsEntered ty s inner → IsPart (shape_of_type types n) ty inner k next here
      → Leads types (k ∷ []) levels id s n next here
  unfolding LeadsBy
  leads_one levels id n k ty s inner next here l g e i =
      let p = part_keeps (shape_of_type types n) ty inner k next here i in
      (n, l, ty, g, inner, entered_for (shape_of_type types n) ty s inner k next here e i, next, here, i, p.0, p.1, (refl, refl, refl))

  -- One path, and then another.
  pub leads_on : (a b : List ℕ) (levels id : ℕ) (s : State) (mid next : ℕ) (here : State) (below end : ℕ) (last : State)
      → Leads types a levels id s mid next here → Leads types b mid next here below end last → Leads types (a ++ b) levels id s below end last
  unfolding LeadsBy
  leads_on [] b levels id s mid next here below end last (l, i, e) h =
      subst (λ z. Leads types b z id s below end last) (sym l) (subst (λ z. Leads types b mid z s below end last) (sym i) (subst (λ z. Leads types b mid next z below end last) (sym e) h))
  leads_on (k ∷ a) b levels id s mid next here below end last (n, l, ty, g, inner, e, via, there, p, stays, back, rest) h =
      (n, l, ty, g, inner, e, via, there, p, stays, back, leads_on a b n via there mid next here below end last rest h)

  pub leads_nowhere : (levels id : ℕ) (s : State) → Leads types [] levels id s levels id s
  unfolding LeadsBy
  leads_nowhere levels id s = (refl, refl, refl)

-- ---- headers

-- A header that a value of the type has is opened, and the contents are entered.
pub entered_by : (ty : «Type») (d : ConstructedHeader) (s inner mid : State) (c : Contents) → IsHeaderOf ty (Some d) → ConsumesOpening d s (Ok (inner, c)) mid → IsEntered ty s inner
entered_by (Leaf kind tag cs names) d s inner mid c e w = absurd cc
entered_by (Enumerated tag ns) d s inner mid c e w = absurd cc
entered_by (Any tag) d s inner mid c e w = absurd cc
entered_by Unknown d s inner mid c e w = absurd cc
entered_by (Tagged tag id) d s inner mid c e w = let same : d ≡ prefix_header tag = cc in subst (λ z. EntersBy z s inner) same (w.0, w.1, w.2)
entered_by (Choice name ks) d s inner mid c e w = absurd cc
entered_by (Sequence tag ps) d s inner mid c e w = let same : d ≡ sequence_header tag = cc in subst (λ z. EntersBy z s inner) same (w.0, w.1, w.2)
entered_by (Set name tag ps) d s inner mid c e w = let same : d ≡ sequence_header tag = cc in subst (λ z. EntersBy z s inner) same (w.0, w.1, w.2)
entered_by (SequenceOf tag id cs) d s inner mid c e w = let same : d ≡ list_header tag = cc in subst (λ z. EntersBy z s inner) same (w.0, w.1, w.2)
entered_by (SetOf tag id cs) d s inner mid c e w = let same : d ≡ list_header tag = cc in subst (λ z. EntersBy z s inner) same (w.0, w.1, w.2)

pub not_entered : (ty : «Type») (s : State) → IsHeaderOf ty None → IsEntered ty s s
not_entered (Leaf kind tag c names) s e = refl
not_entered (Enumerated tag ns) s e = refl
not_entered (Any tag) s e = refl
not_entered Unknown s e = refl
not_entered (Tagged tag id) s e = absurd cc
not_entered (Choice name ks) s e = refl
not_entered (Sequence tag ps) s e = absurd cc
not_entered (Set name tag ps) s e = absurd cc
not_entered (SequenceOf tag id c) s e = absurd cc
not_entered (SetOf tag id c) s e = absurd cc

-- The header that is opened takes so many octets.
pub header_is : (octets : List ℕ) (tag : Tag) (bit : Bool) (h : Header) → Frame (form Ber) octets tag bit h.rest h.extent → (inner : State) → inner.closing ≡ is_indefinite_extent h.extent → inner.rest ≡ octets_inside h.extent h.rest
    → (n : ℕ) → n + (length inner.rest + octets_after inner.closing (length h.rest)) ≡ length octets → IsHeader octets n inner.closing
header_is octets tag bit h f inner e g n m = go h.extent f e g
  where
    go : (x : Extent) → Frame (form Ber) octets tag bit h.rest x → inner.closing ≡ is_indefinite_extent x → inner.rest ≡ octets_inside x h.rest → IsHeader octets n inner.closing
    go (definite c) f e g = subst (IsHeader octets n) (sym e) (tag, bit, c, h.rest, f, (let a = ap length g in let b = ap (λ z. octets_after z (length h.rest)) e in omega (arith, m, a, b)))
    go indefinite f e g = subst (IsHeader octets n) (sym e) (tag, bit, h.rest, f, (let a = ap length g in let b = ap (λ z. octets_after z (length h.rest)) e in omega (arith, m, a, b)))

-- A value that holds no others has no header of this kind.
pub no_header : (ty : «Type») → (HoldsOthers ty → ⊥) → IsHeaderOf ty None
no_header (Leaf kind tag c names) n = refl
no_header (Enumerated tag ns) n = refl
no_header (Any tag) n = refl
no_header Unknown n = refl
no_header (Tagged tag id) n = absurd (n tt)
no_header (Choice name ks) n = refl
no_header (Sequence tag ps) n = absurd (n tt)
no_header (Set name tag ps) n = absurd (n tt)
no_header (SequenceOf tag id c) n = absurd (n tt)
no_header (SetOf tag id c) n = absurd (n tt)

-- A type that holds no others, and isn't a CHOICE, has no part.
pub no_parts : (f : ℕ → Shape) (ty : «Type») → (HoldsOthers ty → ⊥) → ((name : String Global) (ks : Vec Alternative Global) → ty ≡ Choice name ks → ⊥) → (s : State) (k : ℕ) → LacksPart f ty s k
no_parts f (Leaf kind tag c names) n m s k = tt
no_parts f (Enumerated tag ns) n m s k = tt
no_parts f (Any tag) n m s k = tt
no_parts f Unknown n m s k = tt
no_parts f (Tagged tag id) n m s k = absurd (n tt)
no_parts f (Choice name ks) n m s k = absurd (m name ks refl)
no_parts f (Sequence tag ps) n m s k = absurd (n tt)
no_parts f (Set name tag ps) n m s k = absurd (n tt)
no_parts f (SequenceOf tag id c) n m s k = absurd (n tt)
no_parts f (SetOf tag id c) n m s k = absurd (n tt)

-- ---- results

pub option_weaker : {T : Type 0} (r : Option T) (P Q : Type 0) (A B : T → Type 0) → (P → Q) → ((x : T) → A x → B x) → MatchOption r P A → MatchOption r Q B
option_weaker None P Q A B h g w = h w
option_weaker (Some x) P Q A B h g w = g x w

pub if_some : {T : Type 0} (r : Option T) (x : T) (P : Type 0) (A : T → Type 0) → r ≡ Some x → MatchOption r P A → A x
if_some r x P A e w = subst (λ z. MatchOption z P A) e w

pub if_none : {T : Type 0} (r : Option T) (P : Type 0) (A : T → Type 0) → r ≡ None → MatchOption r P A → P
if_none r P A e w = subst (λ z. MatchOption z P A) e w

pub if_true : (b : Bool) (P Q : Type 0) → b ≡ true → MatchBool b P Q → P
if_true b P Q e w = subst (λ z. MatchBool z P Q) e w

pub if_false : (b : Bool) (P Q : Type 0) → b ≡ false → MatchBool b P Q → Q
if_false b P Q e w = subst (λ z. MatchBool z P Q) e w

-- Fewer octets are left.
pub shorter : (a b : List ℕ) → IsEnd a b → length b ≢ length a → length b < length a
shorter a b (front, e) n = let x = ap length e ∙ length-append front b in omega (arith, x, n)

pub first_and_rest : (l : List ℕ) → 1 ≤ length l → l ≡ get_or l 0 0 ∷ take (length l - 1) (drop 1 l)
first_and_rest l h = split l (get_or l 0 0) h (first_again l)
  where
    first_again : (l : List ℕ) → get_or l 0 0 ≡ get_or l 0 (get_or l 0 0)
    first_again [] = refl
    first_again (x ∷ l) = refl

-- ---- a part in a message

-- The header that is opened under BER is that of the octets.
pub header_opened : (d : ConstructedHeader) (old : State) → (old.depth ≢ 0 → AreOctets old.rest) → (p : State) (c : Contents) (mid : State) → ConsumesOpening d old (Ok (p, c)) mid → old.rule ≡ Ber
    → (n : ℕ) (closing : Bool) → closing ≡ p.closing → n + (length p.rest + octets_after p.closing (length mid.rest)) ≡ length old.rest → IsHeader old.rest n closing
header_opened d old o p c mid w r n closing k m =
    let x = constructed_header_parsed d old.rule old.depth old.rest w.0 w.1 in
    let f = (header_parsed (form old.rule) (expected_header d old.rule) old.rest w.0 (o x.0) x.1).0 in
    let g : Frame (form Ber) old.rest w.0.tag w.0.bit w.0.rest w.0.extent = subst (λ z. Frame (form z) old.rest w.0.tag w.0.bit w.0.rest w.0.extent) r f in
    let after : mid.rest ≡ w.0.rest = ap (λ (z : State). z.rest) w.4 in
    subst (IsHeader old.rest n) (sym k)
    (header_is old.rest w.0.tag w.0.bit w.0 g p (ap (λ (z : State). z.closing) w.2) (ap (λ (z : State). z.rest) w.2) n
    (subst (λ z. n + (length p.rest + octets_after p.closing (length z)) ≡ length old.rest) after m))

pub found_at : (types : List «Type») (rule : Codec) (id : ℕ) (input path : List ℕ) (p : Part) (s : State) → s ≡ start rule input → (below next : ℕ) (last : State) (end : ℕ)
    → Leads types path 18446744073709551615 id s below next last → IsSeen s.rest (length input) last.rest end → p.id.0 ≡ next → p.offset + length last.rest ≡ end
    → IsReadHere types below next last p.octets.now p.header_len p.is_indefinite → IsPartAt types rule id input path p
found_at types rule id input path p s e below next last end l (front, back, f, n) i o r =
    let whole : input ≡ front ++ (last.rest ++ back) = sym (ap (λ (z : State). z.rest) e) ∙ f in
    let x = ap length whole ∙ length-append front (last.rest ++ back) in
    let y = length-append last.rest back in
    record {
      below = below;
      last = last;
      front = front;
      back = back;
      is = whole;
      offset = omega (arith, x, y, n, o);
      leads = subst (λ z. Leads types path 18446744073709551615 id z below p.id.0 last) e (subst (λ z. Leads types path 18446744073709551615 id s below z last) (sym i) l);
      read = subst (λ z. IsReadHere types below z last p.octets.now p.header_len p.is_indefinite) (sym i) r;
    }
