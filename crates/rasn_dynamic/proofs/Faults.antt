-- Where in the input a value couldn't be read.
use Rattle.std.proofs.Common.{◌≡◌, ◌≢◌, ℕ, zero, suc, ◌+◌, ◌≤◌, List, [], ◌∷◌, ◌++◌, inl, inr, Vec, Global, String, length, length-append, append_assoc, Option, Some, None, Result, Ok, Err, Bool, true, false, refl, sym, ap, ◌∙◌, subst, arith}
use Rattle.std.specs.Prelude.{◌⊎◌, IfErr, reverse, slice_get}
use Rattle.std.proofs.lemmas.List.{append-nil, reverse-append}
use Rattle.std.specs.String.{string_bytes}
use Rattle.rasn_types.specs.declared.types.codec.Codec.{Codec}
use Rattle.rasn_types.specs.declared.types.tag.Tag.{Tag}
use Rattle.rasn_types.specs.declared.error.decode.DecodeError.{DecodeError}
use Rattle.rasn_types.specs.Framing.{Ended, AreOctets, Extent, definite, indefinite, Frame, with_length, without_length}
use Rattle.rasn_types.specs.Tags.{form, eoc, IsStrict}
use Rattle.rasn_types.specs.Grammar.{Reads, ReadsAny}
use Rattle.rasn_types.specs.Readings.{ReadsMany}
use Rattle.rasn_types.specs.Shapes.{Shape, Tree, any, unknown, looked_for, Same, choice_by}
use Rattle.rasn_de.specs.Headers.{Header}
use Rattle.rasn_de.specs.Segments.{octets_inside}
use Rattle.rasn_de.specs.Any.{BorrowsOpenType}
use Rattle.rasn_de.specs.ValueErrors.{errors_of}
use Rattle.rasn_de.specs.State.{State, at, IsEnd, Call}
use Rattle.rasn_de.specs.Outcomes.{Exact, refusal}
use Rattle.rasn_de.specs.Decodes.{Decodes}
use Rattle.rasn_de.specs.SequenceOf.{DecodesInTurn, DecodesInTurnFrom}
use Rattle.rasn_de.specs.declared.ber.de.parser.Contents.{Contents}
use Rattle.rasn_de.specs.declared.ber.de.constructed.ConstructedHeader.{ConstructedHeader}
use Rattle.rasn_de.specs.Constructed.{expected_header, constructed_header_at, is_indefinite_extent, Keeps, ConsumesOpening, DecodesInside}
use Rattle.rasn_types.specs.declared.error.decode.DecodeErrorKind.{DecodeErrorKind}
use Rattle.rasn_de.proofs.Leaves.Outcomes.{Exact-refusal}
use Rattle.rasn_de.proofs.Headers.Ends.{IsEnd-refl, IsEnd-trans}
use Rattle.rasn_de.proofs.Headers.Frames.{header_parsed}
use Rattle.rasn_de.proofs.Constructed.Contents.{constructed_header_parsed}
use Rattle.rasn_schema.specs.declared.type_id.TypeId.{TypeId}
use Rattle.rasn_schema.specs.declared.types.«Type».{«Type»}
use Rattle.rasn_schema.specs.declared.types.Component.{Component}
use Rattle.rasn_schema.specs.declared.types.Alternative.{Alternative}
use Rattle.rasn_schema.specs.declared.value.Value.{Value}
use Rattle.rasn_schema.specs.Trees.{tree_of}
use Rattle.rasn_schema.specs.Shapes.{shape_of_type, type_by, tag_at, nothing, alternatives_by, components_by, presence_in, presence_of}
use Rattle.rasn_schema.proofs.OpenEnds.{among_known}
use Rattle.rasn_schema.proofs.TypeShapes.{shape_below, shape_none}
use Rattle.rasn_dynamic.specs.Inside.{DecodesTree, DecodesComponent}
use Rattle.rasn_types.specs.declared.error.decode.DerDecodeErrorKind.TheVariants.{DefaultValuePresent}
use Rattle.rasn_types.specs.Errors.{IsOutOfMemory}
use Rattle.rasn_de.specs.declared.ber.de.parser.ParseError.TheVariants.{UnexpectedEmptyInput, UnexpectedExtraData, OutOfMemory, Der}
use Rattle.rasn_de.specs.Steps.{IsErrorOf}
use Rattle.rasn_de.proofs.Constructed.Steps.{rules_same}
use Rattle.rasn_de.proofs.OwnTypes.Parts.{call_keeps}
use Rattle.rasn_schema.specs.declared.types.«Type».TheVariants.{Leaf, Enumerated, Any, Unknown, Tagged, Choice, Sequence, Set, SequenceOf, SetOf}
use Rattle.rasn_schema.specs.declared.types.Presence.TheVariants.{Default}
use Rattle.rasn_dynamic.specs.Calls.{IsDefaultOf, IsMade}
use Rattle.rasn_dynamic.specs.declared.trace.UnreadValue.{UnreadValue}
use Rattle.rasn_dynamic.specs.declared.refusal.Refusal.{Refusal}
use Rattle.rasn_dynamic.specs.Faults.{IsMarked, IsStepped, IsMoved, octets_after, IsWithin, IsComponentAt, ComponentsInTurn, IsUnknown, IsUnknownMember, IsElementAt, IsNextAlternative, IsAlternativeAt, IsOnly, IsMemberHere, IsMemberAfter, IsAnyPart, LeadsBy, LeadsToAny, HasPath, IsFault, IsFaultIn, IsFaultOf, IsFaultInside, Told, TellsOf, IsRefusalOf, IsLocated, LacksType, FailsAt, FailsItself, StopsAtChoice, StopsInElements, StopsInOrder, StopsInSequence, StopsAtComponent, IsDefaultWritten, TakesNothing, start}

-- ---- lists

pub append_three : (a b c d : List ℕ) → a ++ (b ++ (c ++ d)) ≡ (a ++ b) ++ (c ++ d)
append_three a b c d = sym (append_assoc a b (c ++ d))

pub within_itself : (l : List ℕ) → IsWithin l l (length l)
within_itself l = ([], [], sym (append-nil l), sym (ap length (append-nil l)))

within_after : (all here octets : List ℕ) (left : ℕ) → IsEnd all here → IsWithin here octets left → IsWithin all octets left
within_after all here octets left (pre, e) (front, back, f, n) = (pre ++ front, back, e ∙ ap (λ l. pre ++ l) f ∙ append_three pre front octets back, n)

within_contents : (all inner after octets pre : List ℕ) (left : ℕ) → all ≡ pre ++ (inner ++ after) → IsWithin inner octets left → IsWithin all octets (left + length after)
within_contents all inner after octets pre left e (front, back, f, n) =
    let g : (front ++ (octets ++ back)) ++ after ≡ front ++ (octets ++ (back ++ after)) = append_assoc front (octets ++ back) after ∙ ap (λ l. front ++ l) (append_assoc octets back after) in (
      pre ++ front,
      back ++ after,
      e ∙ ap (λ l. pre ++ l) (ap (λ l. l ++ after) f ∙ g) ∙ append_three pre front octets (back ++ after),
      ap (λ k. k + length after) n ∙ sym (length-append (octets ++ back) after) ∙ ap length (append_assoc octets back after),
    )

pub within_short : (all octets : List ℕ) (left : ℕ) → IsWithin all octets left → left ≤ length all
within_short all octets left (front, back, f, n) = let l : length all ≡ length front + length (octets ++ back) = ap length f ∙ length-append front (octets ++ back) in omega (arith, l, n)

-- ---- steps

module _ (types : List «Type») where
  -- A value that isn't read is named itself, where nothing inside it was.
  own : (levels : ℕ) (id : TypeId) (s : State) (k : DecodeError) (f : UnreadValue) → f.id ≡ id → f.left ≡ length s.rest → f.steps.items ≡ [] → Exact (Reads s.rule (shape_of_type types levels id.0) s.depth s.closing) s.rest (refusal k.kind)
      → FailsAt types levels id.0 s k → IsFault types levels id.0 s k f
  unfolding LeadsBy
  own levels id s k f p l e x o = record {
    path = [];
    below = levels;
    last = s;
    has_path = λ cut. ap reverse e;
    leads = (refl, ap (λ (z : TypeId). z.0) (sym p), refl);
    within = subst (λ n. IsWithin s.rest s.rest n) (sym l) (within_itself s.rest);
    refused = subst (λ (z : TypeId). Exact (Reads s.rule (shape_of_type types levels z.0) s.depth s.closing) s.rest (refusal k.kind)) (sym p) x;
    itself = subst (λ (z : TypeId). FailsAt types levels z.0 s k) (sym p) o;
  }

  pub marked : (levels : ℕ) (id : TypeId) (left : ℕ) (s : State) (k : DecodeError) (old new : Option UnreadValue) → ((f : UnreadValue) → old ≡ Some f → IsFault types levels id.0 s k f) → IsMarked id left old new
      → left ≡ length s.rest → Exact (Reads s.rule (shape_of_type types levels id.0) s.depth s.closing) s.rest (refusal k.kind) → (old ≡ None → FailsAt types levels id.0 s k) → (f : UnreadValue) × (new ≡ Some f) × IsFault types levels id.0 s k f
  marked levels id left s k None new t (f, e, p, l, q, u) m x o = (f, e, own levels id s k f p (l ∙ m) q x (o refl))
  marked levels id left s k (Some f) new t e m x o = (f, e, t f refl)

  longer : (f g : UnreadValue) (index : ℕ) (path : List ℕ) → HasPath f path → (g.is_cut ≡ false → (f.is_cut ≡ false) × (g.steps.items ≡ f.steps.items ++ index ∷ [])) → HasPath g (index ∷ path)
  longer f g index path h q cut = let r = q cut in ap reverse r.1 ∙ reverse-append f.steps.items (index ∷ []) ∙ ap (λ l. index ∷ l) (h r.0)

  stepped_by : (levels next index : ℕ) (s : State) (k : DecodeError) (f g : UnreadValue) → IsFault types levels next s k f → g.id ≡ f.id → g.left ≡ f.left
      → (g.is_cut ≡ false → (f.is_cut ≡ false) × (g.steps.items ≡ f.steps.items ++ index ∷ [])) → IsFaultIn types levels (IsOnly index next s) s s k g
  stepped_by levels next index s k f g i p l q = record {
    index = index;
    next = next;
    path = i.path;
    below = i.below;
    here = s;
    last = i.last;
    has_path = longer f g index i.path i.has_path q;
    part = (refl, refl, refl);
    stays = refl;
    end = IsEnd-refl s.rest;
    leads = subst (λ (z : TypeId). LeadsToAny types i.path levels next s i.below z.0 i.last) (sym p) i.leads;
    within = subst (λ n. IsWithin s.rest i.last.rest n) (sym l) i.within;
    refused = subst (λ (z : TypeId). Exact (Reads i.last.rule (shape_of_type types i.below z.0) i.last.depth i.last.closing) i.last.rest (refusal k.kind)) (sym p) i.refused;
    itself = subst (λ (z : TypeId). FailsAt types i.below z.0 i.last k) (sym p) i.itself;
  }

  pub stepped : (levels next index : ℕ) (s : State) (k : DecodeError) (old new : Option UnreadValue) → (f : UnreadValue) × (old ≡ Some f) × IsFault types levels next s k f → IsStepped index old new
      → (g : UnreadValue) × (new ≡ Some g) × IsFaultIn types levels (IsOnly index next s) s s k g
  stepped levels next index s k old new (f, e, i) t =
      let w : IsStepped index (Some f) new = subst (λ z. IsStepped index z new) e t in
      (w.0, w.1, stepped_by levels next index s k f w.0 i w.2.0 w.2.1 w.2.2)

  -- What is named further on in the same contents is named here.
  pub further : (levels : ℕ) (C D : ℕ → ℕ → State → Type 0) (s here : State) (k : DecodeError) (f : UnreadValue) → here ≡ at s here.rest → IsEnd s.rest here.rest
      → ((n next : ℕ) (x : State) → C n next x → D n next x) → IsFaultIn types levels C here here k f → IsFaultIn types levels D s s k f
  further levels C D s here k f e d h i = record {
    index = i.index;
    next = i.next;
    path = i.path;
    below = i.below;
    here = i.here;
    last = i.last;
    has_path = i.has_path;
    part = h i.index i.next i.here i.part;
    stays = i.stays ∙ ap (λ (z : State). at z i.here.rest) e;
    end = IsEnd-trans s.rest here.rest i.here.rest d i.end;
    leads = i.leads;
    within = within_after s.rest here.rest i.last.rest f.left d i.within;
    refused = i.refused;
    itself = i.itself;
  }

  pub weaker : (levels : ℕ) (C D : ℕ → ℕ → State → Type 0) (s inner : State) → ((n next : ℕ) (x : State) → C n next x → D n next x) → (k : DecodeError) (f : UnreadValue) → IsFaultIn types levels C s inner k f → IsFaultIn types levels D s inner k f
  weaker levels C D s inner h k f i = record {
    index = i.index;
    next = i.next;
    path = i.path;
    below = i.below;
    here = i.here;
    last = i.last;
    has_path = i.has_path;
    part = h i.index i.next i.here i.part;
    stays = i.stays;
    end = i.end;
    leads = i.leads;
    within = i.within;
    refused = i.refused;
    itself = i.itself;
  }

  -- What is named in a ty is named at its id.
  pub entered : (levels id n : ℕ) (ty : «Type») (s : State) → levels ≡ suc n → slice_get types id ≡ Some ty → (k : DecodeError) (f : UnreadValue) → IsFaultOf types n ty s k f → IsFault types levels id s k f
  unfolding LeadsBy
  entered levels id n ty s l g k f (inner, e, i) = record {
    path = i.index ∷ i.path;
    below = i.below;
    last = i.last;
    has_path = i.has_path;
    leads = (n, l, ty, g, inner, e, i.next, i.here, i.part, i.stays, i.end, i.leads);
    within = i.within;
    refused = i.refused;
    itself = i.itself;
  }

  -- ---- contents

  -- what follows contents, as far as it is known
  abbrev pub after : Extent → List ℕ → List ℕ
  after (definite c) rest = rest
  after indefinite rest = []

  frame_within : {x : Extent} (rule : _) (l : List ℕ) {tag : _} {bit : Bool} (rest : List ℕ) → Frame rule l tag bit rest x → (pre : List ℕ) × (l ≡ pre ++ (octets_inside x rest ++ after x rest))
  frame_within rule l rest (with_length id len contents s a strict e) = (id ++ len, e ∙ sym (append_assoc id len (contents ++ rest)))
  frame_within rule l rest (without_length id s b h e) = (id ++ (128 ∷ []), e ∙ sym (append_assoc id (128 ∷ []) rest) ∙ ap (λ z. (id ++ (128 ∷ [])) ++ z) (sym (append-nil rest)))

  pub contents_within : (d : ConstructedHeader) (s : State) → (s.depth ≢ 0 → AreOctets s.rest) → (h : Header) → constructed_header_at d s.rule s.depth s.rest ≡ Ok h
      → (pre : List ℕ) × (s.rest ≡ pre ++ (octets_inside h.extent h.rest ++ after h.extent h.rest))
  contents_within d s o h e =
      let p = constructed_header_parsed d s.rule s.depth s.rest h e in
      frame_within (form s.rule) s.rest h.rest (header_parsed (form s.rule) (expected_header d s.rule) s.rest h (o p.0) p.1).0

  pub after_length : (x : Extent) (rest : List ℕ) → length (after x rest) ≡ octets_after (is_indefinite_extent x) (length rest)
  after_length (definite c) rest = refl
  after_length indefinite rest = refl

  module _ (d : ConstructedHeader) (old : State) (o : old.depth ≢ 0 → AreOctets old.rest) (p : State) (c : Contents) (mid : State) (w : ConsumesOpening d old (Ok (p, c)) mid) where
    pub opened_within : (octets : List ℕ) (left : ℕ) → IsWithin p.rest octets left → IsWithin old.rest octets (left + octets_after p.closing (length mid.rest))
    opened_within octets left s =
        let q : mid.rest ≡ w.0.rest = ap (λ (z : State). z.rest) w.4 in
        let t = contents_within d old o w.0 w.1 in
        let u : IsWithin (octets_inside w.0.extent w.0.rest) octets left = subst (λ (z : State). IsWithin z.rest octets left) w.2 s in
        let v = within_contents old.rest (octets_inside w.0.extent w.0.rest) (after w.0.extent w.0.rest) octets t.0 left t.1 u in
        let b : octets_after p.closing (length mid.rest) ≡ length (after w.0.extent w.0.rest) =
        ap (λ (z : State). octets_after z.closing (length mid.rest)) w.2 ∙ ap (λ l. octets_after (is_indefinite_extent w.0.extent) (length l)) q ∙ sym (after_length w.0.extent w.0.rest) in
        subst (λ n. IsWithin old.rest octets (left + n)) (sym b) v

    -- It isn't more octets than there are.
    pub opened_short : (levels : ℕ) (C : ℕ → ℕ → State → Type 0) (k : DecodeError) (f : UnreadValue) (closing : Bool) (n : ℕ) → closing ≡ p.closing → n ≡ octets_after closing (length mid.rest)
        → IsFaultIn types levels C p p k f → f.left + n ≤ length old.rest
    opened_short levels C k f closing n e b i =
        subst (λ m. f.left + m ≤ length old.rest) (sym (b ∙ ap (λ z. octets_after z (length mid.rest)) e)) (within_short old.rest i.last.rest _ (opened_within i.last.rest f.left i.within))

    -- What is named in the contents is named in the value.
    pub opened : (levels : ℕ) (ty : «Type») (k : DecodeError) (closing : Bool) (n : ℕ) → closing ≡ p.closing → n ≡ octets_after closing (length mid.rest) → (t u : Option UnreadValue)
        → ((f : UnreadValue) → t ≡ Some f → IsFaultIn types levels (IsAnyPart (shape_of_type types levels) ty p) p p k f) → IsMoved n t u → (g : UnreadValue) → u ≡ Some g → IsFaultInside types levels d ty old k g
    opened levels ty k closing n e b None u h m g q = cc
    opened levels ty k closing n e b (Some f) u h (v, y, a, l, z, cut) g q =
        let i = h f refl in
        let r : v ≡ g = cc in
        let there = subst (λ j. IsWithin old.rest i.last.rest (f.left + j)) (sym (b ∙ ap (λ x. octets_after x (length mid.rest)) e)) (opened_within i.last.rest f.left i.within) in
        subst (λ j. IsFaultInside types levels d ty old k j) r (
          p,
          (w.0, w.1, w.2),
          record {
            index = i.index;
            next = i.next;
            path = i.path;
            below = i.below;
            here = i.here;
            last = i.last;
            has_path = λ c. ap (λ (x : Vec ℕ Global). reverse x.items) z ∙ i.has_path (sym cut ∙ c);
            part = i.part;
            stays = i.stays;
            end = i.end;
            leads = subst (λ (j : TypeId). LeadsToAny types i.path levels i.next i.here i.below j.0 i.last) (sym a) i.leads;
            within = subst (λ j. IsWithin old.rest i.last.rest j) (sym l) there;
            refused = subst (λ (j : TypeId). Exact (Reads i.last.rule (shape_of_type types i.below j.0) i.last.depth i.last.closing) i.last.rest (refusal k.kind)) (sym a) i.refused;
            itself = subst (λ (j : TypeId). FailsAt types i.below j.0 i.last k) (sym a) i.itself;
          },
        )

-- ---- clauses

pub not_named : (t : Option UnreadValue) (f : UnreadValue) → t ≡ Some f → t ≡ None → ⊥
not_named t f i n = cc

pub told_map : {T : Type 0} (P Q : DecodeError → UnreadValue → Type 0) → ((k : DecodeError) (f : UnreadValue) → P k f → Q k f) → (r : Result T DecodeError) (t : Option UnreadValue) → Told P r t → Told Q r t
told_map P Q h (Ok v) t x = x
told_map P Q h (Err e) t x = λ f q. h e f (x f q)

-- Nothing is named, so what is named is a fault.
pub unnamed : {T : Type 0} (P : DecodeError → UnreadValue → Type 0) (r : Result T DecodeError) (t : Option UnreadValue) → t ≡ None → Told P r t
unnamed P (Ok v) t e = e
unnamed P (Err x) t e = λ f q. absurd cc

-- Something is named, and it is a fault of this kind too.
pub tells : {T : Type 0} (P Q : DecodeError → UnreadValue → Type 0) → ((k : DecodeError) (f : UnreadValue) → P k f → Q k f) → (r : Result T DecodeError) (t : Option UnreadValue) → TellsOf P r t → Told Q r t
tells P Q h (Ok v) t x = x
tells P Q h (Err e) t (g, i, w) = λ f q. let same : g ≡ f = cc in subst (Q e) same (h e g w)

pub tells_err : (P Q : DecodeError → UnreadValue → Type 0) → ((k : DecodeError) (f : UnreadValue) → P k f → Q k f) → (e : DecodeError) (t : Option UnreadValue) → (f : UnreadValue) × (t ≡ Some f) × P e f → (f : UnreadValue) → t ≡ Some f → Q e f
tells_err P Q h e t (g, i, w) f q = let same : g ≡ f = cc in subst (Q e) same (h e g w)

pub alternative_there : (f : ℕ → Shape) (ks : List Alternative) (index : ℕ) (a : Alternative) (s : State) → IsNextAlternative f ks s index a → (k next : ℕ) (x : State) → IsOnly index a.type_id.0 s k next x → IsAlternativeAt f ks s k next x
alternative_there f ks index a s h k next x (e, n, g) = (a, subst (λ z. IsNextAlternative f ks s z a) (sym e) h, n, g)

pub element_there : (f : ℕ → Shape) (j : ℕ) (s here : State) (ts : List Tree) (number : ℕ) → length ts ≡ number → DecodesInTurn (DecodesTree (f j)) s ts here → (Ended here.closing here.rest → ⊥)
    → (k next : ℕ) (x : State) → IsOnly number j here k next x → IsElementAt f j s k next x
element_there f j s here ts number l p n k next x (a, b, g) =
    (b, ts, l ∙ sym a, subst (λ z. DecodesInTurn (DecodesTree (f j)) s ts z) (sym g) p, subst (λ (z : State). Ended z.closing z.rest → ⊥) (sym g) n)

-- What was read from octets was read.
pub forgotten : {D : Type 0} (read : Call D) (old : State) (vs : List D) (bs : List (List ℕ)) (here : State) → DecodesInTurnFrom read old vs bs here → DecodesInTurn read old vs here
forgotten read old [] bs here (e, h) = h
forgotten read old (v ∷ vs) bs here (b, more, next, e, q, n, d, l, p) = (next, n, d, l, forgotten read next vs more here p)

pub one_part_more : (f : ℕ → Shape) (done : List Component) (p : Component) (s here mid : State) (t : Tree) → ComponentsInTurn f done s here
    → DecodesComponent (presence_in f p) (f p.type_id.0) here (Ok t) mid → ComponentsInTurn f (done ++ p ∷ []) s mid
one_part_more f [] p s here mid t e d = (t, mid, subst (λ z. DecodesComponent (presence_in f p) (f p.type_id.0) z (Ok t) mid) e d, refl)
one_part_more f (q ∷ qs) p s here mid t (u, next, a, b) d = (u, next, a, one_part_more f qs p next here mid t b d)

pub part_there : (f : ℕ → Shape) (ps done after : List Component) (p : Component) (s here : State) (number : ℕ) → ps ≡ done ++ p ∷ after → length done ≡ number → ComponentsInTurn f done s here
    → (k next : ℕ) (x : State) → IsOnly number p.type_id.0 here k next x → IsComponentAt f ps s k next x
part_there f ps done after p s here number e l t k next x (a, b, g) = (done, p, after, e, l ∙ sym a, b, subst (λ z. ComponentsInTurn f done s z) (sym g) t)

pub member_there : (f : ℕ → Shape) (extensible : Bool) (ps : List Component) (other number : ℕ) (p : Component) (s : State)
    → Some p ≡ slice_get ps number
    → (k next : ℕ) (x : State) → IsOnly number p.type_id.0 s k next x → IsMemberHere f extensible ps other s k next x
member_there f extensible ps other number p s e k next x (a, b, g) =
    inl (p, subst (λ z. Some p ≡ slice_get ps z) (sym a) e, b, g)

pub member_behind : (f : ℕ → Shape) (extensible : Bool) (ps : List Component) (other : ℕ)
    (s here : State) (done : List Tree) (bs : List (List ℕ))
    → DecodesInTurnFrom (DecodesTree (choice_by extensible (components_by f ps))) s done bs here
    → (k next : ℕ) (x : State) → IsMemberHere f extensible ps other here k next x
    → IsMemberAfter f extensible ps other s k next x
member_behind f extensible ps other s here done bs d k next x (inl (p, e, b, g)) =
    let D = DecodesInTurnFrom (DecodesTree (choice_by extensible (components_by f ps))) s done bs in
    inl (p, e, b, done, bs, subst (λ z. D z) (sym g) d)
member_behind f extensible ps other s here done bs d k next x (inr (u, g)) =
    let D = DecodesInTurnFrom (DecodesTree (choice_by extensible (components_by f ps))) s done bs in
    inr (subst (λ z. IsUnknownMember f extensible ps other z k next) (sym g) u, done, bs, subst (λ z. D z) (sym g) d)

pub unknown_there : (f : ℕ → Shape) (extensible : Bool) (ps : List Component) (other : ℕ) (s : State)
    → extensible ≡ true → IsUnknown f (components_by f ps) s
    → (k next : ℕ) (x : State) → IsOnly (length ps) other s k next x → IsMemberHere f extensible ps other s k next x
unknown_there f extensible ps other s e u k next x (a, b, g) = inr ((e, a, b, u), g)

-- Elements that are read one after the other leave an end of what there was.
pub turns_keep : {D : Type 0} (s : Shape) (tree : D → Tree) (old : State) (vs : List D) (here : State) → DecodesInTurn (Decodes s tree) old vs here → (here ≡ at old here.rest) × IsEnd old.rest here.rest
turns_keep s tree old [] here e = (e ∙ ap (λ (z : State). at old z.rest) (sym e), subst (λ (z : State). IsEnd old.rest z.rest) (sym e) (IsEnd-refl old.rest))
turns_keep s tree old (v ∷ vs) here (next, n, d, l, p) = let k = turns_keep s tree next vs here p in (k.0 ∙ ap (λ (z : State). at z here.rest) d.stays, IsEnd-trans old.rest next.rest here.rest d.end k.1)

-- What is read takes some of the octets.
pub one_taken : (all octets rest : List ℕ) → all ≡ octets ++ rest → (length rest ≡ length all → ⊥) → 1 + length rest ≤ length all
one_taken all [] rest e n = absurd (n (sym (ap length e)))
one_taken all (x ∷ octets) rest e n = let l : length all ≡ suc (length octets) + length rest = ap length e ∙ length-append (x ∷ octets) rest in omega (arith, l)

-- There are no more elements than octets.
pub turns_long : {D : Type 0} (s : Shape) (tree : D → Tree) (old : State) (vs : List D) (here : State) → DecodesInTurn (Decodes s tree) old vs here → length vs + length here.rest ≤ length old.rest
turns_long s tree old [] here e = let l : length here.rest ≡ length old.rest = ap (λ (z : State). length z.rest) e in omega (arith, l)
turns_long s tree old (v ∷ vs) here (next, n, d, l, p) = omega (arith, turns_long s tree next vs here p, one_taken old.rest d.end.0 next.rest d.end.1 l)

-- ---- an unknown component of a SET

-- Where none is read, no unknown values are.
none_of_many : (rule : Codec) (depth : ℕ) (closing : Bool) (input : List ℕ) (kind : DecodeErrorKind)
    → (Ended closing input → ⊥) → Exact (Reads rule (any None) depth closing) input (refusal kind)
    → Exact (Reads rule unknown depth closing) input (refusal kind)
unfolding Reads
none_of_many rule depth closing input kind more x =
    Exact-refusal kind (Reads rule (any None) depth closing) (Reads rule unknown depth closing) input input
    (λ nothing t r h. go nothing h.0 r h.3) x
  where
    go : ((t : Tree) (r : List ℕ) → Reads rule (any None) depth closing input t r → ⊥)
        → (ts : List Tree) (r : List ℕ) → ReadsMany (ReadsAny rule) closing input ts r → ⊥
    go nothing [] r (e, p) = more e
    go nothing (t ∷ ts) r (n, middle, k, others) = nothing t middle k

-- A type of unknown values fails itself, where the first of them can't be read.
unknown_itself : (f : ℕ → Shape) (ty : «Type») (s new : State) (e : DecodeError) → (Ended s.closing s.rest → ⊥) → errors_of (BorrowsOpenType eoc) s e new → type_by f ty ≡ unknown → FailsItself f ty s e
unknown_itself f (Leaf kind tag c names) s new e more h u = absurd cc
unknown_itself f (Enumerated tag ns) s new e more h u = absurd cc
unknown_itself f (Any tag) s new e more h u = absurd cc
unknown_itself f Unknown s new e more h u = (new, inr ([], s, refl, more, h))
unknown_itself f (Tagged tag id) s new e more h u = absurd cc
unknown_itself f (Choice name ks) s new e more h u = absurd (among_known (alternatives_by f ks.items) u)
unknown_itself f (Sequence tag ps) s new e more h u = absurd cc
unknown_itself f (Set name tag ps) s new e more h u = absurd cc
unknown_itself f (SequenceOf tag id c) s new e more h u = absurd cc
unknown_itself f (SetOf tag id c) s new e more h u = absurd cc

no_shape : (tag : Option Tag) → nothing tag ≡ unknown → ⊥
no_shape None u = cc
no_shape (Some tag) u = cc

-- The type is there.
no_unknown : (types : List «Type») (levels id : ℕ) → levels ≡ 0 → shape_of_type types levels id ≡ unknown → ⊥
unfolding shape_of_type
no_unknown types zero id z u = no_shape (looked_for (tag_at types id)) u
no_unknown types (suc n) id z u = omega (arith, z)

unknown_held : (types : List «Type») (levels id : ℕ) → shape_of_type types levels id ≡ unknown → LacksType types levels id → ⊥
unknown_held types levels id u (inl z) = no_unknown types levels id z u
unknown_held types zero id u (inr m) = no_unknown types zero id refl u
unknown_held types (suc n) id u (inr m) = let none = shape_none types (suc n) id (λ z. omega (arith, z)) m in cc

unknown_fails : (types : List «Type») (levels id : ℕ) (s new : State) (e : DecodeError) → (Ended s.closing s.rest → ⊥) → errors_of (BorrowsOpenType eoc) s e new
    → shape_of_type types levels id ≡ unknown → FailsAt types levels id s e
unknown_fails types levels id s new e more h u = record {
  fails = λ n ty l at. unknown_itself (shape_of_type types n) ty s new e more h (sym (shape_below types levels n id ty l (sym at)) ∙ u);
  missing = λ l. absurd (unknown_held types levels id u l);
}

-- It is named, with its index.
pub unknown_named : (types : List «Type») (levels : ℕ) (id : TypeId) (index left : ℕ) (s last : State) (k : DecodeError)
    (old mid new : Option UnreadValue) → old ≡ None → IsMarked id left old mid → IsStepped index mid new
    → left ≡ length s.rest → Exact (Reads s.rule (any None) s.depth s.closing) s.rest (refusal k.kind)
    → shape_of_type types levels id.0 ≡ unknown → (Ended s.closing s.rest → ⊥) → errors_of (BorrowsOpenType eoc) s k last
    → (g : UnreadValue) × (new ≡ Some g) × IsFaultIn types levels (IsOnly index id.0 s) s s k g
unknown_named types levels id index left s last k old mid new none m step l x u more h =
    let refused = subst (λ z. Exact (Reads s.rule z s.depth s.closing) s.rest (refusal k.kind)) (sym u)
    (none_of_many s.rule s.depth s.closing s.rest k.kind more x) in
    let one = marked types levels id left s k old mid (λ f e. absurd (not_named old f e none)) m l refused
    (λ z. unknown_fails types levels id.0 s last k more h u) in
    stepped types levels id.0 index s k mid new one step

-- ---- a refusal

pub fault_short : (types : List «Type») (levels id : ℕ) (s : State) (k : DecodeError) (f : UnreadValue) → IsFault types levels id s k f → f.left ≤ length s.rest
fault_short types levels id s k f i = within_short s.rest i.last.rest f.left i.within

pub located : (types : List «Type») (rule : Codec) (id : ℕ) (input : List ℕ) (e : DecodeError) (t : Option UnreadValue) (len : ℕ) → len ≡ length input → (r : Refusal)
    → (f : UnreadValue) × (t ≡ Some f) × IsFault types 18446744073709551615 id (start rule input) e f → IsRefusalOf e t len r → IsLocated types rule id input r
located types rule id input e t len m r (f, q, i) h =
    let w : IsRefusalOf e (Some f) len r = subst (λ z. IsRefusalOf e z len r) q h in
    let x = i.within in
    let l : length input ≡ length x.0 + length (i.last.rest ++ x.1) = ap length x.2 ∙ length-append x.0 (i.last.rest ++ x.1) in
    record {
      path = i.path;
      below = i.below;
      last = i.last;
      front = x.0;
      back = x.1;
      is = x.2;
      offset = omega (arith, l, x.3, m, w.1);
      has_path = λ cut. w.4 ∙ i.has_path (sym w.3 ∙ cut);
      leads = subst (λ (z : TypeId). LeadsToAny types i.path 18446744073709551615 id (start rule input) i.below z.0 i.last) (sym w.2) i.leads;
      refused = subst (λ (z : DecodeError). Exact (Reads i.last.rule (shape_of_type types i.below r.id.0) i.last.depth i.last.closing) i.last.rest (refusal z.kind)) (sym w.0)
          (subst (λ (z : TypeId). Exact (Reads i.last.rule (shape_of_type types i.below z.0) i.last.depth i.last.closing) i.last.rest (refusal e.kind)) (sym w.2) i.refused);
      itself = subst (λ (z : DecodeError). FailsAt types i.below r.id.0 i.last z) (sym w.0) (subst (λ (z : TypeId). FailsAt types i.below z.0 i.last e) (sym w.2) i.itself);
    }

-- ---- a value that fails itself

-- What is read inside is read in each way that this implies, where a value is read.
pub got_inside : (read other : Call Tree) → ((o : State) (v : Tree) (n : State) → read o (Ok v) n → other o (Ok v) n) → (d : ConstructedHeader) (old : State) (v : Tree) (new : State)
    → DecodesInside read d old (Ok v) new → DecodesInside other d old (Ok v) new
got_inside read other g d old v new (k, f) = (k, record { header = f.header; opened = f.opened; left = f.left; call = g _ _ _ f.call; closed = f.closed })

pub if_err_map : {T : Type 0} (P Q : DecodeError → Type 0) → ((e : DecodeError) → P e → Q e) → (r : Result T DecodeError) → IfErr r P → IfErr r Q
if_err_map P Q h (Ok v) x = tt
if_err_map P Q h (Err e) x = h e x

-- Something is named, so it isn't so that nothing is.
pub named : {T : Type 0} (P : DecodeError → UnreadValue → Type 0) (Q : DecodeError → Type 0) (r : Result T DecodeError) (t : Option UnreadValue) → TellsOf P r t → IfErr r (λ e. t ≡ None → Q e)
named P Q (Ok v) t x = tt
named P Q (Err e) t (f, i, w) = λ n. cc

pub unmoved : (n : ℕ) (t u : Option UnreadValue) → IsMoved n t u → u ≡ None → t ≡ None
unmoved n None u m e = refl
unmoved n (Some f) u (g, i, a, b, c, d) e = cc

pub any_err : {T : Type 0} (P : DecodeError → Type 0) → ((e : DecodeError) → P e) → (r : Result T DecodeError) → IfErr r P
any_err P h (Ok v) = tt
any_err P h (Err e) = h e

pub at_err : {T : Type 0} (X : Type 0) (R : Result T DecodeError → Type 0) (r : Result T DecodeError) → R r → IfErr r (λ e. X → R (Err e))
at_err X R (Ok v) h = tt
at_err X R (Err e) h = λ x. h

pub fails_found : (types : List «Type») (levels id n : ℕ) (ty : «Type») (s : State) (e : DecodeError) → levels ≡ suc n → slice_get types id ≡ Some ty → FailsItself (shape_of_type types n) ty s e → FailsAt types levels id s e
fails_found types levels id n ty s e l g h = record { fails = same; missing = none }
  where
    same : (m : ℕ) (u : «Type») → levels ≡ suc m → slice_get types id ≡ Some u → FailsItself (shape_of_type types m) u s e
    same m u k j =
        let a : n ≡ m = omega (arith, l, k) in
        let b : ty ≡ u = cc in
        subst (λ z. FailsItself (shape_of_type types z) u s e) a (subst (λ z. FailsItself (shape_of_type types n) z s e) b h)

    none : LacksType types levels id → IsErrorOf UnexpectedEmptyInput s e
    none (inl z) = absurd (omega (arith, l, z))
    none (inr m) = cc

-- There is no such type.
pub fails_missing : (types : List «Type») (levels id : ℕ) (s : State) (e : DecodeError) → LacksType types levels id → IsErrorOf UnexpectedEmptyInput s e → FailsAt types levels id s e
fails_missing types levels id s e lacks w = record { fails = none lacks; missing = λ l. w }
  where
    none : LacksType types levels id → (n : ℕ) (ty : «Type») → levels ≡ suc n → slice_get types id ≡ Some ty → FailsItself (shape_of_type types n) ty s e
    none (inl z) n ty l g = absurd (omega (arith, l, z))
    none (inr m) n ty l g = absurd cc

pub found_itself : {T : Type 0} (types : List «Type») (levels id n : ℕ) (ty : «Type») (s : State) (X : Type 0) → levels ≡ suc n → slice_get types id ≡ Some ty → (r : Result T DecodeError)
    → IfErr r (λ e. X → FailsItself (shape_of_type types n) ty s e) → IfErr r (λ e. X → FailsAt types levels id s e)
found_itself types levels id n ty s X l g r h = if_err_map (λ e. X → FailsItself (shape_of_type types n) ty s e) (λ e. X → FailsAt types levels id s e) (λ e a x. fails_found types levels id n ty s e l g (a x)) r h

-- A value of a CHOICE.
pub itself_choice : (f : ℕ → Shape) (ty : «Type») (old : State) (X : Type 0) (name : String Global) (ks : Vec Alternative Global) (text : List ℕ) (l : List Alternative) → ty ≡ Choice name ks → text ≡ string_bytes name → l ≡ ks.items
    → (r : Result Value DecodeError) → IfErr r (λ e. X → StopsAtChoice f text l old e) → IfErr r (λ e. X → FailsItself f ty old e)
itself_choice f ty old X name ks text l i n j r h = if_err_map (λ e. X → StopsAtChoice f text l old e) (λ e. X → FailsItself f ty old e)
    (λ e a x. subst (λ z. FailsItself f z old e) (sym i) (subst (λ t. StopsAtChoice f t ks.items old e) n (subst (λ z. StopsAtChoice f text z old e) j (a x)))) r h

pub present_stops : (f : ℕ → Shape) (p : Component) (s : State) (X : Type 0) (r : Result Value DecodeError) → IfErr r (λ e. X → IsDefaultWritten f p s e) → IfErr r (λ e. X → StopsAtComponent f p s e)
present_stops f p s X r h = if_err_map (λ e. X → IsDefaultWritten f p s e) (λ e. X → StopsAtComponent f p s e) (λ e a x. inr (inl (a x))) r h

out_of_memory_told : (s : State) (x : DecodeError) → IsErrorOf OutOfMemory s x → IsOutOfMemory x.kind
out_of_memory_told s x w = subst (λ (z : DecodeError). IsOutOfMemory z.kind) (sym w) refl

-- The number of octets that are left is reported by the rules of the state before.
pub taken_none : (old new : State) (e : DecodeError) → Keeps old new → (left : ℕ) → left ≡ length old.rest → IsErrorOf (UnexpectedExtraData left) new e → IsErrorOf (UnexpectedExtraData (length old.rest)) old e
taken_none old new e k left l w = subst (λ n. IsErrorOf (UnexpectedExtraData n) old e) l (rules_same old new (UnexpectedExtraData left) e k w)

module _ (f : ℕ → Shape) (id : ℕ) (old here new : State) (t : Tree) (k : DecodesTree (f id) here (Ok t) new) (left : ℕ) (l : left ≡ length here.rest) (e : DecodeError)
    (w : ((length new.rest ≡ left) × IsErrorOf (UnexpectedExtraData left) new e) ⊎ IsErrorOf OutOfMemory new e) where
  kept_not : TakesNothing f id here e ⊎ IsOutOfMemory e.kind
  kept_not = elim w [
    | inl p ↦ inl (t, new, k, p.0 ∙ l, taken_none here new e (call_keeps k) left l p.1)
    | inr m ↦ inr (out_of_memory_told new e m)
  ]

  pub element_stops : (ts : List Tree) → DecodesInTurn (DecodesTree (f id)) old ts here → StopsInElements f id old e
  element_stops ts p = elim kept_not [
    | inl n ↦ inr (ts, here, p, n)
    | inr m ↦ inl m
  ]

  pub set_element_stops : (ts : List Tree) (bs : List (List ℕ)) → DecodesInTurnFrom (DecodesTree (f id)) old ts bs here → StopsInOrder f id old e
  set_element_stops ts bs p = elim kept_not [
    | inl n ↦ inr (ts, bs, here, p, inl n)
    | inr m ↦ inl m
  ]

pub default_stops : (f : ℕ → Shape) (p : Component) (d : Value) → p.presence ≡ Default d → (old new : State) (t : Tree) → DecodesTree (f p.type_id.0) old (Ok t) new → IsStrict old.rule → Same t (tree_of d)
    → (x : DecodeError) → IsErrorOf (Der DefaultValuePresent) new x → IsDefaultWritten f p old x
default_stops f p d e old new t k st n x w =
    let a = call_keeps k in
    (t, new, k, st, subst (λ z. IsDefaultOf (presence_of z) t) (sym e) n, rules_same old new (Der DefaultValuePresent) x a w)

pub unmade_stops : (keep : Bool) (f : ℕ → Shape) (p : Component) (s : State) (X : Type 0) (r : Result Value DecodeError) → IsMade keep (presence_of p.presence) s r → IfErr r (λ e. X → StopsAtComponent f p s e)
unmade_stops keep f p s X (Ok v) m = tt
unmade_stops keep f p s X (Err e) m = λ x. inr (inr (out_of_memory_told s e m.1))

pub only_memory : (f : ℕ → Shape) (ps : List Component) (s : State) (X : Type 0) (r : Result (Vec Value Global) DecodeError) → IfErr r (λ e. IsOutOfMemory e.kind) → IfErr r (λ e. X → StopsInSequence f ps s e)
only_memory f ps s X r h = if_err_map (λ e. IsOutOfMemory e.kind) (λ e. X → StopsInSequence f ps s e) (λ e m x. inl m) r h
