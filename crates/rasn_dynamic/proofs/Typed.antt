-- What is read as rasn_de's calls read it is what the grammar relates.
use Rattle.std.proofs.Common.{◌≡◌, ◌≢◌, ℕ, suc, ◌-◌, ◌≤◌, inl, inr, Bool, List, [], ◌∷◌, length, map, Vec, Global, String, Result, Ok, Err, refl, sym, ap, ◌∙◌, subst}
use Rattle.rasn_types.specs.declared.types.tag.Tag.{Tag}
use Rattle.rasn_types.specs.declared.types.constraints.Constraints.{Constraints}
use Rattle.rasn_types.specs.declared.error.decode.DecodeError.{DecodeError}
use Rattle.rasn_types.specs.Framing.{AreOctets}
use Rattle.rasn_types.specs.Grammar.{Reads, ReadsList, ReadsSetOf}
use Rattle.rasn_types.specs.Shapes.{Tree, items, Shape, list, set_of, Admits, constraint_of}
use Rattle.rasn_de.specs.declared.ber.de.parser.ParseError.TheVariants.{SizeConstraintNotSatisfied}
use Rattle.rasn_de.specs.State.{State, at, IsEnd, Call}
use Rattle.rasn_de.specs.Steps.{IsErrorOf}
use Rattle.rasn_de.specs.Outcomes.{Got}
use Rattle.rasn_de.specs.Decodes.{Decodes, DecodesBy, DecodesExactly}
use Rattle.rasn_de.specs.declared.ber.de.constructed.ConstructedHeader.{ConstructedHeader}
use Rattle.rasn_de.specs.Constructed.{sequence_header, list_header, prefix_header, contents_state, DecodesInside}
use Rattle.rasn_de.specs.SequenceOf.{ReadsElements, ReadsSetElements, DecodesElements, DecodesElementsInOrder, DecodesSized}
use Rattle.rasn_de.proofs.Leaves.Outcomes.{alloc_failed}
use Rattle.rasn_de.specs.SetPartTypes.{DecodesSetPartContents}
use Rattle.rasn_de.proofs.Constructed.Steps.{rules_same, inside_by}
use Rattle.rasn_de.proofs.Constructed.SetOfElements.{each_decodes, in_order_decodes, each_leaves, in_order_leaves}
use Rattle.rasn_de.proofs.Constructed.SequenceOf.{sized}
use Rattle.rasn_schema.specs.declared.types.«Type».{«Type»}
use Rattle.rasn_schema.specs.declared.types.«Type».TheVariants.{Leaf, Enumerated, Any, Tagged, Choice, Sequence, Set, SequenceOf, SetOf, Unknown}
use Rattle.rasn_schema.specs.declared.type_id.TypeId.{TypeId}
use Rattle.rasn_schema.specs.declared.types.Component.{Component}
use Rattle.rasn_schema.specs.Shapes.{type_by, components_by, known_parts, set_among}
use Rattle.rasn_dynamic.specs.Inside.{ReadsInside, DecodesTree}
use Rattle.rasn_dynamic.specs.Making.{these}
use Rattle.rasn_dynamic.specs.Sets.{is_extensible, named_components}
use Rattle.rasn_dynamic.specs.Typed.{Makes, elements, element_count, IsSized, DecodesContents, DecodesType}
use Rattle.rasn_dynamic.specs.Calls.{names_of}
use Rattle.rasn_dynamic.proofs.Contents.{inside_prefix, inside_seq, inside_seq_got, inside_set}
use Rattle.rasn_dynamic.proofs.Inside.{inside_decodes}
use Rattle.rasn_dynamic.proofs.Named.{named_is}

-- ---- the number of elements

module _ (read : Call Tree) (tag : Tag) (c : Constraints) (d : ConstructedHeader) (i : d ≡ list_header tag) (old new : State) where
  listed : (r : Result Tree DecodeError) → DecodesInside read d old r new → DecodesInside read (list_header tag) old r new
  listed r k = subst (λ z. DecodesInside read z old r new) i k

  pub not_sized : (e : DecodeError) → DecodesInside read d old (Err e) new → DecodesSized read element_count tag c old (Err e) new
  not_sized e k = inl (listed (Err e) k)

  module _ (t : Tree) (k : DecodesInside read d old (Ok t) new) (n : ℕ) (g : n ≡ element_count t) where
    pub is_sized : Admits ◌≤◌ c.size n → DecodesSized read element_count tag c old (Ok t) new
    is_sized a = (subst (Admits ◌≤◌ c.size) g a, listed (Ok t) k)

    pub missized : (x : DecodeError) → IsSized c new n (Err x) → DecodesSized read element_count tag c old (Err x) new
    missized x (a, w) =
        inr (
          t,
          listed (Ok t) k,
          (λ b. a (subst (Admits ◌≤◌ c.size) (sym g) b)),
          rules_same old new (SizeConstraintNotSatisfied (element_count t) (constraint_of c.size)) x k.0 (subst (λ z. IsErrorOf (SizeConstraintNotSatisfied z (constraint_of c.size)) new x) g w),
        )

-- ---- lists

abbrev itself : Tree → Tree
itself t = t

map_itself : (ts : List Tree) → map itself ts ≡ ts
map_itself [] = refl
map_itself (t ∷ ts) = ap (λ l. t ∷ l) (map_itself ts)

pub count_items : (ts : List Tree) → element_count (items ts) ≡ length ts
count_items [] = refl
count_items (t ∷ ts) = ap suc (count_items ts)

module _ (s : Shape) where
  elements_read : (o : State) (r : Result Tree DecodeError) (n : State) → Makes items (DecodesElements (DecodesTree s) these) o r n → DecodesBy (ReadsElements s) itself o r n
  elements_read o (Ok t) n (ts, e, h) =
      subst (λ z. DecodesExactly (ReadsElements s) o (Got z n.rest) n) (ap items (map_itself ts) ∙ sym e) (each_decodes s itself these o (Ok ts) n h)
  elements_read o (Err x) n h = each_decodes s itself these o (Err x) n h

  set_elements_read : (o : State) (r : Result Tree DecodeError) (n : State) → Makes elements (DecodesElementsInOrder (DecodesTree s) these) o r n → DecodesBy (ReadsSetElements s) itself o r n
  set_elements_read o (Ok t) n (ts, e, h) =
      subst (λ z. DecodesExactly (ReadsSetElements s) o (Got z n.rest) n) (ap elements (map_itself ts) ∙ sym e) (in_order_decodes s itself these o (Ok ts) n h)
  set_elements_read o (Err x) n h = in_order_decodes s itself these o (Err x) n h

module _ (s : Shape) (tag : Tag) (c : Constraints) (old : State) (o : old.depth ≢ 0 → AreOctets old.rest) where
  pub list_decodes : (r : Result Tree DecodeError) (new : State) → DecodesSized (Makes items (DecodesElements (DecodesTree s) these)) element_count tag c old r new → DecodesTree (list tag s c.size) old r new
  unfolding Reads ReadsElements
  list_decodes r new k =
      let m = sized items (λ b. ReadsElements s old.rule (old.depth - 2) b) (λ b. ReadsList c.size (Reads old.rule s (old.depth - 2) b) b) c
      (λ b i t q a w. (w.0, w.1, a w.0 w.1, w.2)) (λ b i t q w. ((w.0, w.1, w.3), w.0, w.1, w.2)) itself element_count
      (λ t ts e. sym (ap element_count e ∙ count_items ts)) (Makes items (DecodesElements (DecodesTree s) these)) tag old o
      (λ h q left w. (elements_read s (contents_state (list_header tag) old h) q left w).exact) r new k in
      record { stays = m.0.stays; end = m.0.end; exact = m.1 }

  pub set_of_elements_decodes : (r : Result Tree DecodeError) (new : State) → DecodesSized (Makes elements (DecodesElementsInOrder (DecodesTree s) these)) element_count tag c old r new
      → DecodesTree (set_of tag s c.size) old r new
  unfolding Reads ReadsSetElements
  set_of_elements_decodes r new k =
      let m = sized elements (λ b. ReadsSetElements s old.rule (old.depth - 2) b) (λ b. ReadsSetOf old.rule c.size (Reads old.rule s (old.depth - 2) b) b) c
      (λ b i t q a w. (w.0, w.1, a w.0 w.1, w.2, w.3)) (λ b i t q w. ((w.0, w.1, w.3, w.4), w.0, w.1, w.2)) itself element_count
      (λ t ts e. sym (ap element_count e ∙ count_items ts)) (Makes elements (DecodesElementsInOrder (DecodesTree s) these)) tag old o
      (λ h q left w. (set_elements_read s (contents_state (list_header tag) old h) q left w).exact) r new k in
      record { stays = m.0.stays; end = m.0.end; exact = m.1 }

-- ---- contents

-- Of a SET, these are its named components, and there are unknown ones or not.
module _ (f : ℕ → Shape) (extensible : Bool) (qs : List Component) (ps : List Component) (marked : extensible ≡ is_extensible f ps) (same : qs ≡ named_components f ps) where
  pub named_so : (P : Bool → List Component → Type 0) → P extensible qs → P (is_extensible f ps) (named_components f ps)
  named_so P h = subst (λ l. P (is_extensible f ps) l) same (subst (λ b. P b qs) marked h)

-- A value of a type that holds others is one that the grammar relates.
module _ (f : ℕ → Shape) where
  prefix_contents : (tag : Tag) (k : TypeId) (o : State) (r : Result Tree DecodeError) (n : State) → DecodesContents f (Tagged tag k) o r n → DecodesBy (ReadsInside (type_by f (Tagged tag k))) itself o r n
  prefix_contents tag k o r n h = inside_prefix tag (f k.0) o n _ h

  sequence_contents : (tag : Tag) (ps : Vec Component Global) (o : State) (r : Result Tree DecodeError) (n : State) → DecodesContents f (Sequence tag ps) o r n → DecodesBy (ReadsInside (type_by f (Sequence tag ps))) itself o r n
  sequence_contents tag ps o (Ok t) n (ts, e, h) =
      subst (λ z. DecodesBy (ReadsInside (type_by f (Sequence tag ps))) itself o (Ok z) n) (sym e) (inside_seq_got tag (components_by f ps.items) o n ts h.0)
  sequence_contents tag ps o (Err e) n h = inside_seq tag (components_by f ps.items) o n e h.0

  set_inside : (tag : Tag) (ps : List Component) (o : State) (r : Result (List Tree) DecodeError) (n : State) → DecodesSetPartContents (is_extensible f ps) (components_by f (named_components f ps)) items (names_of (named_components f ps)) o r n
      → DecodesBy (ReadsInside (set_among tag (components_by f ps))) items o r n
  set_inside tag ps o r n h = inside_set (is_extensible f ps) tag (known_parts (components_by f ps)) (names_of (named_components f ps)) o n r
      (subst (λ z. DecodesSetPartContents (is_extensible f ps) z items (names_of (named_components f ps)) o r n) (named_is f ps) h)

  set_contents : (name : String Global) (tag : Tag) (ps : Vec Component Global) (o : State) (r : Result Tree DecodeError) (n : State) → DecodesContents f (Set name tag ps) o r n → DecodesBy (ReadsInside (type_by f (Set name tag ps))) itself o r n
  set_contents name tag ps o (Ok t) n (ts, e, h) = subst (λ z. DecodesBy (ReadsInside (type_by f (Set name tag ps))) itself o (Ok z) n) (sym e) (set_inside tag ps.items o (Ok ts) n h)
  set_contents name tag ps o (Err e) n (inl h) = set_inside tag ps.items o (Err e) n h
  set_contents name tag ps o (Err e) n (inr (m, k)) = alloc_failed (ReadsInside (type_by f (Set name tag ps))) itself o n e m k.stays k.end

  -- What is left of the contents ends them.
  pub contents_end : (ty : «Type») (o : State) (t : Tree) (n : State) → DecodesContents f ty o (Ok t) n → IsEnd o.rest n.rest
  contents_end (Leaf kind tag c names) o t n h = absurd h
  contents_end (Enumerated tag ns) o t n h = absurd h
  contents_end (Any tag) o t n h = absurd h
  contents_end Unknown o t n h = absurd h
  contents_end (Tagged tag k) o t n h = h.end
  contents_end (Choice name ks) o t n h = absurd h
  contents_end (Sequence tag ps) o t n h = (sequence_contents tag ps o (Ok t) n h).end
  contents_end (Set name tag ps) o t n h = (set_contents name tag ps o (Ok t) n h).end
  contents_end (SequenceOf tag k c) o t n (ts, e, h) = each_leaves (f k.0) itself these o (Ok ts) n h
  contents_end (SetOf tag k c) o t n (ts, e, h) = in_order_leaves (f k.0) itself these o (Ok ts) n h

  -- Only what is left of the contents changes.
  pub contents_stay : (ty : «Type») (o : State) (e : DecodeError) (n : State) → DecodesContents f ty o (Err e) n → n ≡ at o n.rest
  contents_stay (Leaf kind tag c names) o e n h = absurd h
  contents_stay (Enumerated tag ns) o e n h = absurd h
  contents_stay (Any tag) o e n h = absurd h
  contents_stay Unknown o e n h = absurd h
  contents_stay (Tagged tag k) o e n h = h.stays
  contents_stay (Choice name ks) o e n h = absurd h
  contents_stay (Sequence tag ps) o e n h = (sequence_contents tag ps o (Err e) n h).stays
  contents_stay (Set name tag ps) o e n h = (set_contents name tag ps o (Err e) n h).stays
  contents_stay (SequenceOf tag k c) o e n h = (each_decodes (f k.0) itself these o (Err e) n h).stays
  contents_stay (SetOf tag k c) o e n h = (in_order_decodes (f k.0) itself these o (Err e) n h).stays

  module _ (old : State) (o : old.depth ≢ 0 → AreOctets old.rest) (r : Result Tree DecodeError) (new : State) where
    prefixed : (tag : Tag) (k : TypeId) → DecodesType f (Tagged tag k) old r new → Decodes (type_by f (Tagged tag k)) itself old r new
    prefixed tag k h = inside_decodes old o r new (type_by f (Tagged tag k)) (prefix_header tag) refl (inside_by _ _ (prefix_header tag) old r new h (prefix_contents tag k))

    in_sequence : (tag : Tag) (ps : Vec Component Global) → DecodesType f (Sequence tag ps) old r new → Decodes (type_by f (Sequence tag ps)) itself old r new
    in_sequence tag ps h = inside_decodes old o r new (type_by f (Sequence tag ps)) (sequence_header tag) refl (inside_by _ _ (sequence_header tag) old r new h (sequence_contents tag ps))

    in_set : (name : String Global) (tag : Tag) (ps : Vec Component Global) → DecodesType f (Set name tag ps) old r new → Decodes (type_by f (Set name tag ps)) itself old r new
    in_set name tag ps h = inside_decodes old o r new (type_by f (Set name tag ps)) (sequence_header tag) refl (inside_by _ _ (sequence_header tag) old r new h (set_contents name tag ps))

    pub type_decodes : (ty : «Type») → DecodesType f ty old r new → Decodes (type_by f ty) itself old r new
    type_decodes (Leaf kind tag c names) h = h
    type_decodes (Enumerated tag ns) h = h
    type_decodes (Any tag) h = h
    type_decodes Unknown h = h
    type_decodes (Tagged tag k) h = prefixed tag k h
    type_decodes (Choice name ks) h = h.0
    type_decodes (Sequence tag ps) h = in_sequence tag ps h
    type_decodes (Set name tag ps) h = in_set name tag ps h
    type_decodes (SequenceOf tag k c) h = list_decodes (f k.0) tag c old o r new h
    type_decodes (SetOf tag k c) h = set_of_elements_decodes (f k.0) tag c old o r new h
