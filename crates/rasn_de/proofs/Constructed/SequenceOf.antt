-- A SEQUENCE OF or SET OF is read where its elements are, and their number is admitted.
use Rattle.std.proofs.Common.{◌≡◌, ◌≢◌, ℕ, ◌-◌, ◌≤◌, ◌<◌, inl, inr, Bool, true, false, List, [], ◌∷◌, length, map, Vec, vec_len, Global, Result, Ok, Err, sym, ap, ◌∙◌, subst}
use Rattle.std.proofs.lemmas.List.{length-map}
use Rattle.rasn_types.proofs.SetOf.Same.{items_one}
use Rattle.rasn_types.specs.declared.types.tag.Tag.{Tag}
use Rattle.rasn_types.specs.declared.types.codec.Codec.{Codec}
use Rattle.rasn_types.specs.declared.types.constraints.Constraints.{Constraints}
use Rattle.rasn_types.specs.declared.error.decode.DecodeError.{DecodeError}
use Rattle.rasn_types.specs.Framing.{AreOctets}
use Rattle.rasn_types.specs.Shapes.{Tree, Shape, items, set_elements, Admits}
use Rattle.rasn_types.specs.Readings.{Reading, ReadsContents, definite_form, indefinite_form}
use Rattle.rasn_types.specs.Grammar.{Reads, ReadsList, ReadsSetOf}
use Rattle.rasn_types.specs.Trees.{list_tree}
use Rattle.rasn_de.specs.Headers.{Header}
use Rattle.rasn_de.specs.Segments.{octets_inside}
use Rattle.rasn_de.specs.State.{State, Call}
use Rattle.rasn_de.specs.Outcomes.{Exact, outcome}
use Rattle.rasn_de.specs.Decodes.{Decodes}
use Rattle.rasn_de.specs.Constructed.{list_header, is_indefinite_extent, contents_state, Keeps}
use Rattle.rasn_de.specs.SequenceOf.{ReadsElements, ReadsSetElements, DecodesElements, DecodesElementsInOrder, DecodesInList, DecodesSized, DecodesSequenceOfBy, DecodesSetOfBy, DecodesSequenceOf, DecodesSetOf}
use Rattle.rasn_de.proofs.Leaves.Outcomes.{Exact-none, Exact-refusal}
use Rattle.rasn_de.proofs.Constructed.Reads.{Held, held_exact, kept, held_constructed, constructed_held}
use Rattle.rasn_de.proofs.Constructed.SetOfElements.{each_decodes, in_order_decodes}

-- the number of a list's elements is that of its tree
counted : {D : Type 0} (tree : D → Tree) (l : List D) (ts : List Tree) → list_tree tree l ≡ items ts → length ts ≡ length l
counted tree l ts e = sym (ap length (items_one (map tree l) ts e)) ∙ length-map l tree

-- Lists whose tree node makes of their elements', read as R says, and with their number admitted as Admitted says.
module _ (node : List Tree → Tree) (R Admitted : Bool → Reading Tree) (c : Constraints)
    (to : (k : Bool) (input : List ℕ) (t : Tree) (rest : List ℕ) → ((ts : List Tree) → t ≡ node ts → Admits ◌≤◌ c.size (length ts)) → R k input t rest → Admitted k input t rest)
    (from : (k : Bool) (input : List ℕ) (t : Tree) (rest : List ℕ) → Admitted k input t rest → R k input t rest × (ts : List Tree) × (t ≡ node ts) × Admits ◌≤◌ c.size (length ts)) where
  admit : (rule : Codec) (tag : Tag) (t : Tree) → ((ts : List Tree) → t ≡ node ts → Admits ◌≤◌ c.size (length ts)) → (input rest : List ℕ) → ReadsContents rule tag true R input t rest → ReadsContents rule tag true Admitted input t rest
  admit rule tag t a input rest (definite_form contents f r) = definite_form contents f (to false contents t [] a r)
  admit rule tag t a input rest (indefinite_form body f r) = indefinite_form body f (to true body t (0 ∷ 0 ∷ rest) a r)

  admitted : (rule : Codec) (tag : Tag) (t : Tree) (input rest : List ℕ) → ReadsContents rule tag true Admitted input t rest → ReadsContents rule tag true R input t rest × (ts : List Tree) × (t ≡ node ts) × Admits ◌≤◌ c.size (length ts)
  admitted rule tag t input rest (definite_form contents f r) = let w = from false contents t [] r in (definite_form contents f w.0, w.1, w.2, w.3)
  admitted rule tag t input rest (indefinite_form body f r) = let w = from true body t (0 ∷ 0 ∷ rest) r in (indefinite_form body f w.0, w.1, w.2, w.3)

  module _ {L : Type 0} (trees : L → Tree) (size : L → ℕ) (count : (v : L) (ts : List Tree) → trees v ≡ node ts → length ts ≡ size v) (read : Call L) (tag : Tag) (old : State) (o : old.depth ≢ 0 → AreOctets old.rest)
      (H : (h : Header) (r : Result L DecodeError) (left : State) → read (contents_state (list_header tag) old h) r left → Exact (R (is_indefinite_extent h.extent)) (octets_inside h.extent h.rest) (outcome trees r left.rest)) where
    abbrev pub Unsized : Reading Tree
    Unsized = Held (list_header tag) R old o

    abbrev pub Sized : Reading Tree
    Sized input t rest = (0 < old.depth) × ReadsContents old.rule tag true Admitted input t rest

    unsized_exact : (result : Result L DecodeError) (new : State) → DecodesInList read tag old result new → Exact Unsized old.rest (outcome trees result new.rest)
    unsized_exact result new k = held_exact (list_header tag) R old o trees read (λ h e r left w. inl (H h r left w)) result new k

    to_sized : (t : Tree) (rest : List ℕ) → ((ts : List Tree) → t ≡ node ts → Admits ◌≤◌ c.size (length ts)) → Unsized old.rest t rest → Sized old.rest t rest
    to_sized t rest a w = let u = held_constructed tag 2 R old o old.rest t rest w in (u.0, admit old.rule tag t a old.rest rest u.1)

    from_sized : (t : Tree) (rest : List ℕ) → Sized old.rest t rest → Unsized old.rest t rest
    from_sized t rest (n, i) = constructed_held tag 2 R old o old.rest t rest (n, (admitted old.rule tag t old.rest rest i).0)

    sized_keeps : (result : Result L DecodeError) (new : State) → DecodesSized read size tag c old result new → Keeps old new
    sized_keeps (Ok v) new (a, k) = kept read (list_header tag) old (Ok v) new k
    sized_keeps (Err e) new (inl k) = kept read (list_header tag) old (Err e) new k
    sized_keeps (Err e) new (inr (v, k, n, w)) = kept read (list_header tag) old (Ok v) new k

    sized_exact : (result : Result L DecodeError) (new : State) → DecodesSized read size tag c old result new → Exact Sized old.rest (outcome trees result new.rest)
    sized_exact (Ok v) new (a, k) =
        let x = unsized_exact (Ok v) new k in
        (to_sized (trees v) new.rest (λ ts e. subst (Admits ◌≤◌ c.size) (sym (count v ts e)) a) x.0, λ u r w. x.1 u r (from_sized u r w))
    sized_exact (Err e) new (inl k) = Exact-refusal e.kind Unsized Sized old.rest old.rest (λ none t r w. none t r (from_sized t r w)) (unsized_exact (Err e) new k)
    sized_exact (Err e) new (inr (v, k, n, w)) =
        let x = unsized_exact (Ok v) new k in
        Exact-none e.kind Sized old.rest (λ t r y.
        let a = admitted old.rule tag t old.rest r y.1 in
        let q = (x.1 t r (from_sized t r y)).0 in
        n (subst (Admits ◌≤◌ c.size) (count v a.1 (sym q ∙ a.2)) a.3))

    pub sized : (result : Result L DecodeError) (new : State) → DecodesSized read size tag c old result new → Keeps old new × Exact Sized old.rest (outcome trees result new.rest)
    sized result new k = (sized_keeps result new k, sized_exact result new k)

module _ {D : Type 0} (s : Shape) (tree : D → Tree) (tag : Tag) (c : Constraints) (old : State) (o : old.depth ≢ 0 → AreOctets old.rest) where
  -- the elements, without a bound and within it
  abbrev pub Items : Bool → Reading Tree
  Items k = ReadsElements s old.rule (old.depth - 2) k

  abbrev pub SizedItems : Bool → Reading Tree
  SizedItems k = ReadsList c.size (Reads old.rule s (old.depth - 2) k) k

  abbrev pub Walk : Bool → Reading Tree
  Walk k = ReadsSetElements s old.rule (old.depth - 2) k

  abbrev pub SizedWalk : Bool → Reading Tree
  SizedWalk k = ReadsSetOf old.rule c.size (Reads old.rule s (old.depth - 2) k) k

  abbrev pub node : List Tree → Tree
  node ts = set_elements (items ts)

  pub sequence_of_decodes : (result : Result (Vec D Global) DecodeError) (new : State) → DecodesSequenceOfBy (Decodes s tree) tag c old result new → DecodesSequenceOf s tree tag c old result new
  unfolding Reads ReadsElements
  sequence_of_decodes result new k =
      let trees : Vec D Global → Tree = λ v. list_tree tree v.items in
      let m = sized items Items SizedItems c (λ k i t r a w. (w.0, w.1, a w.0 w.1, w.2)) (λ k i t r w. ((w.0, w.1, w.3), w.0, w.1, w.2)) trees (λ (v : Vec D Global). vec_len v)
      (λ v ts e. counted tree v.items ts e ∙ sym v.ok.0) (DecodesElements (Decodes s tree) (λ (v : Vec D Global). v.items)) tag old o
      (λ h r left w. (each_decodes s tree (λ (v : Vec D Global). v.items) (contents_state (list_header tag) old h) r left w).exact) result new k in
      record { stays = m.0.stays; end = m.0.end; exact = m.1 }

  pub set_of_decodes : (result : Result (List D) DecodeError) (new : State) → DecodesSetOfBy (Decodes s tree) tag c old result new → DecodesSetOf s tree tag c old result new
  unfolding Reads ReadsSetElements
  set_of_decodes result new k =
      let trees : List D → Tree = λ v. set_elements (list_tree tree v) in
      let count : (v : List D) (ts : List Tree) → trees v ≡ node ts → length ts ≡ length v = λ v ts e. let f : list_tree tree v ≡ items ts = cc in counted tree v ts f in
      let m = sized node Walk SizedWalk c (λ k i t r a w. (w.0, w.1, a w.0 w.1, w.2, w.3)) (λ k i t r w. ((w.0, w.1, w.3, w.4), w.0, w.1, w.2)) trees (λ (v : List D). length v)
      count (DecodesElementsInOrder (Decodes s tree) (λ (v : List D). v)) tag old o
      (λ h r left w. (in_order_decodes s tree (λ (v : List D). v) (contents_state (list_header tag) old h) r left w).exact) result new k in
      record { stays = m.0.stays; end = m.0.end; exact = m.1 }
