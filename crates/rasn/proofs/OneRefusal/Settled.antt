-- Values that hold others are decoded or refused if those are.
use Rattle.std.proofs.Common.{◌≡◌, ◌≢◌, ℕ, ◌<◌, ◌≤◌, ◌^◌, inl, inr, Bool, true, false, ◌&&◌, not, List, ◌∷◌, ◌++◌, length, Option, Some, None, Result, Ok, Err, refl, sym, ap, subst, arith, length-append}
use Rattle.std.specs.Prelude.{nat_eq, IfOk}
use Rattle.rasn_types.specs.declared.types.codec.Codec.{Codec}
use Rattle.rasn_types.specs.declared.types.tag.Tag.{Tag}
use Rattle.rasn_types.specs.declared.error.decode.DecodeError.{DecodeError}
use Rattle.rasn_types.specs.Errors.{IsOutOfMemory}
use Rattle.rasn_types.specs.Tags.{Form, form}
use Rattle.rasn_types.specs.Framing.{AreOctets, Extent, definite, indefinite, Frame, with_length, without_length, NextTag}
use Rattle.rasn_types.specs.Shapes.{Tree, Shape, prefix, option, own, looked_for, Key, own_tag, Sought, one_tag, any_of, sought_by, done, joined, seq, Parts, part, Presence, required, addition, optional, optional_choice, default, default_by, IsFirst}
use Rattle.rasn_types.specs.Shapes.Parts.{none}
use Rattle.rasn_types.specs.Trees.{option_tree}
use Rattle.rasn_de.specs.declared.ber.de.parser.ParseError.{ParseError}
use Rattle.rasn_de.specs.declared.ber.de.parser.ParseError.TheVariants as parse
use Rattle.rasn_de.specs.declared.ber.de.constructed.ConstructedHeader.{ConstructedHeader}
use Rattle.rasn_de.specs.Causes.{error_kind}
use Rattle.rasn_de.specs.Headers.{Header, header_at, Identified, identifier_at}
use Rattle.rasn_de.specs.Segments.{octets_inside, end_at}
use Rattle.rasn_de.specs.State.{State, Call, at, IsEnd}
use Rattle.rasn_de.specs.Outcomes.{Got}
use Rattle.rasn_de.specs.Decodes.{DecodesExactly, ReadsParts}
use Rattle.rasn_de.specs.Constructed.{expected_header, through, constructed_header_at, contents_state, unclosed, Keeps, no_value, inside, not_closed, DecodesInside, sequence_header, prefix_header}
use Rattle.rasn_types.specs.declared.error.decode.DerDecodeErrorKind.TheVariants.{DefaultValuePresent}
use Rattle.std.specs.declared.alloc.AllocError.{AllocError}
use Rattle.rasn_de.specs.Optional.{OnePart, NextIs, DecodesIfSought, DecodesIfPresent, DecodesSoughtOrDefault, DecodesOrDefault, no_look, no_read, present}
use Rattle.rasn_de.specs.PartTypes.{needs_no_initializer, FailsAtOnePart, IsErrorOfParts, DecodesInParts, DecodesSequenceParts}
use Rattle.rasn_de.specs.Prefix.{DecodesPrefixBy}
use Rattle.rasn_de.specs.ValueErrors.{Errors, errors_of, DecodesOr}
use Rattle.rasn_de.proofs.Headers.Memory.{NoMemory, header_none, identifier_none}
use Rattle.rasn_de.proofs.Headers.NextTag.{next_parsed, kind_memory}
use Rattle.rasn_de.proofs.Headers.Ends.{IsEnd-refl, IsEnd-trans, IsEnd-header}
use Rattle.rasn_de.proofs.Headers.Frames.{header_parsed}
use Rattle.rasn_de.proofs.Headers.Results.{chosen}
use Rattle.rasn_de.proofs.Strings.Reads.{frame_octets}
use Rattle.rasn_de.proofs.Constructed.Contents.{constructed_header_parsed}
use Rattle.rasn_de.proofs.Constructed.Opening.{closed_end}
use Rattle.rasn_de.proofs.Constructed.Optional.{sought_default_decodes}
use Rattle.rasn_de.proofs.Constructed.ValueErrors.{perhaps_or, sought_or, sought_failed}
use Rattle.rasn_de.proofs.OwnTypes.Parts.{no_parts, part_got, optional_part, optional_fails, default_fails}
use Rattle.rasn.specs.OneRefusal.{ReadsShape, Refuses, Settles}
use Rattle.rasn.proofs.OneRefusal.Calls.{octets_end, IsExactCall, LeaveEnds, exactly_ends, or_settles}
use Rattle.rasn.proofs.OneRefusal.Inside.{or_exact, prefix_exact}
use Rattle.rasn.proofs.OneRefusal.Parts.{in_parts_exact, sequence_exact}
use Rattle.rasn.proofs.OneRefusal.Optional.{made_exact}
use Rattle.rasn.proofs.OneRefusal.Read.{end_none}

-- What remains is no longer.
pub ends_shorter : (l m : List ℕ) → IsEnd l m → length m ≤ length l
ends_shorter l m (front, e) = let a = ap length e in let b = length-append front m in omega arith

ends_below : (l m : List ℕ) → IsEnd l m → length l < 2 ^ 63 → length m < 2 ^ 63
ends_below l m e b = let a = ends_shorter l m e in omega arith

-- The contents of a value are in the input.
frame_inside : {spelling : Form} (input : List ℕ) {tag : Tag} {bit : Bool} {rest : List ℕ} {x : Extent} → Frame spelling input tag bit rest x → length (octets_inside x rest) ≤ length input
frame_inside input {rest = rest} (with_length id len contents p q r i) =
    let a = ap length i in
    let b = length-append id (len ++ (contents ++ rest)) in
    let c = length-append len (contents ++ rest) in
    let d = length-append contents rest in
    omega arith
frame_inside input {rest = rest} (without_length id p q r i) = let a = ap length i in let b = length-append id (128 ∷ rest) in omega arith

-- A header that isn't there.
through_fault : (needed : Bool) (l : List ℕ) (r : Result Header ParseError) → NoMemory r → ((h : Header) → r ≡ Ok h → IsEnd l h.rest) → (p : ParseError × List ℕ) → through needed l r ≡ Err p → (p.0 ≢ parse.OutOfMemory) × IsEnd l p.1
through_fault needed l (Err f) n i p e =
    let z : (f, l) ≡ p = cc in
    (subst (λ (x : ParseError × List ℕ). x.0 ≢ parse.OutOfMemory) z n, subst (λ (x : ParseError × List ℕ). IsEnd l x.1) z (IsEnd-refl l))
through_fault needed l (Ok h) n i p e = elim (chosen (needed && not h.bit) (Err (parse.InvalidConstructedIdentifier, h.rest)) (Ok h) (Err p) e) [ inl (t, q) ↦ refused q | inr (t, q) ↦ absurd (found q) ]
  where
    refused : ◌≡◌ {A = Result Header (ParseError × List ℕ)} (Err (parse.InvalidConstructedIdentifier, h.rest)) (Err p) → (p.0 ≢ parse.OutOfMemory) × IsEnd l p.1
    refused q = let z : (parse.InvalidConstructedIdentifier, h.rest) ≡ p = cc in
        (subst (λ (x : ParseError × List ℕ). x.0 ≢ parse.OutOfMemory) z (λ w. cc), subst (λ (x : ParseError × List ℕ). IsEnd l x.1) z (i h refl))

    found : ◌≡◌ {A = Result Header (ParseError × List ℕ)} (Ok h) (Err p) → ⊥
    found q = cc

header_fault : (d : ConstructedHeader) (rule : Codec) (depth : ℕ) (l : List ℕ) → AreOctets l → (p : ParseError × List ℕ) → constructed_header_at d rule depth l ≡ Err p → (p.0 ≢ parse.OutOfMemory) × IsEnd l p.1
header_fault d rule depth l o p e = elim (chosen (nat_eq depth 0) (Err (parse.ExceedsMaxParseDepth, l)) _ (Err p) e) [ inl (t, q) ↦ deep q | inr (t, q) ↦ through_fault d.must_be_constructed l (header_at (form rule) (expected_header d rule) l) (header_none _ (expected_header d rule) l) (λ h f. IsEnd-header (form rule) (expected_header d rule) l h o f) p q ]
  where
    deep : ◌≡◌ {A = Result Header (ParseError × List ℕ)} (Err (parse.ExceedsMaxParseDepth, l)) (Err p) → (p.0 ≢ parse.OutOfMemory) × IsEnd l p.1
    deep q = let z : (parse.ExceedsMaxParseDepth, l) ≡ p = cc in
        (subst (λ (x : ParseError × List ℕ). x.0 ≢ parse.OutOfMemory) z (λ w. cc), subst (λ (x : ParseError × List ℕ). IsEnd l x.1) z (IsEnd-refl l))

-- What is inside a value is decoded or refused.
module _ {D : Type 0} (read : Call D) (ends : LeaveEnds read) (all : Settles read) (d : ConstructedHeader) where
  pub inside_settles : Settles (DecodesInside read d)
  inside_settles old o b passed failed = go (constructed_header_at d old.rule old.depth old.rest) refl
    where
      kept : (rest : List ℕ) → IsEnd old.rest rest → Keeps old (at old rest)
      kept rest e = record { stays = refl; end = e }

      error : ParseError → DecodeError
      error f = record { kind = error_kind f; codec = old.rule }

      opened : (h : Header) → constructed_header_at d old.rule old.depth old.rest ≡ Ok h → ⊥
      opened h q =
          let e = (constructed_header_parsed d old.rule old.depth old.rest h q).1 in
          let f = (header_parsed (form old.rule) (expected_header d old.rule) old.rest h o e).0 in
          let s = IsEnd-header (form old.rule) (expected_header d old.rule) old.rest h o e in
          let w = frame_inside old.rest f in
          let octets = (frame_octets old.rest o f).1 in
          all (contents_state d old h) octets (omega (arith, w, b)) (λ v left r. closing v left r (ends (contents_state d old h) octets v left r) s (end_at h.extent h.rest left.rest) refl)
          (λ e left r. failed e (at old h.rest) ((kept h.rest s, inside h q left r.0 refl), r.1))
        where
          left_end : (x : Extent) (rest left : List ℕ) → IsEnd (octets_inside x rest) left → x ≡ indefinite → IsEnd rest left
          left_end (definite c) rest left e i = cc
          left_end indefinite rest left e i = e

          left_over : (x : Extent) (rest left : List ℕ) → IsEnd (octets_inside x rest) left → IsEnd rest (unclosed x rest left)
          left_over (definite c) rest left e = IsEnd-refl rest
          left_over indefinite rest left e = e

          closing : (v : D) (left : State) → read (contents_state d old h) (Ok v) left → IsEnd (octets_inside h.extent h.rest) left.rest → IsEnd old.rest h.rest → (r : Result (List ℕ) ParseError) → end_at h.extent h.rest left.rest ≡ r → ⊥
          closing v left r i s (Ok rest) e =
              passed v (at old rest)
              (kept rest (IsEnd-trans old.rest h.rest rest s (closed_end h.extent h.rest left.rest rest (left_end h.extent h.rest left.rest i) e)), record { header = h; opened = q; left = left; call = r; closed = e })
          closing v left r i s (Err f) e =
              let rest = unclosed h.extent h.rest left.rest in
              failed (error f) (at old rest)
              ((kept rest (IsEnd-trans old.rest h.rest rest s (left_over h.extent h.rest left.rest i)), not_closed h q v left r f e refl refl), kind_memory f (subst NoMemory e (end_none h.extent h.rest left.rest)))

      go : (r : Result Header (ParseError × List ℕ)) → constructed_header_at d old.rule old.depth old.rest ≡ r → ⊥
      go (Ok h) q = opened h q
      go (Err p) q = let n = header_fault d old.rule old.depth old.rest o p q in failed (error p.0) (at old p.1) ((kept p.1 n.1, no_value p.0 q refl), kind_memory p.0 n.0)

-- An explicit tag.
pub prefix_call_settles : {D : Type 0} (s : Shape) (tree : D → Tree) (errors : Errors) → Settles (DecodesOr s tree errors) → (tag : Tag) → Settles (DecodesPrefixBy s tree errors tag)
prefix_call_settles s tree errors all tag = inside_settles (DecodesOr s tree errors) (exactly_ends (DecodesOr s tree errors) (ReadsShape s) tree (or_exact s tree errors)) all (prefix_header tag)

pub prefix_settles : {D : Type 0} (s : Shape) (tree : D → Tree) (errors : Errors) → Settles (DecodesOr s tree errors) → (tag : Tag) → Settles (DecodesOr (prefix tag s) tree (errors_of (DecodesPrefixBy s tree errors tag)))
prefix_settles s tree errors all tag =
    or_settles (DecodesPrefixBy s tree errors tag) (prefix tag s) tree (prefix_exact s tree errors tag) (prefix_call_settles s tree errors all tag)

-- The next tag is one that is looked for, or not, or there is none.
next_or : (tags : Sought) (old : State) → AreOctets old.rest → (NextIs tags old (Ok true) → ⊥) → (NextIs tags old (Ok false) → ⊥) → ((e : DecodeError) → (IsOutOfMemory e.kind → ⊥) → NextIs tags old (Err e) → ⊥) → ⊥
next_or (one_tag None) old o there absent fails = there absent
next_or (one_tag (Some tag)) old o there absent fails = go (identifier_at (form old.rule) old.rest) refl
  where
    go : (r : Result Identified ParseError) → identifier_at (form old.rule) old.rest ≡ r → ⊥
    go (Ok i) q = let n = next_parsed (form old.rule) old.rest i o q in absent (inr (i.tag, n, λ e. there ((λ h. absent (inl h)), subst (NextTag (form old.rule) old.rest) e n)))
    go (Err f) q = fails (record { kind = error_kind f; codec = old.rule }) (kind_memory f (subst NoMemory q (identifier_none _ old.rest))) ((λ e. cc), (λ h. absent (inl h)), (f, rw q refl, refl))
next_or (any_of P) old o there absent fails = go (identifier_at (form old.rule) old.rest) refl
  where
    go : (r : Result Identified ParseError) → identifier_at (form old.rule) old.rest ≡ r → ⊥
    go (Ok i) q = let n = next_parsed (form old.rule) old.rest i o q in absent (inr (i.tag, n, λ p. there ((λ h. absent (inl h)), i.tag, n, p)))
    go (Err f) q = fails (record { kind = error_kind f; codec = old.rule }) (kind_memory f (subst NoMemory q (identifier_none _ old.rest))) (tt, (λ h. absent (inl h)), (f, rw q refl, refl))

pub sought_settles : {D : Type 0} (read : Call D) → Settles read → (tags : Sought) → Settles (DecodesIfSought read tags)
sought_settles read all tags old o b passed failed =
    next_or tags old o
    (λ t. all old o b (λ v new r. passed (Some v) new (t, r)) (λ e new r. failed e new (inr (t, r.0), r.1)))
    (λ t. passed None old (t, refl))
    (λ e n t. failed e old (inl (t, refl), n))

pub option_settles : {D : Type 0} (s : Shape) (tree : D → Tree) (errors : Errors) → Settles (DecodesOr s tree errors) → (tag : Tag) → Settles (DecodesOr (option (looked_for tag) s) (option_tree tree) (errors_of (DecodesIfPresent (DecodesOr s tree errors) tag)))
option_settles s tree errors all tag =
    or_settles (DecodesIfPresent (DecodesOr s tree errors) tag) (option (looked_for tag) s) (option_tree tree) (λ old o r new a. perhaps_or s tree errors tag old r new a)
    (sought_settles (DecodesOr s tree errors) all (one_tag (looked_for tag)))

-- Parts in order.
pub no_parts_settle : {D : Type 0} (v : D) (tree : D → Tree) → tree v ≡ done → Settles (DecodesInParts none tree (λ _ _ _. ⊥))
no_parts_settle v tree is old o b passed failed = passed v old (subst (λ t. DecodesExactly (ReadsParts none) old (Got t old.rest) old) (sym is) no_parts)

module _ {X R D : Type 0} (p : Presence) (s : Shape) (ps : Parts) (one : Call X) (first_tree : X → Tree) (first others : Errors) (rest_tree : R → Tree) (tree : D → Tree) (make : X → R → D)
    (is : (x : X) (r : R) → tree (make x r) ≡ joined (first_tree x) (rest_tree r))
    (got : (old : State) (x : X) (new : State) → AreOctets old.rest → one old (Ok x) new → DecodesExactly (OnePart p s) old (Got (first_tree x) new.rest) new)
    (fails : (old : State) (e : DecodeError) (new : State) → AreOctets old.rest → one old (Err e) new → FailsAtOnePart p s old e new × first old e new) where
  pub part_settles : Settles one → Settles (DecodesInParts ps rest_tree others) → Settles (DecodesInParts (part p s ps) tree (IsErrorOfParts p s first others))
  part_settles first_all rest_all old o b passed failed =
      first_all old o b
      (λ x here a.
      let g = got old x here o a in
      rest_all here (octets_end o g.end) (ends_below old.rest here.rest g.end b)
      (λ r new c. passed (make x r) new (subst (λ t. DecodesExactly (ReadsParts (part p s ps)) old (Got t new.rest) new) (sym (is x r)) (part_got p s ps g c)))
      (λ e new c. failed e new ((inr (first_tree x, here, g, c.0.0), inr (first_tree x, here, g, c.0.1)), c.1)))
      (λ e new a. let f = fails old e new o a.0 in failed e new ((inl f.0, inl f.1), a.1))

-- A SEQUENCE.
pub sequence_settles : {D : Type 0} (ps : Parts) (tree : D → Tree) (errors : Errors) → Settles (DecodesInParts ps tree errors) → needs_no_initializer ps ≡ true → (tag : Tag) → Settles (DecodesOr (seq tag ps) tree (errors_of (DecodesSequenceParts ps tree errors tag)))
sequence_settles ps tree errors all plain tag =
    or_settles (DecodesSequenceParts ps tree errors tag) (seq tag ps) tree (sequence_exact ps tree errors plain tag)
    (inside_settles (DecodesInParts ps tree errors) (exactly_ends (DecodesInParts ps tree errors) (ReadsParts ps) tree (λ old o r new a. in_parts_exact ps tree errors old r new a)) all (sequence_header tag))

-- A part that must be present, one that may be left out, and an addition.
module _ {A R D : Type 0} (s : Shape) (ps : Parts) (first others : Errors) (first_tree : A → Tree) (rest_tree : R → Tree) (rest_all : Settles (DecodesInParts ps rest_tree others)) (tree : D → Tree) where
  module _ (make : A → R → D) (is : (x : A) (r : R) → tree (make x r) ≡ joined (first_tree x) (rest_tree r)) (all : Settles (DecodesOr s first_tree first)) where
    pub required_settles : Settles (DecodesInParts (part required s ps) tree (IsErrorOfParts required s first others))
    required_settles =
        part_settles required s ps (DecodesOr s first_tree first) first_tree first others rest_tree tree make is
        (λ old x new o a. record { stays = a.0.stays; end = a.0.end; exact = a.0.exact }) (λ old e new o a. (record { stays = a.0.stays; end = a.0.end; exact = a.0.exact }, a.1)) all rest_all

    pub addition_settles : Settles (DecodesInParts (part addition s ps) tree (IsErrorOfParts addition s first others))
    addition_settles =
        part_settles addition s ps (DecodesOr s first_tree first) first_tree first others rest_tree tree make is
        (λ old x new o a. record { stays = a.0.stays; end = a.0.end; exact = a.0.exact }) (λ old e new o a. (record { stays = a.0.stays; end = a.0.end; exact = a.0.exact }, a.1)) all rest_all

  pub optional_settles : (make : Option A → R → D) → ((x : Option A) (r : R) → tree (make x r) ≡ joined (option_tree first_tree x) (rest_tree r)) → (tag : Tag) → own s ≡ looked_for tag → Settles (DecodesOr s first_tree first)
      → Settles (DecodesInParts (part optional s ps) tree (IsErrorOfParts optional s (errors_of (DecodesIfPresent (DecodesOr s first_tree first) tag)) others))
  optional_settles make is tag own_is all =
      part_settles optional s ps (DecodesIfPresent (DecodesOr s first_tree first) tag) (option_tree first_tree) (errors_of (DecodesIfPresent (DecodesOr s first_tree first) tag)) others rest_tree tree make is
      (λ old x new o a. optional_part s own_is (perhaps_or s first_tree first tag old (Ok x) new a))
      (λ old e new o a. (optional_fails s own_is (sought_failed s first_tree first (one_tag (looked_for tag)) old e new a), a)) (sought_settles (DecodesOr s first_tree first) all (one_tag (looked_for tag))) rest_all

-- A CHOICE that may be left out.
pub optional_choice_settles : {A R D : Type 0} (s : Shape) (ps : Parts) (first others : Errors) (first_tree : A → Tree) (rest_tree : R → Tree) → Settles (DecodesInParts ps rest_tree others) → (tree : D → Tree) (make : Option A → R → D)
    → ((x : Option A) (r : R) → tree (make x r) ≡ joined (option_tree first_tree x) (rest_tree r)) → Settles (DecodesOr s first_tree first)
    → Settles (DecodesInParts (part optional_choice s ps) tree (IsErrorOfParts optional_choice s (errors_of (DecodesIfSought (DecodesOr s first_tree first) (any_of (IsFirst s)))) others))
optional_choice_settles s ps first others first_tree rest_tree rest_all tree make is all =
    part_settles optional_choice s ps (DecodesIfSought (DecodesOr s first_tree first) (any_of (IsFirst s))) (option_tree first_tree) (errors_of (DecodesIfSought (DecodesOr s first_tree first) (any_of (IsFirst s)))) others rest_tree tree make is
    (λ old x new o a. sought_or s first_tree first (any_of (IsFirst s)) old (Ok x) new a)
    (λ old e new o a. (sought_failed s first_tree first (any_of (IsFirst s)) old e new a, a)) (sought_settles (DecodesOr s first_tree first) all (any_of (IsFirst s))) rest_all

-- A value that has a default is present, and isn't left out.
pub present_settles : {D : Type 0} (read : Call D) (tree : D → Tree) (made : Result D AllocError → Type 0) → Settles read → (d : D) → made (Ok d) → (tags : Sought) (old : State) → AreOctets old.rest → length old.rest < 2 ^ 63 → NextIs tags old (Ok true)
    → ((v : D) (new : State) → DecodesSoughtOrDefault read tree made tags old (Ok v) new → ⊥) → ((e : DecodeError) (new : State) → Refuses (errors_of (DecodesSoughtOrDefault read tree made tags)) old e new → ⊥) → ⊥
present_settles read tree made all d m tags old o b t passed failed =
    all old o b
    (λ v new r. passed v new (inr (t, r, λ strict. (d, m, λ same. failed (record { kind = error_kind (parse.Der DefaultValuePresent); codec = old.rule }) new (present t v r strict d m same refl, λ w. cc)))))
    (λ e new r. failed e new (no_read t r.0, r.1))

-- A value that has a default, if there is such a value.
sought_default_settles : {D : Type 0} (read : Call D) (tree : D → Tree) (made : Result D AllocError → Type 0) → Settles read → (d : D) → made (Ok d) → (tags : Sought) → Settles (DecodesSoughtOrDefault read tree made tags)
sought_default_settles read tree made all d m tags old o b passed failed =
    next_or tags old o
    (λ t. present_settles read tree made all d m tags old o b t passed failed)
    (λ t. passed d old (inl (t, m, refl)))
    (λ e n t. failed e old (no_look t refl, n))

module _ {A R D : Type 0} (read : Call A) (s : Shape) (first_tree : A → Tree) (exact : IsExactCall read (ReadsShape s) first_tree) (all : Settles read) (ps : Parts) (others : Errors) (rest_tree : R → Tree) (rest_all : Settles (DecodesInParts ps rest_tree others))
    (tree : D → Tree) (make : A → R → D) (is : (x : A) (r : R) → tree (make x r) ≡ joined (first_tree x) (rest_tree r)) (d : Tree) (v : A) (there : first_tree v ≡ d) where
  abbrev made : Result A AllocError → Type 0
  made m = IfOk m (λ x. first_tree x ≡ d)

  -- By the tags that it is recognized by.
  pub default_settles : (key : Key) → Settles (DecodesInParts (part (default_by key d) s ps) tree (IsErrorOfParts (default_by key d) s (errors_of (DecodesSoughtOrDefault read first_tree (λ m. IfOk m (λ x. first_tree x ≡ d)) (sought_by key s))) others))
  default_settles key =
      part_settles (default_by key d) s ps (DecodesSoughtOrDefault read first_tree made (sought_by key s)) first_tree (errors_of (DecodesSoughtOrDefault read first_tree made (sought_by key s))) others rest_tree tree make is
      (λ old x new o a. sought_default_decodes key s first_tree made (sought_by key s) old (Ok x) new (made_exact read s first_tree exact (sought_by key s) made old o (Ok x) new a) d (λ y q. q))
      (λ old e new o a. (default_fails s first_tree made d (sought_by key s) old new e (λ y q. q) (made_exact read s first_tree exact (sought_by key s) made old o (Err e) new a), a))
      (sought_default_settles read first_tree made all v there (sought_by key s)) rest_all

  -- By a tag, which is its own.
  pub own_default_settles : (tag : Tag) → own s ≡ looked_for tag → Settles (DecodesInParts (part (default d) s ps) tree (IsErrorOfParts (default d) s (errors_of (DecodesOrDefault read first_tree (λ m. IfOk m (λ x. first_tree x ≡ d)) tag)) others))
  own_default_settles tag own_is =
      subst (λ g. Settles (DecodesInParts (part (default d) s ps) tree (IsErrorOfParts (default d) s (errors_of (DecodesSoughtOrDefault read first_tree (λ m. IfOk m (λ x. first_tree x ≡ d)) (one_tag g))) others))) own_is (default_settles own_tag)
