-- A value that holds others is refused in one way if its contents are.
use Rattle.std.proofs.Common.{◌≡◌, ℕ, List, Ok, Err, sym, ap, ◌∙◌, subst}
use Rattle.rasn_types.specs.declared.types.tag.Tag.{Tag}
use Rattle.rasn_types.specs.declared.error.decode.DecodeError.{DecodeError}
use Rattle.rasn_types.specs.Errors.{IsOutOfMemory}
use Rattle.rasn_types.specs.Tags.{form}
use Rattle.rasn_types.specs.Framing.{AreOctets}
use Rattle.rasn_types.specs.Shapes.{Tree, Shape, prefix}
use Rattle.rasn_de.specs.declared.ber.de.parser.ParseError.{ParseError}
use Rattle.rasn_de.specs.declared.ber.de.constructed.ConstructedHeader.{ConstructedHeader}
use Rattle.rasn_de.specs.Headers.{Header}
use Rattle.rasn_de.specs.Segments.{octets_inside}
use Rattle.rasn_de.specs.State.{State, Call, at}
use Rattle.rasn_de.specs.Constructed.{prefix_header, expected_header, constructed_header_at, contents_state, unclosed, FailsInside, no_value, inside, not_closed, FinishesInside, DecodesInside}
use Rattle.rasn_de.specs.ValueErrors.{Errors, errors_of, DecodesOr}
use Rattle.rasn_de.specs.Prefix.{DecodesPrefixBy}
use Rattle.rasn_de.proofs.Headers.Frames.{header_parsed}
use Rattle.rasn_de.proofs.Strings.Reads.{frame_octets}
use Rattle.rasn_de.proofs.Constructed.Contents.{constructed_header_parsed}
use Rattle.rasn_de.proofs.Constructed.ValueErrors.{prefix_or}
use Rattle.rasn.specs.OneRefusal.{Refuses, IsSameError, ReadingBy, ReadsShape, IsRefusedOnce, AreApart, IsDetermined}
use Rattle.rasn.proofs.OneRefusal.Calls.{same_fault, exactly_apart, IsExactCall, one_value, exactly_determined}

-- The octets inside are octets.
inner : (d : ConstructedHeader) (old : State) → AreOctets old.rest → (h : Header) → constructed_header_at d old.rule old.depth old.rest ≡ Ok h → AreOctets (octets_inside h.extent h.rest)
inner d old o h e =
    let p = constructed_header_parsed d old.rule old.depth old.rest h e in
    (frame_octets old.rest o (header_parsed (form old.rule) (expected_header d old.rule) old.rest h o p.1).0).1

module _ {D : Type 0} (read : Call D) (one : IsDetermined read) (d : ConstructedHeader) where
  module _ (old : State) (o : AreOctets old.rest) where
    same_left : (h i : Header) → constructed_header_at d old.rule old.depth old.rest ≡ Ok i → h ≡ i → (v w : D) (left other : State) → read (contents_state d old h) (Ok v) left → read (contents_state d old i) (Ok w) other → left ≡ other
    same_left h i e p v w left other a b = one.left (contents_state d old i) (inner d old o i e) v w left other (subst (λ z. read (contents_state d old z) (Ok v) left) p a) b

    never_both : (h i : Header) → constructed_header_at d old.rule old.depth old.rest ≡ Ok i → h ≡ i → (v : D) (e : DecodeError) (left other : State) → (IsOutOfMemory e.kind → ⊥)
        → read (contents_state d old h) (Ok v) left → read (contents_state d old i) (Err e) other → ⊥
    never_both h i k p v e left other n a b = one.unrefused (contents_state d old i) (inner d old o i k) v e left other (subst (λ z. read (contents_state d old z) (Ok v) left) p a) (b, n)

    -- It isn't read and refused.
    inside_refused : (v : D) (e : DecodeError) (rest other : List ℕ) → (IsOutOfMemory e.kind → ⊥) → FinishesInside read d old v rest → FailsInside read d old e other → ⊥
    inside_refused v e rest other n g (no_value x p a) = let q = g.opened in cc
    inside_refused v e rest other n g (inside h p left a r) = let q = g.opened in let z : g.header ≡ h = cc in never_both g.header h p z v e g.left left n g.call a
    inside_refused v e rest other n g (not_closed h p w left a x q c r) =
        let s = g.opened in
        let z : g.header ≡ h = cc in
        let y = same_left g.header h p z v w g.left left g.call a in
        let t = g.closed in
        cc

    inside_rest : (v w : D) (rest other : List ℕ) → FinishesInside read d old v rest → FinishesInside read d old w other → rest ≡ other
    inside_rest v w rest other g h =
        let p = g.opened in
        let q = h.opened in
        let z : g.header ≡ h.header = cc in
        let l = same_left g.header h.header q z v w g.left h.left g.call h.call in
        let s = g.closed in
        let t = h.closed in
        cc

    inside_one : (e f : DecodeError) (rest other : List ℕ) → (IsOutOfMemory e.kind → ⊥) → (IsOutOfMemory f.kind → ⊥) → FailsInside read d old e rest → FailsInside read d old f other → IsSameError e f × (rest ≡ other)
    inside_one e f rest other m n (no_value x p a) (no_value y q b) =
        let z : (x, rest) ≡ (y, other) = cc in (same_fault (ap (λ (i : ParseError × List ℕ). i.0) z) a b, ap (λ (i : ParseError × List ℕ). i.1) z)
    inside_one e f rest other m n (no_value x p a) (inside i q right b s) = cc
    inside_one e f rest other m n (no_value x p a) (not_closed i q w right b y u c s) = cc
    inside_one e f rest other m n (inside h p left a r) (no_value y q b) = cc
    inside_one e f rest other m n (not_closed h p v left a x t c r) (no_value y q b) = cc
    inside_one e f rest other m n (inside h p left a r) (inside i q right b s) =
        let z : h ≡ i = cc in
        let k = one.once (contents_state d old i) (inner d old o i q) e f left right (subst (λ y. read (contents_state d old y) (Err e) left) z a, m) (b, n) in
        (k.0, r ∙ (ap (λ (y : Header). y.rest) z ∙ sym s))
    inside_one e f rest other m n (inside h p left a r) (not_closed i q w right b y u c s) =
        let z : i ≡ h = cc in absurd (never_both i h p z w e right left m b a)
    inside_one e f rest other m n (not_closed h p v left a x t c r) (inside i q right b s) =
        let z : h ≡ i = cc in absurd (never_both h i q z v f left right n a b)
    inside_one e f rest other m n (not_closed h p v left a x t c r) (not_closed i q w right b y u k s) =
        let z : h ≡ i = cc in
        let l = same_left h i q z v w left right a b in
        let g : x ≡ y = cc in
        (same_fault g c k, r ∙ (ap (λ (j : Header). unclosed j.extent j.rest left.rest) z ∙ (ap (λ (j : State). unclosed i.extent i.rest j.rest) l ∙ sym s)))

  pub inside_determined : IsDetermined (DecodesInside read d)
  inside_determined = record { unrefused = refused; left = left; once = once }
    where
      refused : (old : State) → AreOctets old.rest → (v : D) (e : DecodeError) (new other : State) → DecodesInside read d old (Ok v) new → Refuses (errors_of (DecodesInside read d)) old e other → ⊥
      refused old o v e new other (k, a) ((l, b), n) = inside_refused old o v e new.rest other.rest n a b

      left : (old : State) → AreOctets old.rest → (v w : D) (new other : State) → DecodesInside read d old (Ok v) new → DecodesInside read d old (Ok w) other → new ≡ other
      left old o v w new other (k, a) (l, b) = k.stays ∙ (ap (at old) (inside_rest old o v w new.rest other.rest a b) ∙ sym l.stays)

      once : IsRefusedOnce (errors_of (DecodesInside read d))
      once old o e f new other ((k, a), m) ((l, b), n) =
          let p = inside_one old o e f new.rest other.rest m n a b in (p.0, k.stays ∙ (ap (at old) p.1 ∙ sym l.stays))

-- Whatever is read inside, one tree is.
pub inside_tree : {D : Type 0} (read : Call D) (reads : ReadingBy) (tree : D → Tree) → IsExactCall read reads tree → (d : ConstructedHeader) (old : State) → AreOctets old.rest → (v w : D) (new other : State)
    → DecodesInside read d old (Ok v) new → DecodesInside read d old (Ok w) other → tree v ≡ tree w
inside_tree read reads tree exact d old o v w new other (k, g) (l, h) =
    let p = g.opened in
    let q = h.opened in
    let z : g.header ≡ h.header = cc in
    (one_value read reads tree exact (contents_state d old h.header) (inner d old o h.header q) v w g.left h.left (subst (λ y. read (contents_state d old y) (Ok v) g.left) z g.call) h.call).0

-- A value of a shape, with its errors.
module _ {D : Type 0} (s : Shape) (tree : D → Tree) (errors : Errors) where
  pub or_exact : IsExactCall (DecodesOr s tree errors) (ReadsShape s) tree
  or_exact old o r new a = a.0

  pub or_once : IsRefusedOnce errors → IsRefusedOnce (errors_of (DecodesOr s tree errors))
  or_once once old o e f new other (a, m) (b, n) = once old o e f new other (a.1, m) (b.1, n)

  -- An explicit tag.
  pub prefix_exact : (tag : Tag) → IsExactCall (DecodesPrefixBy s tree errors tag) (ReadsShape (prefix tag s)) tree
  prefix_exact tag old o r new a = prefix_or s tree errors tag old (λ _. o) r new a

  pub prefix_once : IsRefusedOnce errors → (tag : Tag) → IsRefusedOnce (errors_of (DecodesPrefixBy s tree errors tag))
  prefix_once once tag = (inside_determined (DecodesOr s tree errors) (exactly_determined (DecodesOr s tree errors) (ReadsShape s) tree or_exact (or_once once)) (prefix_header tag)).once

  pub prefix_apart : IsRefusedOnce errors → (tag : Tag) → AreApart (errors_of (DecodesPrefixBy s tree errors tag)) (ReadsShape (prefix tag s))
  prefix_apart once tag = exactly_apart _ (ReadsShape (prefix tag s)) (λ old o e new a. prefix_exact tag old o (Err e) new a) (prefix_once once tag)
