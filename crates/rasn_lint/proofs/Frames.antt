-- Which encoding octets begin with.
use Rattle.std.proofs.Common.{◌≡◌, ◌≢◌, ℕ, inl, inr, List, Bool, true, false, Option, Some, None, Ok, Err, refl, sym, ap, ◌∙◌, subst, nat_eq, ◌&&◌, if◌then◌else◌, arith}
use Rattle.std.proofs.lemmas.Bool.Decides.{nat_tests}
use Rattle.rasn_types.specs.declared.types.tag.Tag.{Tag}
use Rattle.rasn_types.specs.declared.types.tag.Class.{Class}
use Rattle.rasn_types.specs.declared.types.tag.Class.TheVariants.{Universal, Application, Context, Private}
use Rattle.rasn_types.specs.declared.types.codec.Codec.TheVariants.{Der}
use Rattle.rasn_types.specs.Tags.{der_form, form, in_universal, eoc, is_eoc, is_universal}
use Rattle.rasn_types.specs.Framing.{Frame, without_length, definite, indefinite, NextTag}
use Rattle.rasn_types.specs.Contents.{ReadsString, primitive, segments, closed_segments, OctetSegment}
use Rattle.rasn_types.specs.Errors.{IsOutOfMemory}
use Rattle.rasn_types.specs.Readings.{Reading}
use Rattle.rasn_types.specs.Shapes.{Tree, numbers, leaf, octet_string, looked_for}
use Rattle.rasn_types.specs.Trees.{unconstrained}
use Rattle.rasn_types.specs.Grammar.{Reads, ReadsOpen, top}
use Rattle.rasn_types.proofs.Headers.Frames.{frame_next, next_one}
use Rattle.std.specs.Borrow.{Bor}
use Rattle.std.specs.declared.alloc.Global.{Global}
use Rattle.std.specs.declared.borrow.CowSlice.{CowSlice}
use Rattle.std.specs.declared.borrow.CowSlice.TheVariants.{Borrowed}
use Rattle.rasn_types.specs.declared.error.decode.DecodeError.{DecodeError}
use Rattle.rasn_types.specs.declared.error.decode.DecodeErrorKind.{DecodeErrorKind}
use Rattle.rasn_types.specs.declared.error.decode.DecodeErrorKind.TheVariants.{OutOfMemory}
use Rattle.rasn_de.specs.Any.{OpenAt, BorrowsOpenType}
use Rattle.rasn_de.specs.Decodes.{Decodes}
use Rattle.rasn_de.specs.OctetString.{IsPrimitive, IsConstructed, cow_tree}
use Rattle.rasn_de.specs.Outcomes.{Exact, refusal}
use Rattle.rasn_de.specs.State.{State}
use Rattle.rasn_de.specs.declared.ber.de.parser.ParseError.{ParseError}
use Rattle.rasn_de.proofs.Headers.Identifiers.{tag_is}
use Rattle.rasn_lint.specs.Encoding.{start, HasNoFrame, HasNoFrameOf}

pub no_indefinite : {l : List ℕ} {tag : Tag} {bit : Bool} {rest : List ℕ} → Frame der_form l tag bit rest indefinite → ⊥
no_indefinite (without_length id s b h e) = h

not_eoc : (tag : Tag) → tag ≢ eoc → is_eoc tag ≡ false
not_eoc tag h = go tag.class refl (nat_eq tag.value 0) refl
  where
    go : (c : Class) → tag.class ≡ c → (b : Bool) → nat_eq tag.value 0 ≡ b → is_universal c && b ≡ false
    go Universal e true f = let k : tag.value ≡ 0 = grind (arith, nat_tests) in absurd (h (tag_is tag eoc e k))
    go Universal e false f = refl
    go Application e b f = refl
    go Context e b f = refl
    go Private e b f = refl

looked : (tag : Tag) → tag ≢ eoc → looked_for tag ≡ Some tag
looked tag h = let pick : Bool → Option Tag = λ b. if b then None else Some tag in ap pick (not_eoc tag h)

-- An open type with a tag is a constructed value with it.
open_frame : (l : List ℕ) (tag : Tag) (c r : List ℕ) → ReadsOpen Der tag l (numbers c) r → Frame der_form l tag true r (definite c)
open_frame l tag c r (bit, contents, e, strict, inl f) =
    let b : bit ≡ true = strict tt in
    let s : contents ≡ c = cc in
    subst (λ x. Frame der_form l tag x r (definite c)) b (subst (λ x. Frame der_form l tag bit r (definite x)) s f)
open_frame l tag c r (bit, contents, e, strict, inr (body, f, inside, is)) = absurd (no_indefinite f)

frame_open : (l : List ℕ) (tag : Tag) (c r : List ℕ) → Frame der_form l tag true r (definite c) → ReadsOpen Der tag l (numbers c) r
frame_open l tag c r f = (true, c, refl, λ s. refl, inl f)

module _ (l : List ℕ) (tag : Tag) (next : NextTag der_form l tag) where
  pub opened : (c r : List ℕ) → OpenAt Der (looked_for tag) l (Ok (c, r)) → Frame der_form l tag true r (definite c)
  opened c r h = open_frame l tag c r (subst (λ o. OpenAt Der o l (Ok (c, r))) (looked tag next.is_one) h).0

  pub unopened : (fault : ParseError) → OpenAt Der (looked_for tag) l (Err fault) → (c r : List ℕ) → Frame der_form l tag true r (definite c) → ⊥
  unopened fault h c r f = (subst (λ o. OpenAt Der o l (Err fault)) (looked tag next.is_one) h).0 (numbers c) r (frame_open l tag c r f)

-- A decoder at the start of the octets, and what it returns of a constructed value with the tag.
module _ (l : List ℕ) (tag : Tag) (old new : State) (at : old ≡ start l) where
  pub constructed_found : NextTag der_form l tag → (o : Bor (List ℕ)) → BorrowsOpenType tag old (Ok o) new → Frame der_form l tag true new.rest (definite o.now)
  constructed_found next o h = opened l tag next o.now new.rest (subst (λ s. BorrowsOpenType tag s (Ok o) new) at h).0

  pub no_constructed : NextTag der_form l tag → (e : DecodeError) → BorrowsOpenType tag old (Err e) new → HasNoFrameOf l tag true
  no_constructed next e h = let g = (subst (λ s. BorrowsOpenType tag s (Err e) new) at h).0 in unopened l tag next g.0 g.1

-- An OCTET STRING with a tag is a primitive value with it.
text_frame : (l : List ℕ) (tag : Tag) (depth : ℕ) (closing : Bool) (c r : List ℕ)
    → Reads Der (leaf octet_string tag unconstrained) depth closing l (numbers c) r → Frame der_form l tag false r (definite c)
unfolding Reads
text_frame l tag depth closing c r ((octets, s, e), b) = go depth s
  where
    same : octets ≡ c
    same = cc

    go : (d : ℕ) → ReadsString Der OctetSegment (in_universal 4) d tag l octets r → Frame der_form l tag false r (definite c)
    go d (primitive contents f g) = subst (λ x. Frame der_form l tag false r (definite x)) (sym g ∙ same) f
    go d (segments contents strict f inside) = absurd (strict tt)
    go d (closed_segments body strict f inside) = absurd (strict tt)

frame_text : (l : List ℕ) (tag : Tag) (depth : ℕ) (closing : Bool) (c r : List ℕ)
    → Frame der_form l tag false r (definite c) → Reads Der (leaf octet_string tag unconstrained) depth closing l (numbers c) r
unfolding Reads
frame_text l tag depth closing c r f = ((c, primitive c f refl, refl), tt)

refused : (k : DecodeErrorKind) (R : Reading Tree) (i : List ℕ) → (IsOutOfMemory k → ⊥) → Exact R i (refusal k) → (u : Tree) (s : List ℕ) → R i u s → ⊥
refused OutOfMemory R i n x u s h = n refl
refused _ R i n x u s h = x u s h

-- What the decoder returns of a primitive value with the tag.
module _ (l : List ℕ) (tag : Tag) (old new : State) (at : old ≡ start l) where
  pub primitive_found : (o : Bor (List ℕ)) → Decodes {T = CowSlice ℕ Global} (leaf octet_string tag unconstrained) cow_tree old (Ok (Borrowed o)) new → Frame der_form l tag false new.rest (definite o.now)
  primitive_found o d = text_frame l tag 128 (top Der) o.now new.rest (subst (λ (s : State). Reads s.rule (leaf octet_string tag unconstrained) s.depth s.closing s.rest (numbers o.now) new.rest) at d.exact.0)

  pub no_primitive : (e : DecodeError) → Decodes {T = CowSlice ℕ Global} (leaf octet_string tag unconstrained) cow_tree old (Err e) new
      → (IsPrimitive old.rule tag old.rest → IsOutOfMemory e.kind → ⊥) → HasNoFrameOf l tag false
  no_primitive e d m c r f =
      let p : IsPrimitive old.rule tag old.rest = subst (λ (s : State). IsPrimitive s.rule tag s.rest) (sym at) (r, c, f) in
      refused e.kind (Reads old.rule (leaf octet_string tag unconstrained) old.depth old.closing) old.rest (m p) d.exact (numbers c) r
      (subst (λ (s : State). Reads s.rule (leaf octet_string tag unconstrained) s.depth s.closing s.rest (numbers c) r) (sym at) (frame_text l tag 128 (top Der) c r f))

  -- A constructed string is never read.
  pub never_owned : HasNoFrameOf l tag true → IsConstructed old.rule tag old.rest → ⊥
  never_owned no_open h = go (subst (λ (s : State). IsConstructed s.rule tag s.rest) at h)
    where
      go : IsConstructed Der tag l → ⊥
      go (r, definite c, f) = no_open c r f
      go (r, indefinite, f) = no_indefinite f

-- Neither form of the tag begins the octets, so no encoding does.
pub no_frame : (l : List ℕ) (tag : Tag) → NextTag der_form l tag → HasNoFrameOf l tag true → HasNoFrameOf l tag false → HasNoFrame l
no_frame l tag next no_open no_plain t bit c r f = go bit (subst (λ x. Frame der_form l x bit r (definite c)) (next_one l t tag (frame_next f) next) f)
  where
    go : (b : Bool) → Frame der_form l tag b r (definite c) → ⊥
    go true g = no_open c r g
    go false g = no_plain c r g

pub no_tag : (l : List ℕ) (old : State) → old ≡ start l → ((t : Tag) → NextTag (form old.rule) old.rest t → ⊥) → HasNoFrame l
no_tag l old at h tag bit c r f = (subst (λ (s : State). (t : Tag) → NextTag (form s.rule) s.rest t → ⊥) at h) tag (frame_next f)

pub tag_found : (l : List ℕ) (old : State) → old ≡ start l → (t : Tag) → NextTag (form old.rule) old.rest t → NextTag der_form l t
tag_found l old at t h = subst (λ (s : State). NextTag (form s.rule) s.rest t) at h
