-- A SET from whose components a function makes the value is decoded or refused in one way if they are.
use Rattle.std.proofs.Common.{◌≡◌, ℕ, zero, suc, ◌+◌, ◌<◌, ◌≤◌, ◌^◌, inl, inr, Bool, false, List, [], ◌∷◌, ◌++◌, length, map, Vec, Option, Some, None, Result, Ok, Err, refl, sym, subst, arith, length-append, ap, ◌∙◌}
use Rattle.std.specs.Global.{Global}
use Rattle.rasn_types.specs.declared.types.tag.Tag.{Tag}
use Rattle.rasn_types.specs.declared.error.decode.DecodeError.{DecodeError}
use Rattle.rasn_types.specs.declared.error.decode.DerDecodeErrorKind.TheVariants.{SetComponentsOutOfOrder}
use Rattle.rasn_types.specs.Errors.{IsOutOfMemory}
use Rattle.rasn_types.specs.Tags.{form, IsStrict}
use Rattle.rasn_types.specs.Framing.{AreOctets, NextTag, Ended}
use Rattle.rasn_types.specs.Readings.{AreInTagOrder}
use Rattle.rasn_types.specs.Shapes.{Tree, Shape, choice, choice_by, set, Parts}
use Rattle.rasn_de.specs.declared.ber.de.parser.ParseError.{ParseError}
use Rattle.rasn_de.specs.declared.ber.de.parser.ParseError.TheVariants as parse
use Rattle.rasn_de.specs.Causes.{error_kind}
use Rattle.rasn_de.specs.Headers.{Identified, identifier_at}
use Rattle.rasn_de.specs.State.{State, Call, at}
use Rattle.rasn_de.specs.Decodes.{Decodes}
use Rattle.rasn_de.specs.Constructed.{sequence_header}
use Rattle.rasn_de.specs.SequenceOf.{DecodesInTurnFrom, RefusesElement, FailsAtElement}
use Rattle.rasn_de.specs.Set.{IsBelowLast, PeeksInOrder, FailsAtComponent, no_tag, falls, not_read, DecodesUpTo, DecodesComponents, DecodesSetContents, DecodesSetBy, MakesSet}
use Rattle.rasn_de.specs.ValueErrors.{Errors, errors_of, DecodesOr}
use Rattle.rasn_de.proofs.Headers.Memory.{NoMemory, identifier_none}
use Rattle.rasn_de.proofs.Headers.NextTag.{next_parsed, kind_memory}
use Rattle.rasn_de.proofs.Headers.Tags.{Tagged, tagged_order, look_refused, look_follows, look_kept}
use Rattle.rasn_de.proofs.Constructed.Set.{set_decodes, collects_leaves}
use Rattle.rasn_de.proofs.Constructed.SetOfElements.{passes_from}
use Rattle.rasn_de.proofs.Constructed.Steps.{inside_by}
use Rattle.rasn_de.proofs.Constructed.ValueErrors.{contents_by, or_decodes}
use Rattle.rasn.specs.OneRefusal.{Refuses, ReadsShape, IsRefusedOnce, AreApart, Settles, IsDetermined, IsMadeOnce, IsAlwaysMade}
use Rattle.rasn.proofs.OneRefusal.Calls.{octets_end, exactly_apart, IsExactCall, or_settles}
use Rattle.rasn.proofs.OneRefusal.Inside.{inside_determined, or_exact, or_once}
use Rattle.rasn.proofs.OneRefusal.Lists.{refuses}
use Rattle.rasn.proofs.OneRefusal.Settled.{ends_shorter, inside_settles}
use Rattle.rasn.proofs.OneRefusal.SettledLists.{vec_of, strict_or}
use Rattle.rasn.proofs.OneRefusal.Sets.{up_to_unrefused, up_to_same, up_to_made}

-- ---- one error

-- Where memory suffices, a component isn't read, or consumes nothing.
without_memory : {F L D : Type 0} (read : Call F) (elements : L → List F) (made : L → Result D DecodeError → Type 0) (old : State) (e : DecodeError) (new : State) → Refuses (errors_of (DecodesSetContents (DecodesComponents read elements) made)) old e new
    → Refuses (errors_of (DecodesSetContents (DecodesUpTo read (RefusesElement read) elements) made)) old e new
without_memory read elements made old e new (inr a, m) = (inr a, m)
without_memory read elements made old e new (inl (vs, bs, here, p, x, k), m) = (inl (vs, bs, here, p, x, go k), m)
  where
    go : FailsAtComponent (FailsAtElement read) bs here e new → FailsAtComponent (RefusesElement read) bs here e new
    go (no_tag a q r) = no_tag a q r
    go (falls a t n d w q) = falls a t n d w q
    go (not_read f w) = not_read f (refuses read here e new m w)

module _ {F D L : Type 0} (extensible : Bool) (ps : Parts) (read : Call F) (tree : F → Tree) (exact : IsExactCall read (ReadsShape (choice_by extensible ps)) tree) (once : IsRefusedOnce (errors_of read)) (elements : L → List F)
    (made : L → Result D DecodeError → Type 0) (one : IsMadeOnce (λ l. map tree (elements l)) made) where
  abbrev Made : Call D
  Made = DecodesSetContents (DecodesComponents read elements) made

  set_contents_determined : IsDetermined Made
  set_contents_determined = record { unrefused = unrefused; left = left; once = refused }
    where
      unrefused : (old : State) → AreOctets old.rest → (v : D) (e : DecodeError) (new other : State) → Made old (Ok v) new → Refuses (errors_of Made) old e other → ⊥
      unrefused old o v e new other (fields, a, x) r = go (without_memory read elements made old e other r)
        where
          go : Refuses (errors_of (DecodesSetContents (DecodesUpTo read (RefusesElement read) elements) made)) old e other → ⊥
          go (inl b, m) = up_to_unrefused extensible ps read tree exact once elements old o fields e new other a (b, m)
          go (inr (others, b, y), m) = one.unrefused fields others (up_to_same extensible ps read tree exact once elements old o fields others new other a b).0 v e x (y, m)

      left : (old : State) → AreOctets old.rest → (v w : D) (new other : State) → Made old (Ok v) new → Made old (Ok w) other → new ≡ other
      left old o v w new other (fields, a, x) (others, b, y) = (up_to_same extensible ps read tree exact once elements old o fields others new other a b).1

      refused : IsRefusedOnce (errors_of Made)
      refused old o e f new other a b = up_to_made extensible ps read tree exact once elements made one.once old o e f new other (without_memory read elements made old e new a) (without_memory read elements made old f other b)

-- ---- each input is decoded or refused

module _ {F L : Type 0} (s : Shape) (tree : F → Tree) (read : Call F) (exact : IsExactCall read (ReadsShape s) tree) (all : Settles read) (elements : L → List F) (room : (vs : List F) → length vs < 2 ^ 63 → (l : L) × (elements l ≡ vs)) where
  abbrev fault : State → ParseError → DecodeError
  fault here f = record { kind = error_kind f; codec = here.rule }

  module _ (old : State) (b : length old.rest < 2 ^ 63) (passed : (l : L) (new : State) → DecodesComponents read elements old (Ok l) new → ⊥) (failed : (e : DecodeError) (new : State) → Refuses (errors_of (DecodesComponents read elements)) old e new → ⊥) where
    -- There is one more component.
    module _ (vs : List F) (bs : List (List ℕ)) (last : Option Tag) (here : State) (o : AreOctets here.rest) (k : length vs + length here.rest ≤ length old.rest) (stays : here ≡ at old here.rest) (t : Tagged old bs last)
        (p : DecodesInTurnFrom read old vs bs here) (more : Ended here.closing here.rest → ⊥)
        (on : (v : F) (next : State) (b : List ℕ) (found : Option Tag) → length next.rest < length here.rest → AreOctets next.rest → length (vs ++ v ∷ []) + length next.rest ≤ length old.rest → next ≡ at old next.rest → Tagged old (bs ++ b ∷ []) found
        → DecodesInTurnFrom read old (vs ++ v ∷ []) (bs ++ b ∷ []) next → ⊥) where
      fails : (e : DecodeError) (new : State) → FailsAtComponent (FailsAtElement read) bs here e new → (IsOutOfMemory e.kind → ⊥) → ⊥
      fails e new x m = failed e new ((vs, bs, here, (p, tagged_order old bs last t), more, x), m)

      next : (found : Option Tag) → PeeksInOrder last here (Ok found) → ⊥
      next found l = all here o (omega (arith, k, b)) took (λ e new r. fails e new (not_read follows (inl r.0)) r.1)
        where
          follows : IsStrict here.rule → (tag : Tag) × NextTag (form here.rule) here.rest tag × AreInTagOrder (bs ++ here.rest ∷ [])
          follows = look_follows old here stays bs last t found l

          took : (v : F) (new : State) → read here (Ok v) new → ⊥
          took v new r =
              let x = exact here o (Ok v) new r in
              let shorter = ends_shorter here.rest new.rest x.end in
              let stuck = λ (q : length new.rest ≡ length here.rest). fails (fault here (parse.UnexpectedExtraData (length here.rest))) new (not_read follows (inr (v, r, inl (q, refl)))) (λ w. cc) in
              let a = length-append vs (v ∷ []) in
              on v new x.end.0 found (omega (arith, shorter, stuck)) (octets_end o x.end) (omega (arith, a, shorter, stuck, k)) (x.stays ∙ ap (λ (z : State). at z new.rest) stays)
              (look_kept old here stays bs last t s tree found l v new x x.end.0 x.end.1 stuck) (passes_from read here new v x.end.0 x.end.1 more r stuck old vs (vs ++ v ∷ []) bs refl p)

      in_order : IsStrict here.rule → (r : Result Identified ParseError) → identifier_at (form here.rule) here.rest ≡ r → ⊥
      in_order strict (Err f) q =
          let e = fault here f in
          fails e here (look_refused old here stays bs last t (FailsAtElement read) e (strict, inl (f, rw q refl, refl))) (kind_memory f (subst NoMemory q (identifier_none _ here.rest)))
      in_order strict (Ok i) q =
          let n = next_parsed (form here.rule) here.rest i o q in
          let e = fault here (parse.Der SetComponentsOutOfOrder) in
          next (Some i.tag) (n, λ (below : IsBelowLast i.tag last). fails e here (look_refused old here stays bs last t (FailsAtElement read) e (strict, inr (i.tag, n, below, refl))) (λ w. cc))

      goes_on : ⊥
      goes_on = strict_or here.rule ⊥ (λ lax. next None lax) (λ strict never. in_order strict (identifier_at (form here.rule) here.rest) refl)

    scan : (n : ℕ) (vs : List F) (bs : List (List ℕ)) (last : Option Tag) (here : State) → length here.rest < n → AreOctets here.rest → length vs + length here.rest ≤ length old.rest → here ≡ at old here.rest → Tagged old bs last → DecodesInTurnFrom read old vs bs here → ⊥
    scan zero vs bs last here h o k stays t p = omega (arith, h)
    scan (suc n) vs bs last here h o k stays t p =
        goes_on vs bs last here o k stays t p
        (λ end. let m = room vs (omega (arith, k, b)) in passed m.0 here (bs, (subst (λ l. DecodesInTurnFrom read old l bs here) (sym m.1) p, tagged_order old bs last t), end))
        (λ v next b found s q l i u r. scan n (vs ++ v ∷ []) (bs ++ b ∷ []) found next (omega (arith, s, h)) q l i u r)

  components_settle : Settles (DecodesComponents read elements)
  components_settle old o b passed failed = scan old b passed failed (suc (length old.rest)) [] [] None old (omega arith) o (omega arith) refl (λ strict. ([], refl, tt, refl)) (refl, refl)

-- Then a function makes the value, or returns an error.
made_settles : {L D : Type 0} (components : Call L) (made : L → Result D DecodeError → Type 0) → IsAlwaysMade made → Settles components → Settles (DecodesSetContents components made)
made_settles components made always all old o b passed failed =
    all old o b (λ fields new a. always fields (λ v m. passed v new (fields, a, m)) (λ e r. failed e new (inr (fields, a, r.0), r.1))) (λ e new a. failed e new (inl a.0, a.1))

-- ---- the whole SET

module _ {F D : Type 0} (s : Shape) (tree : F → Tree) (errors : Errors) (made : Vec F Global → Result D DecodeError → Type 0) (tag : Tag) where
  abbrev items_of : Vec F Global → List F
  items_of v = v.items

  abbrev Component : Call F
  Component = DecodesOr s tree errors

  abbrev Inside : Call D
  Inside = DecodesSetContents (DecodesComponents Component items_of) made

  pub set_determined : (extensible : Bool) (ps : Parts) → s ≡ choice_by extensible ps → IsRefusedOnce errors → IsMadeOnce (λ (v : Vec F Global). map tree v.items) made → IsDetermined (DecodesSetBy Component made tag)
  set_determined extensible ps is once one =
      inside_determined Inside
      (set_contents_determined extensible ps Component tree (subst (λ z. IsExactCall Component (ReadsShape z) tree) is (or_exact s tree errors)) (or_once s tree errors once) items_of made one) (sequence_header tag)

  pub set_with_settles : IsAlwaysMade made → Settles Component → Settles (DecodesSetBy Component made tag)
  set_with_settles always all =
      inside_settles Inside
      (λ old o v new a. collects_leaves s tree items_of made old (Ok v) new (contents_by Component (Decodes s tree) (or_decodes s tree errors) items_of made old (Ok v) new a))
      (made_settles (DecodesComponents Component items_of) made always (components_settle s tree Component (or_exact s tree errors) all items_of (λ vs b. (vec_of vs b, refl)))) (sequence_header tag)

  module _ (ps : Parts) (is : s ≡ choice ps) (whole : D → Tree) (makes : (fields : Vec F Global) (r : Result D DecodeError) → made fields r → MakesSet ps whole (map tree fields.items) r) where
    set_with_exact : IsExactCall (DecodesSetBy Component made tag) (ReadsShape (set tag ps)) whole
    set_with_exact old o r new a =
        set_decodes s ps is tree whole items_of made tag old (λ _. o) makes r new
        (inside_by Inside (DecodesSetContents (DecodesComponents (Decodes s tree) items_of) made) (sequence_header tag) old r new a (contents_by Component (Decodes s tree) (or_decodes s tree errors) items_of made))

    pub set_with_apart : IsRefusedOnce errors → IsMadeOnce (λ (v : Vec F Global). map tree v.items) made → AreApart (errors_of (DecodesSetBy Component made tag)) (ReadsShape (set tag ps))
    set_with_apart once one = exactly_apart _ (ReadsShape (set tag ps)) (λ old o e new a. set_with_exact old o (Err e) new a) (set_determined false ps is once one).once

    pub set_with_grammar : IsAlwaysMade made → Settles Component → Settles (DecodesOr (set tag ps) whole (errors_of (DecodesSetBy Component made tag)))
    set_with_grammar always all = or_settles (DecodesSetBy Component made tag) (set tag ps) whole set_with_exact (set_with_settles always all)
