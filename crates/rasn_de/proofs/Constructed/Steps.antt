-- The steps of a call that reads inside a value.
use Rattle.std.proofs.Common.{◌≡◌, ℕ, List, Result, Ok, Err, refl, sym, ap, ◌∙◌, subst}
use Rattle.std.specs.Prelude.{IfErr}
use Rattle.std.specs.Fn.{FnOnceReturnsAtMut}
use Rattle.std.specs.Borrow.{MutBor}
use Rattle.rasn_types.specs.declared.error.decode.DecodeError.{DecodeError}
use Rattle.rasn_types.specs.Framing.{Extent, definite, indefinite}
use Rattle.rasn_de.specs.declared.ber.de.parser.ParseError.{ParseError}
use Rattle.rasn_de.specs.declared.ber.de.parser.Contents.{Contents}
use Rattle.rasn_de.specs.Segments.{octets_inside, end_at}
use Rattle.rasn_de.specs.ParserViews.{extent}
use Rattle.rasn_de.specs.Causes.{error_kind}
use Rattle.rasn_de.specs.State.{State, at, IsEnd, Call, EachCall}
use Rattle.rasn_de.specs.Steps.{IsErrorOf}
use Rattle.rasn_de.specs.declared.ber.de.constructed.ConstructedHeader.{ConstructedHeader}
use Rattle.rasn_de.specs.Constructed.{contents_state, unclosed, Keeps, ConsumesOpening, ConsumesEnd, FailsInside, no_value, inside, not_closed, DecodesInside, Closure, LeavesAnEnd}
use Rattle.rasn_de.proofs.Headers.Ends.{IsEnd-trans}

pub kept_after : (old mid new : State) → Keeps old mid → Keeps mid new → Keeps old new
kept_after old mid new a b = record { stays = b.stays ∙ ap (λ (s : State). at s new.rest) a.stays; end = IsEnd-trans old.rest mid.rest new.rest a.end b.end }

pub rules_same : (old mid : State) (f : ParseError) (e : DecodeError) → Keeps old mid → IsErrorOf f mid e → IsErrorOf f old e
rules_same old mid f e k w = w ∙ ap (λ c. record { kind = error_kind f; codec = c }) (ap (λ (s : State). s.rule) k.stays)

module _ {D : Type 0} (read : Call D) (d : ConstructedHeader) (old : State) where
  pub step_none : (e : DecodeError) (new : State) → ConsumesOpening d old (Err e) new → DecodesInside read d old (Err e) new
  step_none e new (f, h, w, k) = (k, no_value f h w)

  module _ (p : State) (c : Contents) (mid : State) (w : ConsumesOpening d old (Ok (p, c)) mid) where
    moved : (r : Result D DecodeError) (left : State) → read p r left → read (contents_state d old w.0) r left
    moved r left k = subst (λ z. read z r left) w.2 k

    -- the value's extent and what followed its header
    closing_at : (l m : List ℕ) (r : Result (List ℕ) ParseError) → l ≡ m → end_at (extent c) mid.rest l ≡ r → end_at w.0.extent w.0.rest m ≡ r
    closing_at l m r e f =
        let q : mid.rest ≡ w.0.rest = ap (λ (s : State). s.rest) w.4 in
        subst (λ x. end_at x w.0.rest m ≡ r) w.3 (subst (λ z. end_at (extent c) z m ≡ r) q (subst (λ z. end_at (extent c) mid.rest z ≡ r) e f))

    left_at : (l m rest : List ℕ) → l ≡ m → rest ≡ unclosed (extent c) mid.rest l → rest ≡ unclosed w.0.extent w.0.rest m
    left_at l m rest e f =
        let q : mid.rest ≡ w.0.rest = ap (λ (s : State). s.rest) w.4 in
        subst (λ x. rest ≡ unclosed x w.0.rest m) w.3 (subst (λ z. rest ≡ unclosed (extent c) z m) q (subst (λ z. rest ≡ unclosed (extent c) mid.rest z) e f))

    pub step_refused : (e : DecodeError) (left : State) → read p (Err e) left → DecodesInside read d old (Err e) mid
    step_refused e left k = (w.5, inside w.0 w.1 left (moved (Err e) left k) (ap (λ (s : State). s.rest) w.4))

    open_end : (x : Extent) (rest l : List ℕ) → x ≡ indefinite → IsEnd (octets_inside x rest) l → IsEnd rest l
    open_end (definite b) rest l e h = cc
    open_end indefinite rest l e h = h

    -- what remains inside an indefinite value ends what follows its header
    pub step_end : (left l : List ℕ) → IsEnd p.rest left → l ≡ left → extent c ≡ indefinite → IsEnd mid.rest l
    step_end left l k e x =
        let q : mid.rest ≡ w.0.rest = ap (λ (s : State). s.rest) w.4 in
        let i : IsEnd (octets_inside w.0.extent w.0.rest) left = subst (λ (z : State). IsEnd z.rest left) w.2 k in
        subst (λ z. IsEnd z l) (sym q) (subst (IsEnd w.0.rest) (sym e) (open_end w.0.extent w.0.rest left (sym w.3 ∙ x) i))

    pub step_unclosed : (v : D) (left : State) → read p (Ok v) left → (l : List ℕ) → l ≡ left.rest → (e : DecodeError) (new : State) → ConsumesEnd (extent c) l mid (Err e) new → DecodesInside read d old (Err e) new
    step_unclosed v left k l m e new (f, g, u, r, s) =
        (kept_after old mid new w.5 s, not_closed w.0 w.1 v left (moved (Ok v) left k) f (closing_at l left.rest (Err f) m g) (rules_same old mid f e w.5 u) (left_at l left.rest new.rest m r))

    pub step_closed : (v : D) (left : State) → read p (Ok v) left → (l : List ℕ) → l ≡ left.rest → (new : State) → ConsumesEnd (extent c) l mid (Ok tt) new → DecodesInside read d old (Ok v) new
    step_closed v left k l m new (g, s) =
        (kept_after old mid new w.5 s, record { header = w.0; opened = w.1; left = left; call = moved (Ok v) left k; closed = closing_at l left.rest (Ok new.rest) m g })

-- What is read inside in one way is read in each way that this implies.
module _ {D : Type 0} (read other : Call D) (d : ConstructedHeader) (old : State) where
  failed_by : (e : DecodeError) (rest : List ℕ) → FailsInside read d old e rest → EachCall read other → FailsInside other d old e rest
  failed_by e rest (no_value f h w) by = no_value f h w
  failed_by e rest (inside h o left c q) by = inside h o left (by _ _ _ c) q
  failed_by e rest (not_closed h o v left c f g w q) by = not_closed h o v left (by _ _ _ c) f g w q

  pub inside_by : (r : Result D DecodeError) (new : State) → DecodesInside read d old r new → EachCall read other → DecodesInside other d old r new
  inside_by (Ok v) new (k, f) by = (k, record { header = f.header; opened = f.opened; left = f.left; call = by _ _ _ f.call; closed = f.closed })
  inside_by (Err e) new (k, f) by = (k, failed_by e new.rest f by)

-- A closure whose clauses say, of the decoder before and after a call, that it reads so.
module _ {F D : Type 0} (g : Closure F D) (f : F) (read : Call D) (says : (p : MutBor State) (r : Result D DecodeError) (q : MutBor State) → g.post f (p, tt) (r, (q, tt)) → read p.now r q.now) where
  closure_reads : EachCall (FnOnceReturnsAtMut g f) read
  closure_reads o r n w = subst (λ z. read o r z) w.leaves (subst (λ z. read z r w.left.now) w.shows (says w.shown r w.left w.met))

  pub closure_leaves : EachCall read (λ o r n. IsEnd o.rest n.rest) → LeavesAnEnd g f
  closure_leaves leaves o r n w = leaves o r n (closure_reads o r n w)

  pub closure_inside : (d e : ConstructedHeader) → d ≡ e → (old : State) (r : Result D DecodeError) (new : State) → DecodesInside (FnOnceReturnsAtMut g f) d old r new → DecodesInside read e old r new
  closure_inside d e q old r new k = subst (λ z. DecodesInside read z old r new) q (inside_by (FnOnceReturnsAtMut g f) read d old r new k closure_reads)

-- Errors name the rules outside where what is read inside names those inside, which are the same.
module _ {D : Type 0} (old : State) where
  abbrev pub NamesThese : Call D
  NamesThese o r n = o.rule ≡ old.rule → IfErr r (λ e. e.codec ≡ o.rule)

  pub inside_rules : (read : Call D) → EachCall read NamesThese → (d : ConstructedHeader) (r : Result D DecodeError) (new : State) → DecodesInside read d old r new → IfErr r (λ e. e.codec ≡ old.rule)
  inside_rules read names d (Ok v) new k = tt
  inside_rules read names d (Err e) new (k, no_value f h w) = ap (λ (x : DecodeError). x.codec) w
  inside_rules read names d (Err e) new (k, inside h o left c q) = names _ _ _ c refl
  inside_rules read names d (Err e) new (k, not_closed h o v left c f g w q) = ap (λ (x : DecodeError). x.codec) w

  pub closure_rules : {F : Type 0} (g : Closure F D) (f : F) → ((p : MutBor State) (r : Result D DecodeError) (q : MutBor State) → g.post f (p, tt) (r, (q, tt)) → NamesThese p.now r q.now)
      → (d : ConstructedHeader) (r : Result D DecodeError) (new : State) → DecodesInside (FnOnceReturnsAtMut g f) d old r new → IfErr r (λ e. e.codec ≡ old.rule)
  closure_rules g f says d r new k = inside_rules (FnOnceReturnsAtMut g f) (closure_reads g f NamesThese says) d r new k
