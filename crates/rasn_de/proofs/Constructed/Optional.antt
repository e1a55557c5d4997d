-- A value that may be left out is read where it is present.
use Rattle.std.proofs.Common.{◌≡◌, ◌⊎◌, inl, inr, Bool, true, false, List, ℕ, Option, Some, None, Result, Ok, Err, refl, sym, ap, subst}
use Rattle.std.specs.Prelude.{IfOk, IfErr}
use Rattle.std.specs.declared.alloc.AllocError.{AllocError}
use Rattle.rasn_types.specs.declared.types.tag.Tag.{Tag}
use Rattle.rasn_types.specs.declared.error.decode.DecodeError.{DecodeError}
use Rattle.rasn_types.specs.declared.error.decode.DecodeErrorKind.{DecodeErrorKind}
use Rattle.rasn_types.specs.declared.error.decode.DerDecodeErrorKind.TheVariants.{DefaultValuePresent}
use Rattle.rasn_types.specs.declared.types.codec.Codec.{Codec}
use Rattle.rasn_types.specs.Tags.{Form, form, IsStrict}
use Rattle.rasn_types.specs.Framing.{NextTag, Ended}
use Rattle.rasn_types.specs.Shapes.{Tree, Same, Shape, Key, own_tag, default_by, option, absent, Sought, one_tag, any_of, looked_for}
use Rattle.rasn_types.specs.Readings.{Reading, ReadsOptional, ReadsPart, IsLeftOut, IsPresent}
use Rattle.rasn_types.specs.Trees.{option_tree}
use Rattle.rasn_types.specs.Grammar.{Reads}
use Rattle.rasn_types.proofs.Headers.Frames.{next_one}
use Rattle.rasn_de.specs.declared.ber.de.parser.ParseError.{ParseError}
use Rattle.rasn_de.specs.declared.ber.de.parser.ParseError.TheVariants.{OutOfMemory, Der}
use Rattle.rasn_de.specs.Headers.{Identified, identifier_at}
use Rattle.rasn_de.specs.ParserViews.{identified_tag}
use Rattle.rasn_de.specs.State.{State}
use Rattle.rasn_de.specs.Steps.{PeeksTag}
use Rattle.rasn_de.specs.Outcomes.{Exact, Outcome, Got, Refused, AllocFailed, refusal}
use Rattle.rasn_de.specs.Decodes.{Decodes, DecodesBy}
use Rattle.rasn_de.specs.Beyond.{Beyond, BeyondDefault}
use Rattle.rasn_de.specs.Constructed.{Keeps}
use Rattle.rasn_de.specs.Optional.{NeedsTag, NextIs, DecodesIfSought, DecodesIfPresent, MakesValue, ReturnsUnlessDefault, DecodesSoughtOrDefault, DecodesOrDefault, no_look, no_default, no_read, not_compared, present, DecodesDefault}
use Rattle.rasn_de.proofs.Leaves.Outcomes.{Exact-none, Exact-refusal}
use Rattle.rasn_de.proofs.Headers.Ends.{IsEnd-refl}
use Rattle.rasn_de.proofs.Headers.NextTag.{next_none}
use Rattle.rasn_de.proofs.Constructed.Steps.{rules_same}

-- No value is left out and there.
pub apart : (spelling : Form) (tags : Sought) (closing : Bool) (input : List ℕ) → IsLeftOut spelling tags closing input → IsPresent spelling tags closing input → ⊥
apart spelling (one_tag (Some tag)) closing input (inl e) t = t.0 e
apart spelling (one_tag (Some tag)) closing input (inr (next, n, d)) t = d (next_one input next tag n t.1)
apart spelling (one_tag None) closing input e t = t e
apart spelling (any_of P) closing input (inl e) t = t.0 e
apart spelling (any_of P) closing input (inr (next, n, d)) t = d (subst P (sym (next_one input next t.1 n t.2)) t.3)

-- If peeking at the next tag fails, no value follows.
pub peeks_none : (s : State) (e : DecodeError) → PeeksTag s (Err e) → (t : Tag) → NextTag (form s.rule) s.rest t → ⊥
peeks_none s e (f, p, w) t n = found (identifier_at (form s.rule) s.rest) refl p
  where
    found : (r : Result Identified ParseError) → identifier_at (form s.rule) s.rest ≡ r → identified_tag r ≡ Err f → ⊥
    found (Ok i) q h = cc
    found (Err x) q h = next_none (form s.rule) s.rest x q t n

-- Then a value is neither left out nor there.
neither : (tags : Sought) (s : State) (e : DecodeError) → NeedsTag tags → (Ended s.closing s.rest → ⊥) → PeeksTag s (Err e) → IsLeftOut (form s.rule) tags s.closing s.rest ⊎ IsPresent (form s.rule) tags s.closing s.rest → ⊥
neither (one_tag (Some tag)) s e n d p (inl (inl c)) = d c
neither (one_tag (Some tag)) s e n d p (inl (inr (next, m, w))) = peeks_none s e p next m
neither (one_tag (Some tag)) s e n d p (inr t) = peeks_none s e p tag t.1
neither (one_tag None) s e n d p w = n refl
neither (any_of P) s e n d p (inl (inl c)) = d c
neither (any_of P) s e n d p (inl (inr (next, m, w))) = peeks_none s e p next m
neither (any_of P) s e n d p (inr t) = peeks_none s e p t.1 t.2

module _ (spelling : Form) (tag : Sought) (without : Tree) (R : Reading Tree) (closing : Bool) (input : List ℕ) where
  left_out : IsLeftOut spelling tag closing input → Exact (ReadsOptional spelling tag without R closing) input (Got without input)
  left_out a = (inl (a, refl, refl), only)
    where
      only : (u : Tree) (s : List ℕ) → ReadsOptional spelling tag without R closing input u s → (u ≡ without) × (s ≡ input)
      only u s (inl (b, e, f)) = (e, f)
      only u s (inr (t, k)) = absurd (apart spelling tag closing input a t)

  there : IsPresent spelling tag closing input → (o : Outcome) → Exact R input o → Exact (ReadsOptional spelling tag without R closing) input o
  there t (Got v r) x = (inr (t, x.0), only)
    where
      only : (u : Tree) (s : List ℕ) → ReadsOptional spelling tag without R closing input u s → (u ≡ v) × (s ≡ r)
      only u s (inl (b, e, f)) = absurd (apart spelling tag closing input b t)
      only u s (inr (b, k)) = x.1 u s k
  there t Refused x = none
    where
      none : (u : Tree) (s : List ℕ) → ReadsOptional spelling tag without R closing input u s → ⊥
      none u s (inl (b, e, f)) = apart spelling tag closing input b t
      none u s (inr (b, k)) = x u s k
  there t AllocFailed x = tt

  nothing : (IsLeftOut spelling tag closing input ⊎ IsPresent spelling tag closing input → ⊥) → (u : Tree) (s : List ℕ) → ReadsOptional spelling tag without R closing input u s → ⊥
  nothing n u s (inl (b, e, f)) = n (inl b)
  nothing n u s (inr (b, k)) = n (inr b)

-- what a part that may be left out is read as, at the rules and closing of a decoder
module _ (R : Reading Tree) (without : Tree) (tags : Sought) (old : State) where
  abbrev MayRead : Reading Tree
  MayRead = ReadsOptional (form old.rule) tags without R old.closing

  -- where the look at the next tag is refused
  unread : (e : DecodeError) → NextIs tags old (Err e) → Exact MayRead old.rest (refusal e.kind)
  unread e (l, d, p) = Exact-none e.kind MayRead old.rest (nothing (form old.rule) tags without R old.closing old.rest (neither tags old e l d p))

  out_of_it : NextIs tags old (Ok false) → Exact MayRead old.rest (Got without old.rest)
  out_of_it a = left_out (form old.rule) tags without R old.closing old.rest a

  in_it : NextIs tags old (Ok true) → (o : Outcome) → Exact R old.rest o → Exact MayRead old.rest o
  in_it t o x = there (form old.rule) tags without R old.closing old.rest t o x

-- a value of the shape, at the rules, depth and closing of a decoder
abbrev ReadsIt : Shape → State → Reading Tree
ReadsIt s old = Reads old.rule s old.depth old.closing

-- A value that may be left out, as a part of any presence.
abbrev pub ReadsSought : Sought → Shape → Codec → ℕ → Bool → Reading Tree
ReadsSought tags s rule depth closing = ReadsOptional (form rule) tags absent (Reads rule s depth closing) closing

pub sought_decodes : {D : Type 0} (s : Shape) (tree : D → Tree) (tags : Sought) (old : State) (result : Result (Option D) DecodeError) (new : State) → DecodesIfSought (Decodes s tree) tags old result new
    → DecodesBy (ReadsSought tags s) (option_tree tree) old result new
sought_decodes s tree tags old (Ok None) new (a, e) = subst (λ n. DecodesBy (ReadsSought tags s) (option_tree tree) old (Ok None) n) (sym e)
    (record { stays = refl; end = IsEnd-refl old.rest; exact = out_of_it (ReadsIt s old) absent tags old a })
sought_decodes s tree tags old (Ok (Some v)) new (t, k) = record { stays = k.stays; end = k.end; exact = in_it (ReadsIt s old) absent tags old t (Got (tree v) new.rest) k.exact }
sought_decodes s tree tags old (Err e) new (inl (c, q)) = subst (λ n. DecodesBy (ReadsSought tags s) (option_tree tree) old (Err e) n) (sym q)
    (record { stays = refl; end = IsEnd-refl old.rest; exact = unread (ReadsIt s old) absent tags old e c })
sought_decodes s tree tags old (Err e) new (inr (t, k)) = record { stays = k.stays; end = k.end; exact = in_it (ReadsIt s old) absent tags old t (refusal e.kind) k.exact }

pub perhaps_decodes : {D : Type 0} (s : Shape) (tree : D → Tree) (tag : Tag) (old : State) (result : Result (Option D) DecodeError) (new : State) → DecodesIfPresent (Decodes s tree) tag old result new
    → Decodes (option (looked_for tag) s) (option_tree tree) old result new
unfolding Reads
perhaps_decodes s tree tag old result new k =
    let d = sought_decodes s tree (one_tag (looked_for tag)) old result new k in record { stays = d.stays; end = d.end; exact = d.exact }

-- A failed allocation is reported by the same rules before a value is read and after it.
pub made_before : {D : Type 0} (made : Result D AllocError → Type 0) (old mid : State) (e : DecodeError) → Keeps old mid → MakesValue made mid (Err e) → MakesValue made old (Err e)
made_before made old mid e k (x, m, w) = (x, m, rules_same old mid OutOfMemory e k w)

-- For running out of memory nothing is said of what is read.
alloc_failed : {D : Type 0} (R : Reading Tree) (made : Result D AllocError → Type 0) (old : State) (e : DecodeError) → MakesValue made old (Err e) → Exact R old.rest (refusal e.kind)
alloc_failed R made old e (x, m, w) = subst (λ k. Exact R old.rest (refusal k)) (sym (ap (λ (y : DecodeError). y.kind) w)) tt

-- So the rules are strict before a value is read exactly if they are after it.
pub strict_before : (old mid : State) → Keeps old mid → IsStrict mid.rule → IsStrict old.rule
strict_before old mid k h = subst IsStrict (ap (λ (s : State). s.rule) k.stays) h

pub strict_after : (old mid : State) → Keeps old mid → IsStrict old.rule → IsStrict mid.rule
strict_after old mid k h = subst IsStrict (sym (ap (λ (s : State). s.rule) k.stays)) h

-- A value that is there, and isn't the default where that may not be there.
module _ (rule : Codec) (without : Tree) (R : Reading Tree) where
  abbrev NotDefault : Reading Tree
  NotDefault input t rest = R input t rest × (IsStrict rule → Same t without → ⊥)

  other_got : (input : List ℕ) (v : Tree) (r : List ℕ) → (IsStrict rule → Same v without → ⊥) → Exact R input (Got v r) → Exact NotDefault input (Got v r)
  other_got input v r n x = ((x.0, n), λ u s k. x.1 u s k.0)

  other_refused : (input : List ℕ) (k : DecodeErrorKind) → Exact R input (refusal k) → Exact NotDefault input (refusal k)
  other_refused input k x = Exact-refusal k R NotDefault input input (λ n u s w. n u s w.0) x

  default_refused : (input : List ℕ) (k : DecodeErrorKind) (v : Tree) (r : List ℕ) → IsStrict rule → Same v without → Exact R input (Got v r) → Exact NotDefault input (refusal k)
  default_refused input k v r h same x = Exact-none k NotDefault input (λ u s w. w.1 h (subst (λ z. Same z without) (sym (x.1 u s w.0).0) same))

-- The same of a default, whose tree is used if the value is left out.
abbrev pub ReadsSoughtDefault : Key → Sought → Tree → Shape → Codec → ℕ → Bool → Reading Tree
ReadsSoughtDefault key tags without s rule depth closing = ReadsPart rule (default_by key without) tags (Reads rule s depth closing) closing

pub sought_default_decodes : {D : Type 0} (key : Key) (s : Shape) (tree : D → Tree) (made : Result D AllocError → Type 0) (tags : Sought) (old : State) (result : Result D DecodeError) (new : State)
    → DecodesSoughtOrDefault (Decodes s tree) tree made tags old result new → (without : Tree) → ((v : D) → made (Ok v) → tree v ≡ without)
    → DecodesBy (ReadsSoughtDefault key tags without s) tree old result new
sought_default_decodes key s tree made tags old (Ok v) new (inl (a, m, e)) without is =
    let R = NotDefault old.rule without (ReadsIt s old) in
    subst (λ n. DecodesBy (ReadsSoughtDefault key tags without s) tree old (Ok v) n) (sym e)
    (record { stays = refl; end = IsEnd-refl old.rest; exact = subst (λ t. Exact (MayRead R without tags old) old.rest (Got t old.rest)) (sym (is v m)) (out_of_it R without tags old a) })
sought_default_decodes key s tree made tags old (Ok v) new (inr (t, k, n)) without is =
    let other : IsStrict old.rule → Same (tree v) without → ⊥ = λ h same. let d = n h in d.2 (subst (Same (tree v)) (sym (is d.0 d.1)) same) in
    record {
      stays = k.stays;
      end = k.end;
      exact = in_it (NotDefault old.rule without (ReadsIt s old)) without tags old t (Got (tree v) new.rest) (other_got old.rule without (ReadsIt s old) old.rest (tree v) new.rest other k.exact);
    }
sought_default_decodes key s tree made tags old (Err e) new (no_look c q) without is =
    subst (λ n. DecodesBy (ReadsSoughtDefault key tags without s) tree old (Err e) n) (sym q)
    (record { stays = refl; end = IsEnd-refl old.rest; exact = unread (NotDefault old.rule without (ReadsIt s old)) without tags old e c })
sought_default_decodes key s tree made tags old (Err e) new (no_default a m q) without is =
    subst (λ n. DecodesBy (ReadsSoughtDefault key tags without s) tree old (Err e) n) (sym q)
    (record { stays = refl; end = IsEnd-refl old.rest; exact = alloc_failed (MayRead (NotDefault old.rule without (ReadsIt s old)) without tags old) made old e m })
sought_default_decodes key s tree made tags old (Err e) new (no_read t k) without is =
    record {
      stays = k.stays;
      end = k.end;
      exact = in_it (NotDefault old.rule without (ReadsIt s old)) without tags old t (refusal e.kind) (other_refused old.rule without (ReadsIt s old) old.rest e.kind k.exact);
    }
sought_default_decodes key s tree made tags old (Err e) new (not_compared t v k h m) without is =
    record { stays = k.stays; end = k.end; exact = alloc_failed (MayRead (NotDefault old.rule without (ReadsIt s old)) without tags old) made old e m }
sought_default_decodes key s tree made tags old (Err e) new (present t v k h d m same w) without is =
    record {
      stays = k.stays;
      end = k.end;
      exact = in_it (NotDefault old.rule without (ReadsIt s old)) without tags old t (refusal e.kind)
          (default_refused old.rule without (ReadsIt s old) old.rest e.kind (tree v) new.rest h (subst (Same (tree v)) (is d m) same) k.exact);
    }

pub default_decodes : {D : Type 0} (s : Shape) (tree : D → Tree) (made : Result D AllocError → Type 0) (tag : Tag) (old : State) (result : Result D DecodeError) (new : State)
    → DecodesOrDefault (Decodes s tree) tree made tag old result new → DecodesDefault tag s tree made old result new
default_decodes s tree made tag old result new k = sought_default_decodes own_tag s tree made (one_tag (looked_for tag)) old result new k

-- what the look at the next tag found
pub parsed_out : (tags : Sought) (s : State) (b : Bool) → b ≡ false → NextIs tags s (Ok b) → NextIs tags s (Ok false)
parsed_out tags s b e k = subst (λ z. NextIs tags s (Ok z)) e k

pub parsed_there : (tags : Sought) (s : State) (b : Bool) → b ≡ true → NextIs tags s (Ok b) → NextIs tags s (Ok true)
parsed_there tags s b e k = subst (λ z. NextIs tags s (Ok z)) e k

-- the default that is made where the value is left out
pub or_made : {D : Type 0} (read : State → Result D DecodeError → State → Type 0) (tree : D → Tree) (made : Result D AllocError → Type 0) (tags : Sought) (old : State) (r : Result D DecodeError)
    → NextIs tags old (Ok false) → MakesValue made old r → DecodesSoughtOrDefault read tree made tags old r old
or_made read tree made tags old (Ok v) a m = inl (a, m, refl)
or_made read tree made tags old (Err e) a m = no_default a m refl

-- A value that was read is what the call returns, unless it equals the default.
pub unless_default : {D : Type 0} (read : State → Result D DecodeError → State → Type 0) (tree : D → Tree) (made : Result D AllocError → Type 0) (tags : Sought) (old mid : State) (v : D) (r : Result D DecodeError)
    → NextIs tags old (Ok true) → read old (Ok v) mid → Keeps old mid → ReturnsUnlessDefault tree made mid v r → DecodesSoughtOrDefault read tree made tags old r mid
unless_default read tree made tags old mid v (Ok w) t k s (e, n) = subst (λ z. DecodesSoughtOrDefault read tree made tags old (Ok z) mid) (sym e) (inr (t, k, λ h. n (strict_after old mid s h)))
unless_default read tree made tags old mid v (Err e) t k s (h, inl m) = not_compared t v k (strict_before old mid s h) (made_before made old mid e s m)
unless_default read tree made tags old mid v (Err e) t k s (h, inr (d, m, same, w)) = present t v k (strict_before old mid s h) d m same (rules_same old mid (Der DefaultValuePresent) e s w)

module _ {D : Type 0} (tree : D → Tree) (made : Result D AllocError → Type 0) (mid : State) (v : D) where
  pub unless_beyond : (part : Beyond D) (old : State) (r : Result D DecodeError) → ReturnsUnlessDefault tree made mid v r → part old v mid → IfOk r (λ w. BeyondDefault part old w mid)
  unless_beyond part old (Ok w) (e, n) k = subst (λ z. BeyondDefault part old z mid) (sym e) (inl k)
  unless_beyond part old (Err e) h k = tt

  pub unless_rules : (old : State) (r : Result D DecodeError) → Keeps old mid → ReturnsUnlessDefault tree made mid v r → IfErr r (λ e. e.codec ≡ old.rule)
  unless_rules old (Ok w) s h = tt
  unless_rules old (Err e) s (h, inl (x, m, w)) = ap (λ (y : DecodeError). y.codec) (rules_same old mid OutOfMemory e s w)
  unless_rules old (Err e) s (h, inr (d, m, same, w)) = ap (λ (y : DecodeError). y.codec) (rules_same old mid (Der DefaultValuePresent) e s w)
