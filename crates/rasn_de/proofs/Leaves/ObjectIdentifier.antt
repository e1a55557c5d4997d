-- An OBJECT IDENTIFIER is read exactly where the grammar has one.
use Rattle.std.proofs.Common.{◌≡◌, ◌≢◌, ℕ, ◌+◌, ◌*◌, ◌-◌, ◌/◌, ◌^◌, ◌<◌, ◌≤◌, inl, inr, false, ◌&&◌, List, [], ◌∷◌, ◌++◌, length, Option, Some, None, Result, Ok, Err, refl, sym, ap, ap₂, ◌∙◌, subst, arith, append_assoc, length-append}
use Rattle.std.specs.Prelude.{min, nat_eq}
use Rattle.std.proofs.lemmas.Bool.Decides.{nat_tests}
use Rattle.std.proofs.lemmas.List.{append-nil}
use Rattle.rasn_types.specs.declared.types.tag.Tag.{Tag}
use Rattle.rasn_types.specs.declared.types.codec.Codec.{Codec}
use Rattle.rasn_types.specs.declared.types.codec.Codec.TheVariants.{Ber, Cer, Der}
use Rattle.rasn_types.specs.declared.error.decode.DecodeError.{DecodeError}
use Rattle.rasn_types.specs.Framing.{AreOctets, IsChain, Spells128, number_in}
use Rattle.rasn_types.specs.Shapes.{Tree, numbers, leaf, object_identifier}
use Rattle.rasn_types.specs.Trees.{unconstrained}
use Rattle.rasn_types.specs.Options.{IsSomeExactlyIf}
use Rattle.rasn_types.specs.Numbered.{AreArcs}
use Rattle.rasn_types.specs.Tags.{IsStrict}
use Rattle.rasn_types.specs.Contents.{Contents, Arcs, ShortArcs, IsShortest128, IsShortest, IsObjectIdentifier}
use Rattle.rasn_types.specs.Grammar.{Reads}
use Rattle.rasn_types.proofs.Headers.Digits.{arcs_one}
use Rattle.rasn_de.specs.declared.ber.de.parser.ParseError.{ParseError}
use Rattle.rasn_de.specs.declared.ber.de.parser.ParseError.TheVariants.{OutOfMemory, UnsupportedObjectIdentifierArc, Der}
use Rattle.rasn_types.specs.declared.error.decode.DerDecodeErrorKind.TheVariants.{NonMinimalArc}
use Rattle.rasn_de.specs.Headers.{number128_at, is_padded, is_der}
use Rattle.rasn_de.specs.Causes.{Cause, fault, out_of_bound, error_kind}
use Rattle.rasn_de.specs.Leaves.{FromContents, definite_at, FailsAs, DecodesLeaf}
use Rattle.rasn_de.specs.ObjectIdentifier.{arc_at, ReadsArcs, FailsAtSubidentifier, HasFirstSubidentifier, ObjectIdentifierIn, ObjectIdentifierAt, ParsesArcs, DecodesArcs, DecodesOnlyArcs, DecodesObjectIdentifier}
use Rattle.rasn_de.specs.State.{State, at}
use Rattle.rasn_de.specs.Steps.{IsErrorOf}
use Rattle.rasn_de.specs.Decodes.{Decodes}
use Rattle.rasn_de.proofs.Headers.Numbers.{number128_parsed, number128_spelled}
use Rattle.rasn_de.proofs.Headers.Memory.{NoMemory, number128_none, none_cond}
use Rattle.rasn_de.proofs.Headers.Results.{guarded}
use Rattle.rasn_de.proofs.Headers.NextTag.{kind_memory}
use Rattle.rasn_de.proofs.Leaves.Errors.{rule_is, leaf_refused, contents_read}
use Rattle.rasn_de.proofs.Leaves.Memory.{leaf_plain, IsPlainCause}
use Rattle.rasn_de.proofs.Leaves.Outcomes.{plain_agrees, decoded_answers, definite_end, alloc_failed}

abbrev pub arcs_of : ℕ → List ℕ → List ℕ
arcs_of s ns = min 2 (s / 40) ∷ (s - 40 * min 2 (s / 40)) ∷ ns

-- Whole subidentifiers were read, and these arcs are theirs.
pub record ArcsSoFar (rule : Codec) (c rest arcs : List ℕ) : Type 0 where
  pub front : List ℕ
  pub first : ℕ
  pub others : List ℕ
  pub whole : Arcs front (first ∷ others)
  pub short : IsStrict rule → ShortArcs front (first ∷ others)
  pub is : c ≡ front ++ rest
  pub arcs_are : arcs ≡ arcs_of first others
  pub begins : HasFirstSubidentifier rule c

none_before : (p n : ℕ) → 0 * p + n ≡ n
none_before p n = omega arith

-- where the next octet is looked at, it isn't 80
short_front : (rule : Codec) (l front rest : List ℕ) → is_der rule && is_padded l ≡ false → IsChain front → l ≡ front ++ rest → IsStrict rule → IsShortest128 front
short_front Ber l front rest g c e s = absurd s
short_front Cer l front rest g c e s = absurd s
short_front Der l [] rest g c e s = absurd c
short_front Der l (b ∷ front) rest g c e s = let h : nat_eq b 128 ≡ false = sym (ap is_padded e) ∙ g in grind (arith, nat_tests)

-- a subidentifier that was read
spelled : (rule : Codec) (l : List ℕ) (n : ℕ) (rest : List ℕ) → arc_at rule l ≡ Ok (n, rest) → (front : List ℕ) × Spells128 front n × (l ≡ front ++ rest) × (IsStrict rule → IsShortest128 front)
spelled rule l n rest e =
    let g = guarded (is_der rule && is_padded l) (Der NonMinimalArc) (number128_at UnsupportedObjectIdentifierArc 0 l) (n, rest) e in
    let s = number128_parsed UnsupportedObjectIdentifierArc 0 l (n, rest) g.1 in (
      s.front,
      record { chain = s.chain; is = s.number ∙ none_before (128 ^ length s.front) (number_in 128 s.front); below = s.below },
      s.is,
      short_front rule l s.front rest g.0 s.chain s.is,
    )

arcs_more : (ns front piece : List ℕ) (n : ℕ) → Arcs front ns → Spells128 piece n → Arcs (front ++ piece) (ns ++ n ∷ [])
arcs_more [] front piece n a s = rw a (piece, [], s, sym (append-nil piece), refl)
arcs_more (m ∷ ns) front piece n (p, q, t, e, a) s = (p, q ++ piece, t, ap (λ l. l ++ piece) e ∙ append_assoc p q piece, arcs_more ns q piece n a s)

short_more : (ns front piece : List ℕ) (n : ℕ) → ShortArcs front ns → Spells128 piece n → IsShortest128 piece → ShortArcs (front ++ piece) (ns ++ n ∷ [])
short_more [] front piece n a s w = rw a (piece, [], s, w, sym (append-nil piece), refl)
short_more (m ∷ ns) front piece n (p, q, t, v, e, a) s w = (p, q ++ piece, t, v, ap (λ l. l ++ piece) e ∙ append_assoc p q piece, short_more ns q piece n a s w)

pub arcs_start : (rule : Codec) (c rest arcs : List ℕ) (s : ℕ) → arc_at rule c ≡ Ok (s, rest) → arcs ≡ arcs_of s [] → ArcsSoFar rule c rest arcs
arcs_start rule c rest arcs s e f =
    let k = spelled rule c s rest e in
    record {
      front = k.0;
      first = s;
      others = [];
      whole = (k.0, [], k.1, sym (append-nil k.0), refl);
      short = λ strict. (k.0, [], k.1, k.3 strict, sym (append-nil k.0), refl);
      is = k.2;
      arcs_are = f;
      begins = (s, rest, e);
    }

pub arcs_next : (rule : Codec) (c rest after arcs more : List ℕ) (n : ℕ) → ArcsSoFar rule c rest arcs → arc_at rule rest ≡ Ok (n, after) → more ≡ arcs ++ n ∷ [] → ArcsSoFar rule c after more
arcs_next rule c rest after arcs more n a e f =
    let k = spelled rule rest n after e in
    record {
      front = a.front ++ k.0;
      first = a.first;
      others = a.others ++ n ∷ [];
      whole = arcs_more (a.first ∷ a.others) a.front k.0 n a.whole k.1;
      short = λ strict. short_more (a.first ∷ a.others) a.front k.0 n (a.short strict) k.1 (k.3 strict);
      is = a.is ∙ (ap (λ l. a.front ++ l) k.2 ∙ sym (append_assoc a.front k.0 after));
      arcs_are = f ∙ ap (λ l. l ++ n ∷ []) a.arcs_are;
      begins = a.begins;
    }

pub arcs_done : (rule : Codec) (c rest arcs : List ℕ) → ArcsSoFar rule c rest arcs → rest ≡ [] → ReadsArcs rule c arcs
arcs_done rule c rest arcs a e =
    let all : a.front ≡ c = sym (a.is ∙ (ap (λ l. a.front ++ l) e ∙ append-nil a.front)) in (
      (a.first, a.others, subst (λ l. Arcs l (a.first ∷ a.others)) all a.whole, a.arcs_are),
      λ strict. (a.first ∷ a.others, subst (λ l. ShortArcs l (a.first ∷ a.others)) all (a.short strict)),
    )

pub arcs_made : (P : Type 0) (made : Option (List ℕ)) (arcs told : List ℕ) → IsSomeExactlyIf made P arcs → made ≡ Some told → arcs ≡ told
arcs_made P (Some x) arcs told m e = let z : x ≡ told = cc in sym m.1 ∙ z
arcs_made P None arcs told m e = cc

first_small : (n : ℕ) → min 2 n ≤ 2
first_small n = omega arith

pub arcs_are_some : (rule : Codec) (c rest arcs : List ℕ) → ArcsSoFar rule c rest arcs → AreArcs arcs
arcs_are_some rule c rest arcs a = rw a.arcs_are (first_small (a.first / 40))

pub stops_first : (rule : Codec) (c : List ℕ) (f : ParseError) → arc_at rule c ≡ Err f → FailsAtSubidentifier rule c f
stops_first rule c f e = record { front = []; numbers = []; back = c; whole = refl; short = λ strict. refl; is = refl; owed = inl refl; stops = e }

pub stops_later : (rule : Codec) (c rest arcs : List ℕ) (f : ParseError) → ArcsSoFar rule c rest arcs → rest ≢ [] → arc_at rule rest ≡ Err f → FailsAtSubidentifier rule c f
stops_later rule c rest arcs f a n e = record { front = a.front; numbers = a.first ∷ a.others; back = rest; whole = a.whole; short = a.short; is = a.is; owed = inr n; stops = e }

pub identifier_one : (l a b : List ℕ) → IsObjectIdentifier l a → IsObjectIdentifier l b → a ≡ b
identifier_one l a b h k =
    let e : h.0 ∷ h.1 ≡ k.0 ∷ k.1 = arcs_one (h.0 ∷ h.1) (k.0 ∷ k.1) l h.2 k.2 in
    let f : h.0 ≡ k.0 = cc in
    let g : h.1 ≡ k.1 = cc in
    h.3 ∙ (ap₂ arcs_of f g ∙ sym k.3)

-- what is read of a subidentifier
spelled_at : (p q : List ℕ) (n : ℕ) → Spells128 p n → number128_at UnsupportedObjectIdentifierArc 0 (p ++ q) ≡ Ok (n, q)
spelled_at p q n s =
    let e : 0 * 128 ^ length p + number_in 128 p ≡ n = none_before (128 ^ length p) (number_in 128 p) ∙ sym s.is in
    number128_spelled UnsupportedObjectIdentifierArc 0 p q s.chain (subst (λ z. z < 2 ^ 32) (sym e) s.below) ∙ ap (λ z. Ok (z, q)) e

none_spelled : (p : ℕ × List ℕ) → number128_at UnsupportedObjectIdentifierArc 0 [] ≡ Ok p → ⊥
unfolding number128_at
none_spelled p e = cc

-- subidentifiers that are read by a rule
abbrev pub RuleArcs : Codec → List ℕ → List ℕ → Type 0
RuleArcs rule l [] = l ≡ []
RuleArcs rule l (n ∷ ns) = (front : List ℕ) × (back : List ℕ) × Spells128 front n × (IsStrict rule → IsShortest128 front) × (l ≡ front ++ back) × RuleArcs rule back ns

lenient_arcs : (rule : Codec) → (IsStrict rule → ⊥) → (ns l : List ℕ) → Arcs l ns → RuleArcs rule l ns
lenient_arcs rule not [] l a = a
lenient_arcs rule not (n ∷ ns) l (p, q, s, e, a) = (p, q, s, (λ strict. absurd (not strict)), e, lenient_arcs rule not ns q a)

strict_arcs : (rule : Codec) (ns l : List ℕ) → ShortArcs l ns → RuleArcs rule l ns
strict_arcs rule [] l a = a
strict_arcs rule (n ∷ ns) l (p, q, s, w, e, a) = (p, q, s, (λ strict. w), e, strict_arcs rule ns q a)

short_arcs : (ns l : List ℕ) → ShortArcs l ns → Arcs l ns
short_arcs [] l a = a
short_arcs (n ∷ ns) l (p, q, s, w, e, a) = (p, q, s, e, short_arcs ns q a)

rule_arcs : (rule : Codec) (ns l : List ℕ) → Arcs l ns → (IsStrict rule → (ms : List ℕ) × ShortArcs l ms) → RuleArcs rule l ns
rule_arcs Ber ns l a w = lenient_arcs Ber (λ s. s) ns l a
rule_arcs Cer ns l a w = lenient_arcs Cer (λ s. s) ns l a
rule_arcs Der ns l a w = let m = w tt in strict_arcs Der ns l (subst (ShortArcs l) (arcs_one m.0 ns l (short_arcs m.0 l m.1) a) m.1)

-- Subidentifiers are followed by the others.
arcs_left : (rule : Codec) (ns ms front back : List ℕ) → Arcs front ns → RuleArcs rule (front ++ back) ms → (rest : List ℕ) × RuleArcs rule back rest × (ms ≡ ns ++ rest)
arcs_left rule [] ms front back a b = (ms, subst (λ l. RuleArcs rule (l ++ back) ms) a b, refl)
arcs_left rule (n ∷ ns) [] front back (p, q, s, e, a) b =
    let h : [] ≡ p ++ (q ++ back) = sym b ∙ (ap (λ l. l ++ back) e ∙ append_assoc p q back) in
    let k = spelled_at p (q ++ back) n s in
    let r : number128_at UnsupportedObjectIdentifierArc 0 [] ≡ Ok (n, q ++ back) = ap (number128_at UnsupportedObjectIdentifierArc 0) h ∙ k in
    absurd (none_spelled (n, q ++ back) r)
arcs_left rule (n ∷ ns) (m ∷ ms) front back (p, q, s, e, a) (u, v, t, w, f, b) =
    let h : p ++ (q ++ back) ≡ u ++ v = sym (append_assoc p q back) ∙ (sym (ap (λ l. l ++ back) e) ∙ f) in
    let k : ◌≡◌ {A = Result (ℕ × List ℕ) ParseError} (Ok (n, q ++ back)) (Ok (m, v)) = sym (spelled_at p (q ++ back) n s) ∙ (ap (number128_at UnsupportedObjectIdentifierArc 0) h ∙ spelled_at u v m t) in
    let z : (n, q ++ back) ≡ (m, v) = cc in
    let x : n ≡ m = ap (λ (i : ℕ × List ℕ). i.0) z in
    let y : q ++ back ≡ v = ap (λ (i : ℕ × List ℕ). i.1) z in
    let r = arcs_left rule ns ms q back a (subst (λ l. RuleArcs rule l ms) (sym y) b) in
    (r.0, r.1, ap₂ ◌∷◌ (sym x) r.2)

-- what is read of a subidentifier by a rule
not_padded : (rule : Codec) (p q : List ℕ) → IsChain p → (IsStrict rule → IsShortest128 p) → is_der rule && is_padded (p ++ q) ≡ false
not_padded Ber p q c w = refl
not_padded Cer p q c w = refl
not_padded Der [] q c w = absurd c
not_padded Der (b ∷ p) q c w = let h : b ≢ 128 = w tt in grind (arith, nat_tests)

arc_spelled : (rule : Codec) (p q : List ℕ) (n : ℕ) → Spells128 p n → (IsStrict rule → IsShortest128 p) → arc_at rule (p ++ q) ≡ Ok (n, q)
arc_spelled rule p q n s w = rw (not_padded rule p q s.chain w) (spelled_at p q n s)

pub stops_none : (rule : Codec) (c : List ℕ) (f : ParseError) (arcs : List ℕ) → FailsAtSubidentifier rule c f → IsObjectIdentifier c arcs → (IsStrict rule → IsShortest object_identifier c) → ⊥
stops_none rule c f arcs s (n, ns, a, e) w =
    let l = arcs_left rule s.numbers (n ∷ ns) s.front s.back s.whole (subst (λ z. RuleArcs rule z (n ∷ ns)) s.is (rule_arcs rule (n ∷ ns) c a w)) in
    go l.0 l.1 l.2
  where
    go : (rest : List ℕ) → RuleArcs rule s.back rest → n ∷ ns ≡ s.numbers ++ rest → ⊥
    go [] b g = elim s.owed [ inl m ↦ nothing (g ∙ (ap (λ l. l ++ []) m)) | inr k ↦ k b ]
      where
        nothing : n ∷ ns ≡ [] → ⊥
        nothing h = cc
    go (r ∷ rest) (p, q, t, v, h, b) g =
        let k : arc_at rule s.back ≡ Ok (r, q) = ap (arc_at rule) h ∙ arc_spelled rule p q r t v in
        let m = s.stops in
        cc

-- A refusal isn't for running out of memory.
pub stops_memory : (rule : Codec) (c : List ℕ) (f : ParseError) → FailsAtSubidentifier rule c f → f ≢ OutOfMemory
stops_memory rule c f s =
    subst NoMemory s.stops (none_cond (is_der rule && is_padded s.back) (Err (Der NonMinimalArc)) _ (λ e. cc) (number128_none UnsupportedObjectIdentifierArc 0 s.back (λ e. cc)))

object_parsed : (rule : Codec) (c arcs : List ℕ) → AreOctets c → ObjectIdentifierIn rule c (Ok arcs) → Contents rule object_identifier c (numbers arcs) × (IsStrict rule → IsShortest object_identifier c) × Unit {0}
object_parsed rule c arcs o a = ((arcs, refl, a.0), a.1, tt)

object_only : (rule : Codec) (c arcs : List ℕ) (t : Tree) → AreOctets c → ObjectIdentifierIn rule c (Ok arcs) → Contents rule object_identifier c t → Unit {0} → t ≡ numbers arcs
object_only rule c arcs t o a (others, e, b) u = e ∙ ap numbers (identifier_one c others arcs b a.0)

object_none : (rule : Codec) (c : List ℕ) (e : Cause) (t : Tree) → AreOctets c → ObjectIdentifierIn rule c (Err e) → Contents rule object_identifier c t → (IsStrict rule → IsShortest object_identifier c) → Unit {0} → ⊥
object_none rule c (fault f) t o s (arcs, e, a) w u = stops_none rule c f arcs s a w
object_none rule c (out_of_bound z bound) t o s k w u = s

object_decoded : (tag : Tag) (old new : State) (result : Result (List ℕ) DecodeError) → AreOctets old.rest → DecodesLeaf (λ a. a) (ObjectIdentifierAt old.rule tag old.rest) old result new
    → Decodes (leaf object_identifier tag unconstrained) numbers old result new
unfolding Reads
object_decoded tag old new result o g =
    decoded_answers (λ rule. Reads rule (leaf object_identifier tag unconstrained)) numbers (λ a. a) _ old new result
    (plain_agrees old.rule tag old.rest o object_identifier old.depth (λ t. Unit {0}) numbers (ObjectIdentifierIn old.rule) (object_parsed old.rule) (object_only old.rule) (object_none old.rule)) g

pub object_decodes : (tag : Tag) (old new : State) (result : Result (List ℕ) DecodeError) → AreOctets old.rest → DecodesObjectIdentifier tag old result new → Decodes (leaf object_identifier tag unconstrained) numbers old result new
object_decodes tag old new (Ok v) o g = object_decoded tag old new (Ok v) o g
object_decodes tag old new (Err e) o (inr (n, g)) = object_decoded tag old new (Err e) o g
object_decodes tag old new (Err e) o (inl (m, d, s, c, h, b)) =
    alloc_failed (λ rule. Reads rule (leaf object_identifier tag unconstrained)) numbers old new e m s (definite_end old.rule tag old.rest o c new.rest h)

object_plain : (rule : Codec) (c : List ℕ) (e : Cause) → ObjectIdentifierIn rule c (Err e) → IsPlainCause e
object_plain rule c (fault f) s = stops_memory rule c f s
object_plain rule c (out_of_bound z bound) b = b

-- where there are no contents
pub object_unframed : (tag : Tag) (old new : State) (e : DecodeError) → FailsAs (λ r. definite_at old.rule tag old.rest ≡ r) old e new → DecodesObjectIdentifier tag old (Err e) new
object_unframed tag old new e r =
    let k = leaf_refused (ObjectIdentifierIn old.rule) tag old new e r in
    inr (leaf_plain (ObjectIdentifierIn old.rule) (object_plain old.rule) tag old new e k, k)

-- what a decoder answers of the contents that it took
pub object_framed : (tag : Tag) (old new : State) (c : List ℕ) (result : Result (List ℕ) DecodeError) → definite_at old.rule tag old.rest ≡ Ok (c, new.rest) → new ≡ at old new.rest
    → DecodesArcs new.rule old.rule c result → DecodesObjectIdentifier tag old result new
object_framed tag old new c (Ok arcs) d s a = contents_read (λ o. o) (ObjectIdentifierIn old.rule) tag old new c arcs d a s
object_framed tag old new c (Err e) d s (k, inl (m, b)) = inl (m, k ∙ rule_is old new s, s, c, d, b)
object_framed tag old new c (Err e) d s (k, inr (f, t, q)) =
    inr (
      (λ m. kind_memory f (stops_memory old.rule c f t) (sym q ∙ m)),
      (fault f, subst (λ x. FromContents (ObjectIdentifierIn old.rule) x (Err (fault f, new.rest))) (sym d) (t, refl), q, k ∙ rule_is old new s, s),
    )

-- what a decoder answers of what was found in contents
pub arcs_told : (rule : Codec) (c : List ℕ) (s : State) (f : ParseError) (e : DecodeError) → ParsesArcs rule c (Err f) → IsErrorOf f s e → DecodesArcs s.rule rule c (Err e)
arcs_told rule c s f e h k = (
  ap (λ (x : DecodeError). x.codec) k,
  elim h [
    | inl (m, b) ↦ inl (ap (λ (x : DecodeError). x.kind) k ∙ ap error_kind m, b)
    | inr s ↦ inr (f, s, ap (λ (x : DecodeError). x.kind) k)
  ],
)

pub arcs_held : (named : Codec) (c : List ℕ) (result : Result (List ℕ) DecodeError) → DecodesArcs named Ber c result → DecodesOnlyArcs c result
arcs_held named c (Ok arcs) a = (a.0, λ others b. identifier_one c others arcs b a.0)
arcs_held named c (Err e) (k, inl (m, b)) = λ n arcs a. absurd (n m)
arcs_held named c (Err e) (k, inr (f, s, q)) = λ n arcs a. stops_none Ber c f arcs s a (λ strict. absurd strict)

-- A subidentifier leaves less.
pub rest_shorter : (rule : Codec) (l : List ℕ) (n : ℕ) (rest : List ℕ) → arc_at rule l ≡ Ok (n, rest) → length rest < length l
rest_shorter rule l n rest e = let k = spelled rule l n rest e in shorter k.0 k.1.chain k.2
  where
    shorter : (front : List ℕ) → IsChain front → l ≡ front ++ rest → length rest < length l
    shorter [] c f = absurd c
    shorter (b ∷ front) c f = let g = ap length f in let h = length-append front rest in omega arith
