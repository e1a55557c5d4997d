-- What the list of a message says of its normal encoding, and of the first departure.
use Rattle.std.proofs.Common.{inl, inr, ℕ, List, [], ◌∷◌, length, Some, None, refl, sym, ap, ◌∙◌, subst}
use Rattle.std.specs.Prelude.{slice_get}
use Rattle.std.specs.List.{AllByRecursion}
use Rattle.rasn_types.specs.declared.types.codec.Codec.{Codec}
use Rattle.rasn_types.specs.declared.types.codec.Codec.TheVariants.{Ber, Der}
use Rattle.rasn_types.specs.Framing.{AreOctets}
use Rattle.rasn_types.specs.Grammar.{top}
use Rattle.rasn.specs.Normal.{IsNormal}
use Rattle.rasn_schema.specs.declared.types.«Type».{«Type»}
use Rattle.rasn_dynamic.specs.declared.message.MessageParts.{MessageParts}
use Rattle.rasn_dynamic.specs.declared.span.Span.{Span}
use Rattle.rasn_dynamic.specs.Entry.{shape_of}
use Rattle.rasn_dynamic.specs.Faults.{start}
use Rattle.rasn_dynamic.specs.SameParts.{IsSamePart, AreSameParts, AreReadableTypes}
use Rattle.rasn_dynamic.proofs.SameParts.{as_parts, same_parts}
use Rattle.rasn_lint.specs.declared.by_schema.OpenTypes.{OpenTypes}
use Rattle.rasn_lint.specs.declared.by_schema.OpenTypes.TheVariants.{Unexamined, Examined}
use Rattle.rasn.proofs.Normalised.{unchanged}
use Rattle.rasn_dynamic.specs.Walk.{ArePartsOf, path_after}
use Rattle.rasn_lint.specs.declared.departure.Departure.{Departure}
use Rattle.rasn_lint.specs.Lint.{IsDer, HasFormed, AreFormed, IsFirstIn, IsFirstDeparture}
use Rattle.rasn_lint.specs.Untyped.{HasOpen}
use Rattle.rasn_lint.specs.WellFormed.{AreEncodings}
use Rattle.rasn_lint.specs.Laws.{NormalIsClean, FormedIsClean, IsClosed, ClosedIsClean, FirstIsListed, ClosedFirstIsListed, CleanIsNormal}
use Rattle.rasn_lint.proofs.Holding.{holds}
use Rattle.rasn_lint.proofs.Kept.{kept, formed}

pub clean_if_formed : FormedIsClean
clean_if_formed opens types id rule input octets ds n l all = l.clean.1 ((n.again, n.read_again.0), all)

-- The open types and the unknown values of the normal encoding are those of the input.
formed_anew : (types : List «Type») (id : ℕ) (rule : Codec) (input octets : List ℕ) (ps qs : MessageParts) → AreReadableTypes types → AreOctets input → AreOctets octets → IsNormal rule (shape_of types id) input octets
    → ArePartsOf types rule id input ps → ArePartsOf types Ber id octets qs → AllByRecursion (HasFormed types) ps.list.items → AllByRecursion (HasFormed types) qs.list.items
formed_anew types id rule input octets ps qs lawful are written n p q all =
    let deep : ℕ = 18446744073709551615 in
    let h = holds rule types lawful deep id 0 0 (start rule input) p.last ps.list.items p.listed (top rule) n.value [] are n.means.0 in
    let k = holds Der types lawful deep id 0 0 (start Ber octets) q.last qs.list.items q.listed (top Der) n.again [] written n.read_again.0 in
    formed types deep id n.again qs.list.items k (kept rule types deep id n.value ps.list.items h all n.again n.same)

pub normal_is_clean : NormalIsClean
normal_is_clean Unexamined types id rule input octets ds ps lawful are written n p all l = clean_if_formed Unexamined types id rule input octets ds n l tt
normal_is_clean Examined types id rule input octets ds ps lawful are written n p all l =
    clean_if_formed Examined types id rule input octets ds n l (formed_anew types id rule input octets ps l.parts lawful are written n p l.are_parts all)

all_formed : (types : List «Type») → IsClosed Examined types → (es : List Span) → AllByRecursion (HasFormed types) es
all_formed types none [] = tt
all_formed types none (e ∷ es) = (((λ tag inside is has. absurd (none.0 e.id.0 tag is)), λ is. absurd (none.1 e.id.0 is)), all_formed types none es)

are_formed : (opens : OpenTypes) (types : List «Type») → IsClosed opens types → (es : List Span) → AreFormed opens types es
are_formed Unexamined types none es = tt
are_formed Examined types none es = all_formed types none es

pub closed_is_clean : ClosedIsClean
closed_is_clean opens types id rule input octets ds none n l = clean_if_formed opens types id rule input octets ds n l (are_formed opens types none l.parts.list.items)

-- ---- the first departure

formed_same : (types : List «Type») (a b : Span) → IsSamePart a b → HasFormed types a → HasFormed types b
formed_same types a b same w = (
  λ tag inside is has. w.0 tag inside (ap (slice_get types) same.id ∙ is) (subst (λ l. HasOpen tag l inside) (sym same.octets) has),
  λ is. subst AreEncodings same.octets (w.1 (ap (slice_get types) same.id ∙ is)),
)

same_formed : (types : List «Type») (es fs : List Span) → AreSameParts es fs → AllByRecursion (HasFormed types) es → AllByRecursion (HasFormed types) fs
same_formed types [] fs h all = subst (AllByRecursion (HasFormed types)) (sym h) tt
same_formed types (e ∷ es) fs (g, more, is, same, h) (w, all) = subst (AllByRecursion (HasFormed types)) (sym is) (formed_same types e g same w, same_formed types es more h all)

none_first : (types : List «Type») (len : ℕ) (path : List ℕ) (es : List Span) (d : Departure) → AllByRecursion (HasFormed types) es → IsFirstIn types len path es d → ⊥
none_first types len path [] d all h = h
none_first types len path (e ∷ es) d all (inl (inl (is, n, w))) = n (all.0.1 is)
none_first types len path (e ∷ es) d all (inl (inr (tag, inside, is, has, n, w))) = n (all.0.0 tag inside is has)
none_first types len path (e ∷ es) d all (inr (f, h)) = none_first types len (path_after path e) es d all.1 h

pub first_is_listed : FirstIsListed
first_is_listed Unexamined types id input ds None lawful are l h = (λ q. l.clean.1 (h.0, tt), λ q. refl)
first_is_listed Unexamined types id input ds (Some d) lawful are l h = (λ q. cc, λ q. absurd (h.0 (l.clean.0 q).0))
first_is_listed Examined types id input ds None lawful are l (der, (ps, p, all)) =
    let same = same_parts types Der Ber id input [] l.are_parts.last.rest ps l.parts.list.items lawful are p (as_parts types Ber id input l.parts l.are_parts) in
    (λ q. l.clean.1 (der, same_formed types ps l.parts.list.items same all), λ q. refl)
first_is_listed Examined types id input ds (Some d) lawful are l (inl h) = (λ q. cc, λ q. absurd (h.0 (l.clean.0 q).0))
first_is_listed Examined types id input ds (Some d) lawful are l (inr (der, (ps, p, f))) =
    let same = same_parts types Ber Der id input l.are_parts.last.rest [] l.parts.list.items ps lawful are (as_parts types Ber id input l.parts l.are_parts) p in
    (λ q. cc, λ q. absurd (none_first types (length input) [] ps d (same_formed types l.parts.list.items ps same (l.clean.0 q).1) f))

-- No part is open.
none_open : (types : List «Type») → IsClosed Examined types → (len : ℕ) (path : List ℕ) (es : List Span) (d : Departure) → IsFirstIn types len path es d → ⊥
none_open types none len path [] d h = h
none_open types none len path (e ∷ es) d (inl (inl (is, n, w))) = none.1 e.id.0 is
none_open types none len path (e ∷ es) d (inl (inr (tag, inside, is, has, n, w))) = none.0 e.id.0 tag is
none_open types none len path (e ∷ es) d (inr (f, h)) = none_open types none len (path_after path e) es d h

not_der : (opens : OpenTypes) (types : List «Type») (id : ℕ) (input : List ℕ) (d : Departure) → IsClosed opens types → IsFirstDeparture opens types id input (Some d) → IsDer types id input → ⊥
not_der Unexamined types id input d none h k = h.0 k
not_der Examined types id input d none (inl h) k = h.0 k
not_der Examined types id input d none (inr (r, (ps, a, f))) k = none_open types none (length input) [] ps d f

pub closed_first_is_listed : ClosedFirstIsListed
closed_first_is_listed opens types id input ds None none l h = (λ q. l.clean.1 (h.0, are_formed opens types none l.parts.list.items), λ q. refl)
closed_first_is_listed opens types id input ds (Some d) none l h = (λ q. cc, λ q. absurd (not_der opens types id input d none h (l.clean.0 q).0))

pub clean_is_normal : CleanIsNormal
clean_is_normal opens types id rule input octets lawful are t carried l n = let d = (l.clean.0 refl).0 in unchanged are n lawful t carried d.0 d.1
