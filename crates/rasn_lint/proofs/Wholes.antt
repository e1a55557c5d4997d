-- Whole encodings, one after the other, are told apart in one way.
use Rattle.std.proofs.Common.{◌≡◌, ◌⊎◌, inl, inr, ℕ, zero, suc, List, [], ◌∷◌, ◌++◌, length, Bool, true, false, refl, sym, ap, ◌∙◌, subst, arith}
use Rattle.std.proofs.lemmas.List.{append_cancel_right}
use Rattle.std.specs.List.{AllByRecursion}
use Rattle.rasn_types.specs.declared.types.codec.Codec.TheVariants.{Ber}
use Rattle.rasn_types.specs.declared.types.tag.Tag.{Tag}
use Rattle.rasn_types.specs.Contents.{joined_lists}
use Rattle.rasn_types.specs.Framing.{Frame, with_length, definite, CompleteEncoding, plain}
use Rattle.rasn_types.specs.Tags.{basic_form, der_form}
use Rattle.rasn_types.proofs.Encoding.Complete.{whole_one, whole_text_one, steps_twice}
use Rattle.rasn_lint.specs.Untyped.{IsFollowedBy, IsUnread, FollowsAfter, IsValueIn}
use Rattle.rasn_lint.specs.WellFormed.{IsWellFormed, AreWellFormed}
use Rattle.rasn_lint.specs.WellFormed.IsWellFormed.{primitive, constructed}
use Rattle.rasn_lint.specs.WellFormed.AreWellFormed.{none, one_more}
use Rattle.rasn_lint.specs.Listed.{IsOnlyRest}
use Rattle.rasn_lint.proofs.Opened.{followed_shorter}

-- A well-formed encoding is complete.
basic_frame : {text rest contents : List ℕ} {tag : Tag} {bit : Bool} → Frame der_form text tag bit rest (definite contents) → Frame basic_form text tag bit rest (definite contents)
basic_frame (with_length id len contents s a z e) = with_length id len contents s a (λ h. absurd h) e

whole_formed : {text : List ℕ} → IsWellFormed text → CompleteEncoding Ber text
whole_formed (primitive tag contents frame allowed) = plain tag false contents (basic_frame frame)
whole_formed (constructed tag parts frame allowed all) = plain tag true (joined_lists parts) (basic_frame frame)

no_whole : (x : List ℕ) → CompleteEncoding Ber x → (more : List ℕ) → x ++ more ≡ [] → ⊥
no_whole [] w more e = let n = steps_twice w in absurd (omega (arith, n))
no_whole (b ∷ x) w more e = cc

-- Octets are whole encodings, one after the other, in one way.
pub wholes_formed : (xs ps : List (List ℕ)) → AllByRecursion (CompleteEncoding Ber) xs → AreWellFormed ps → joined_lists xs ≡ joined_lists ps → AllByRecursion IsWellFormed xs
wholes_formed [] ps all formed e = tt
wholes_formed (x ∷ xs) _ (w, all) none e = absurd (no_whole x w (joined_lists xs) e)
wholes_formed (x ∷ xs) _ (w, all) (one_more {part = y} {parts = ys} f more) e =
    let v = whole_formed f in
    let text : x ≡ y = whole_text_one (joined_lists xs) (joined_lists ys) w v e in
    let after : joined_lists xs ≡ joined_lists ys = (whole_one (joined_lists xs) (joined_lists ys) w v e).0 in
    (subst IsWellFormed (sym text) f, wholes_formed xs ys all more after)

pub all_well_formed : (xs : List (List ℕ)) → AllByRecursion IsWellFormed xs → AreWellFormed xs
all_well_formed [] h = none
all_well_formed (x ∷ xs) (w, h) = one_more w (all_well_formed xs h)

-- ---- values that are read one after the other

pub no_octets : (rest : List ℕ) → IsFollowedBy [] rest → ⊥
no_octets rest h = let n = followed_shorter [] rest h in omega (arith, n)

-- What BER skips is the encoding in front.
pub skipped_whole : (x more rest : List ℕ) → CompleteEncoding Ber x → IsFollowedBy (x ++ more) rest → rest ≡ more
skipped_whole x more rest w (steps, s) = sym (whole_one more rest w s.whole s.is).0

-- Each value of well-formed encodings is one of them.
pub value_formed : (ps : List (List ℕ)) → AreWellFormed ps → (octets : List ℕ) → octets ≡ joined_lists ps → (first : List ℕ) → IsValueIn octets first → IsWellFormed first
value_formed _ none octets e first (zero, there, more, a, is, f) = absurd (no_octets more (subst (λ l. IsFollowedBy l more) (a ∙ e) f))
value_formed _ none octets e first (suc k, there, more, (next, f, a), is, g) = absurd (no_octets next (subst (λ l. IsFollowedBy l next) e f))
value_formed _ (one_more {part = x} {parts = xs} w ws) octets e first (zero, there, more, a, is, f) =
    let v = whole_formed w in
    let rest : more ≡ joined_lists xs = skipped_whole x (joined_lists xs) more v (subst (λ l. IsFollowedBy l more) (a ∙ e) f) in
    let all : first ++ joined_lists xs ≡ x ++ joined_lists xs = ap (λ l. first ++ l) (sym rest) ∙ (sym is ∙ (a ∙ e)) in
    subst IsWellFormed (sym (append_cancel_right first x (joined_lists xs) all)) w
value_formed _ (one_more {part = x} {parts = xs} w ws) octets e first (suc k, there, more, (next, f, a), is, g) =
    let rest : next ≡ joined_lists xs = skipped_whole x (joined_lists xs) next (whole_formed w) (subst (λ l. IsFollowedBy l next) e f) in
    value_formed xs ws next rest first (k, there, more, a, is, g)

-- Octets that BER doesn't read have no value, nor have none.
pub unread_value : (octets : List ℕ) → IsUnread octets → (first : List ℕ) → IsValueIn octets first → ⊥
unread_value octets n first (zero, there, more, a, is, f) = n more (subst (λ l. IsFollowedBy l more) a f)
unread_value octets n first (suc k, there, more, (next, f, a), is, g) = n next f

pub no_value : (octets : List ℕ) → length octets ≡ 0 → (first : List ℕ) → IsValueIn octets first → ⊥
no_value [] e first v = unread_value [] (λ rest f. no_octets rest f) first v
no_value (x ∷ l) e first v = absurd (omega (arith, e))

-- A value is the first one, or one of the others.
pub first_or_later : (octets first others value : List ℕ) → octets ≡ first ++ others → IsOnlyRest octets others → IsValueIn octets value → (value ≡ first) ⊎ IsValueIn others value
first_or_later octets first others value e only (zero, there, more, a, is, f) =
    let rest : more ≡ others = only more (subst (λ l. IsFollowedBy l more) a f) in
    let all : value ++ others ≡ first ++ others = ap (λ l. value ++ l) (sym rest) ∙ (sym is ∙ (a ∙ e)) in
    inl (append_cancel_right value first others all)
first_or_later octets first others value e only (suc k, there, more, (next, f, a), is, g) =
    inr (subst (λ l. IsValueIn l value) (only next f) (k, there, more, a, is, g))

-- The next value.
pub follows_more : (k : ℕ) (octets rest others : List ℕ) → FollowsAfter k octets rest → IsFollowedBy rest others → FollowsAfter (suc k) octets others
follows_more zero octets rest others a f = (others, subst (λ l. IsFollowedBy l others) a f, refl)
follows_more (suc k) octets rest others (more, g, a) f = (more, g, follows_more k more rest others a f)
