-- The numbers of an ENUMERATED.
use Rattle.std.proofs.Common.{◌≡◌, ℕ, zero, suc, ◌<◌, ℤ, pos, negsuc, Bool, true, ◌&&◌, List, [], ◌∷◌, FitsSigned, w64, refl, sym, ap, ◌∙◌, subst, arith, Ok}
use Rattle.std.specs.Prelude.{Contains, ◌^◌, ◌-◌, neg_ℤ}
use Rattle.std.specs.Int.Signed.{le_z}
use borrow.Author.Tests.{le-leb}
use Rattle.rasn_types.specs.Numbered.{fit_isize}
use Rattle.rasn_types.specs.declared.types.tag.Tag.{Tag}
use Rattle.rasn_types.specs.declared.types.codec.Codec.{Codec}
use Rattle.rasn_types.specs.Shapes.{number, leaf, integer, enumerated}
use Rattle.rasn_types.specs.Trees.{unconstrained, signed_range}
use Rattle.rasn_types.specs.Contents.{signed}
use Rattle.rasn_types.specs.Grammar.{Reads}
use Rattle.rasn_de.specs.State.{State}
use Rattle.rasn_de.specs.Decodes.{Decodes}
use Rattle.rasn.proofs.LawsHold.Written.{one_leaf}
use Rattle.rasn_schema.specs.declared.types.NamedNumber.{NamedNumber}
use Rattle.rasn_schema.specs.Shapes.{numbers_of}

-- A number is among all exactly if it is among the rest.
pub record SameListed (all rest : List NamedNumber) (z : ℤ) : Type 0 where
  pub on : Contains (numbers_of rest) z → Contains (numbers_of all) z
  pub back : Contains (numbers_of all) z → Contains (numbers_of rest) z

pub listed_start : (all : List NamedNumber) (z : ℤ) → SameListed all all z
listed_start all z = record { on = λ h. h; back = λ h. h }

later : (m : ℤ) (ns : List ℤ) (z : ℤ) → Contains ns z → Contains (m ∷ ns) z
later m ns z (k, l, e) = (suc k, omega (arith, l), e)

earlier : (m : ℤ) (ns : List ℤ) (z : ℤ) → (m ≡ z → ⊥) → Contains (m ∷ ns) z → Contains ns z
earlier m ns z n (zero, l, e) = absurd (n e)
earlier m ns z n (suc k, l, e) = (k, omega (arith, l), e)

module _ (all rest after : List NamedNumber) (m : NamedNumber) (z : ℤ) (k : SameListed all rest z) (e : rest ≡ m ∷ after) where
  pub listed_here : m.number ≡ z → Contains (numbers_of all) z
  listed_here h = k.on (subst (λ l. Contains (numbers_of l) z) (sym e) (0, omega arith, h))

  pub listed_more : (m.number ≡ z → ⊥) → SameListed all after z
  listed_more n = record {
    on = λ h. k.on (subst (λ l. Contains (numbers_of l) z) (sym e) (later m.number (numbers_of after) z h));
    back = λ h. earlier m.number (numbers_of after) z n (subst (λ l. Contains (numbers_of l) z) e (k.back h));
  }

none_listed : (z : ℤ) → Contains (numbers_of []) z → ⊥
none_listed z (k, l, e) = omega (arith, l)

pub listed_end : (all rest : List NamedNumber) (z : ℤ) → SameListed all rest z → rest ≡ [] → Contains (numbers_of all) z → ⊥
listed_end all rest z k e h = none_listed z (subst (λ l. Contains (numbers_of l) z) e (k.back h))

-- A number that is read is one of an ENUMERATED that lists it, however wide the others are.
module _ (known : List ℤ) (tag : Tag) where
  reads_listed : (rule : Codec) (depth : ℕ) (closing : Bool) (input : List ℕ) (z : ℤ) (rest : List ℕ) → Reads rule (leaf (integer (signed_range 64)) tag unconstrained) depth closing input (number z) rest
      → Contains known z → Reads rule (leaf (enumerated known) tag unconstrained) depth closing input (number z) rest
  unfolding Reads
  reads_listed rule depth closing input z rest ((bit, c, f, k, strict), u) h =
      let e = k.0 in
      let d : z ≡ signed c = cc in
      ((bit, c, f, (k.0, k.1, subst (Contains known) d h), strict), tt)

  pub decodes_listed : (old new : State) (z w : ℤ) → Decodes (leaf (integer (signed_range 64)) tag unconstrained) (λ y. number y) old (Ok z) new → w ≡ z → Contains known w → Decodes (leaf (enumerated known) tag unconstrained) (λ y. number y) old (Ok w) new
  decodes_listed old new z w d e k =
      let mine = reads_listed old.rule old.depth old.closing old.rest z new.rest d.exact.0 (subst (Contains known) e k) in
      record {
        stays = d.stays;
        end = d.end;
        exact = rw e (mine, λ u s r. one_leaf old.rule (enumerated known) tag unconstrained old.depth old.closing old.rest u (number z) s new.rest r mine);
      }

-- ---- 64 bits hold the numbers

in_width : (z : ℤ) → FitsSigned w64 z → le_z (neg_ℤ (pos (2 ^ 63))) z && le_z z (pos (2 ^ 63 - 1)) ≡ true
in_width (pos n) h = let b : n < 2 ^ 63 = h.sfits in le-leb n (2 ^ 63 - 1) (omega (arith, b))
in_width (negsuc n) h = let b : n < 2 ^ 63 = h.sfits in ap (λ t. t && true) (le-leb n (2 ^ 63 - 1) (omega (arith, b)))

both : (a b : Bool) → a ≡ true → b ≡ true → a && b ≡ true
both a b e f = ap (λ t. t && b) e ∙ f

-- All numbers fit if the rest of them do.
abbrev pub AllFitIf : List NamedNumber → List NamedNumber → Type 0
AllFitIf all rest = fit_isize (numbers_of rest) ≡ true → fit_isize (numbers_of all) ≡ true

pub fit_more : (all rest after : List NamedNumber) (m : NamedNumber) (z : ℤ) → AllFitIf all rest → rest ≡ m ∷ after → z ≡ m.number → FitsSigned w64 z → AllFitIf all after
fit_more all rest after m z k e i h f =
    k (subst (λ l. fit_isize (numbers_of l) ≡ true) (sym e) (both (le_z (neg_ℤ (pos (2 ^ 63))) m.number && le_z m.number (pos (2 ^ 63 - 1))) (fit_isize (numbers_of after)) (subst (λ n. le_z (neg_ℤ (pos (2 ^ 63))) n && le_z n (pos (2 ^ 63 - 1)) ≡ true) i (in_width z h)) f))

pub fit_end : (all rest : List NamedNumber) → AllFitIf all rest → rest ≡ [] → fit_isize (numbers_of all) ≡ true
fit_end all rest k e = k (subst (λ l. fit_isize (numbers_of l) ≡ true) (sym e) refl)
