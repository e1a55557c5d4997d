-- The first extension with an identifier.
use Rattle.std.proofs.Common.{◌≡◌, ◌++◌, ◌∷◌, ℕ, ◌+◌, ◌<◌, ◌≤◌, Bool, true, false, List, length, take, drop, get_or, sym, ap, subst, ◌∙◌}
use Rattle.std.specs.List.{All}
use Rattle.std.proofs.lemmas.List.{drop_more, take_all, take-append-drop}
use Rattle.std.proofs.lemmas.List.Elements.{All-more}
use Rattle.rasn_types.specs.Truth.{IsWhether}
use Rattle.rasn_types.specs.Text.{dotted}
use Rattle.rasn_pkix.specs.declared.extension.Extension.{Extension}
use Rattle.rasn_c.specs.Extensions.{HasOther, IsFirstWith}

pub holds : (b : Bool) (P : Type 0) → IsWhether b P → b ≡ true → P
holds true P w e = w
holds false P w e = cc

pub fails : (b : Bool) (P : Type 0) → IsWhether b P → b ≡ false → P → ⊥
fails true P w e = cc
fails false P w e = w

pub found : (identifier : List ℕ) (es : List Extension) (i : ℕ) (e : Extension) → i < length es → e ≡ get_or es i e → All (HasOther identifier) (take i es) → identifier ≡ dotted e.extn_id → IsFirstWith identifier es e
found identifier es i e within at others is = record {
  before = take i es;
  after = drop (i + 1) es;
  are = sym (take-append-drop i es) ∙ ap (λ l. take i es ++ l) (drop_more es i e within ∙ ap (λ x. x ∷ drop (i + 1) es) (sym at));
  others = others;
  is = is;
}

pub passed : (identifier : List ℕ) (es : List Extension) (i : ℕ) (e : Extension) → i < length es → e ≡ get_or es i e → All (HasOther identifier) (take i es) → HasOther identifier e → All (HasOther identifier) (take (i + 1) es)
passed identifier es i e within at others other = All-more (HasOther identifier) es i e within others (subst (HasOther identifier) at other)

pub all_passed : (identifier : List ℕ) (es : List Extension) (i : ℕ) → length es ≤ i → All (HasOther identifier) (take i es) → All (HasOther identifier) es
all_passed identifier es i past others = subst (All (HasOther identifier)) (take_all i es past) others
