-- Types that are added to those of a call.
use Rattle.std.proofs.Common.{◌≡◌, ◌<◌, ◌+◌, ℕ, suc, List, [], ◌∷◌, ◌++◌, Some, length, refl, sym, ap, ◌∙◌, subst, length-append, arith}
use Rattle.std.specs.Prelude.{slice_get}
use Rattle.rasn_print.specs.declared.known.Candidates.{Candidates}
use Rattle.rasn_print.specs.declared.known.Known.{Known}
use Rattle.rasn_print.specs.Catalogs.{IsIndexOf}

last_at : (xs : List Known) (y : Known) → Some y ≡ slice_get (xs ++ y ∷ []) (length xs)
last_at [] y = refl
last_at (x ∷ xs) y = last_at xs y

-- They are at the index after the last.
pub added : (candidates : Candidates) (known : Known) (old new : List Known) (index : ℕ) → index ≡ length old → new ≡ old ++ known ∷ [] → known.candidates ≡ candidates → IsIndexOf candidates new index
added candidates known old new index i n c =
    subst (λ l. IsIndexOf candidates l index) (sym n) (subst (λ k. IsIndexOf candidates (old ++ known ∷ []) k) (sym i) (record {
      within = let m = length-append old (known ∷ []) in omega arith;
      known = known;
      is = last_at old known;
      candidates_are = c;
    }))
