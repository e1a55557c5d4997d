-- Modules of texts.
use Rattle.std.proofs.Common.{◌≡◌, ◌<◌, ℕ, List, [], ◌∷◌, ◌++◌, Some, length, get_or, refl, subst, sym}
use Rattle.std.specs.Prelude.{slice_get}
use Rattle.std.proofs.lemmas.List.Elements.{All-push}
use Rattle.std.proofs.lemmas.Option.{slice_get-get_or}
use Rattle.rasn_schema.proofs.Lists.{read_at}
use Rattle.rasn_compiler.specs.Sources.{HasName, AreOf}
use Rattle.rasn_compiler.specs.declared.modules.Source.{Source}
use Rattle.rasn_compiler.specs.declared.tree.Module.{Module}

pub are_of_more : (all : List Source) (ms ns : List Module) (m : Module) (name : List ℕ) → ns ≡ ms ++ m ∷ [] → m.source.now ≡ name → HasName all name → AreOf all ms → AreOf all ns
are_of_more all ms ns m name e same h known =
    subst (AreOf all) (sym e) (All-push (λ x. HasName all x.source.now) ms m known (subst (HasName all) (sym same) h))

pub module_at : (xs ms : List Module) (k : ℕ) (m : Module) (name : List ℕ) → xs ≡ ms → k < length xs → m ≡ get_or xs k m → m.name.now ≡ name
    → (n : Module) × (Some n ≡ slice_get ms k) × (n.name.now ≡ name)
module_at xs ms k m name e h read named =
    (m, subst (λ (l : List Module). Some m ≡ slice_get l k) e (read_at xs k m h read), named)

pub name_at : (all : List Source) (k : ℕ) (d : Source) → k < length all → HasName all (get_or all k d).name.now
name_at all k d h = (k, get_or all k d, sym (slice_get-get_or all k d h), refl)
