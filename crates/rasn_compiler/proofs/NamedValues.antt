-- Identifiers that modules assign to names.
use Rattle.std.proofs.Common.{rules, refl, length, ◌<◌, slice_index_or, ◌≡◌, ℕ, List, [], ◌∷◌, ◌++◌, Some, subst, sym}
use Rattle.std.specs.Prelude.{slice_get}
use Rattle.std.proofs.lemmas.Option.{slice_get-get_or}
use Rattle.std.proofs.lemmas.List.Elements.{All-push}
use Rattle.rasn_compiler.specs.Identifiers.{HasValue, AreValuesOf, IsOneOf, IsValue}
use Rattle.rasn_compiler.specs.declared.identifiers.NamedIdentifier.{NamedIdentifier}
use Rattle.rasn_compiler.specs.declared.tree.Assignment.{Assignment}
use Rattle.rasn_compiler.specs.declared.tree.Module.{Module}
use Rattle.rasn_types.specs.declared.types.object_identifier.ObjectIdentifier.{ObjectIdentifier}

pub are_values_of_none : (all : List Module) → AreValuesOf all []
unfolding AreValuesOf
are_values_of_none all = search rules

pub are_values_of_more : (all : List Module) (m : Module) (l : List Assignment) (j : ℕ) (d : Assignment) (xs ys : List NamedIdentifier) (i : ObjectIdentifier)
    → ys ≡ xs ++ record { name = (slice_index_or l j d).name; identifier = i } ∷ [] → l ≡ m.assignments.items → IsOneOf all m → j < length l
    → IsValue (slice_index_or l j d).assigned → AreValuesOf all xs → AreValuesOf all ys
unfolding AreValuesOf
are_values_of_more all m l j d xs ys i e same (k, at) inside is_value known =
    let a = slice_index_or l j d in
    let there : Some a ≡ slice_get m.assignments.items j = subst (λ k. Some a ≡ slice_get k j) same (sym (slice_get-get_or l j d inside)) in
    subst (AreValuesOf all) (sym e) (All-push (λ x. HasValue all x.name.now) xs record { name = a.name; identifier = i } known (k, m, at, (j, a, there, is_value, refl)))
