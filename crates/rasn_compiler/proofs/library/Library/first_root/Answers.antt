use Rattle.std.proofs.Common.{rules, ◌≡◌, ℕ, List, Some, subst}
use Rattle.std.specs.Prelude.{slice_get}
use Rattle.rasn_compiler.specs.declared.library.Root.{Root}
use Rattle.rasn_compiler.specs.Libraries.{IsTypeIn}
use Rattle.rasn_compiler.proofs.Libraries.{root_at}
use Rattle.rasn_compiler.proofs.library.Library.first_root.Goals as goal

pub returns-then-eq : goal.returns-then-eq
returns-then-eq c = λ h.
    let library = c.args.self.now in
    let root = c.in_ok-root.root.now in
    let first : Some root ≡ slice_get library.roots.items 0 = subst (λ (roots : List Root). Some root ≡ slice_get roots 0) c.deref.ensures.value c.in_ok-root.ensures.value in
    let same : root.name.now ≡ c.args.name.now = search rules in
    subst (λ (name : List ℕ). IsTypeIn library.schema name root.type_id) same (root_at library.schema library.roots.items 0 root h first)
