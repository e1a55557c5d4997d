-- Roots of libraries, whose names are added one after the other.
use Rattle.std.proofs.Common.{◌≡◌, ◌<◌, ℕ, zero, suc, List, [], ◌∷◌, ◌++◌, length, Some, None, subst, sym}
use Rattle.std.specs.Prelude.{Vec, slice_get}
use Rattle.std.specs.Global.{Global}
use Rattle.std.proofs.lemmas.List.Elements.{All-push, All-weaker, All-nil, All-head, All-tail}
use Rattle.rasn_schema.specs.declared.type_id.TypeId.{TypeId}
use Rattle.rasn_schema.specs.declared.named.TypeName.{TypeName}
use Rattle.rasn_schema.specs.declared.schema.Schema.{Schema}
use Rattle.rasn_schema.specs.Named.{IsNamed}
use Rattle.rasn_schema.proofs.Lists.{some_is}
use Rattle.rasn_compiler.specs.declared.library.Root.{Root}
use Rattle.rasn_compiler.specs.Libraries.{AreNamed, IsRootIn, AreRoots}

module _ (count : ℕ) (ns ms : List TypeName) (more : (other : List ℕ) (id : TypeId) → IsNamed ns other id → IsNamed ms other id) where
  pub named_more : (rs : List Root) → AreNamed count ns rs → AreNamed count ms rs
  named_more rs h = All-weaker (λ r. (r.type_id.0 < count) × IsNamed ns r.name.now r.type_id) (λ r. (r.type_id.0 < count) × IsNamed ms r.name.now r.type_id)
      (λ r w. (w.0, more r.name.now r.type_id w.1)) rs h

  pub named_pushed : (rs all : List Root) (r : Root) → all ≡ rs ++ r ∷ [] → AreNamed count ns rs → r.type_id.0 < count → IsNamed ms r.name.now r.type_id → AreNamed count ms all
  named_pushed rs all r e h l n = subst (λ (x : List Root). AreNamed count ms x) (sym e)
      (All-push (λ r. (r.type_id.0 < count) × IsNamed ms r.name.now r.type_id) rs r (named_more rs h) (l, n))

pub none_named : (count : ℕ) (ns : List TypeName) → AreNamed count ns []
none_named count ns = All-nil (λ r. (r.type_id.0 < count) × IsNamed ns r.name.now r.type_id)

pub are_roots : (s : Schema) (ns : Vec TypeName Global) (count : ℕ) (rs : List Root) → s.names ≡ Some ns → count ≡ length s.types.items → AreNamed count ns.items rs → AreRoots s rs
are_roots s ns count rs e l h = All-weaker (λ r. (r.type_id.0 < count) × IsNamed ns.items r.name.now r.type_id) (IsRootIn s)
    (λ r w. (subst (λ (n : ℕ). r.type_id.0 < n) l w.0, (ns, e, w.1))) rs h

pub no_roots : (s : Schema) → AreRoots s []
no_roots s = All-nil (IsRootIn s)

pub root_at : (s : Schema) (rs : List Root) (k : ℕ) (r : Root) → AreRoots s rs → Some r ≡ slice_get rs k → IsRootIn s r
root_at s [] k r h e = absurd (none_at r e)
  where
    none_at : (r : Root) → Some r ≡ None → ⊥
    none_at r e = cc
root_at s (x ∷ rs) zero r h e = subst (λ (y : Root). IsRootIn s y) (sym (some_is r x e)) (All-head (IsRootIn s) x rs h)
root_at s (x ∷ rs) (suc k) r h e = root_at s rs k r (All-tail (IsRootIn s) x rs h) e
