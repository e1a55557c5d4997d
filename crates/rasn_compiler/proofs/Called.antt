-- Names of roots: TYPE or MODULE.TYPE.
use Rattle.std.proofs.Common.{◌≡◌, ◌≢◌, ℕ, Bool, true, false, List, ◌++◌, sym, ap, ◌∙◌, inl, inr}
use Rattle.std.specs.Prelude.{codes}
use Rattle.std.specs.Str.Pattern.{FindsTextPrefix, StripsPrefix}
use Rattle.std.proofs.lemmas.List.{append_cancel_left}
use Rattle.rasn_types.specs.Truth.{IsWhether}
use Rattle.rasn_compiler.specs.declared.library.Root.{Root}
use Rattle.rasn_compiler.specs.Libraries.{IsCalled}

-- After a name and a dot there is another name.
pub dotted : (r : Root) (name rest more : List ℕ) → name ≡ r.module.now ++ rest → rest ≡ codes "." ++ more → more ≡ r.name.now → IsCalled r name
dotted r name rest more e f g = inr (e ∙ ap (λ l. r.module.now ++ l) (f ∙ ap (λ l. codes "." ++ l) g))

pub not_after_module : (r : Root) (name : List ℕ) → (r.name.now ≡ name → ⊥) → ((rest : List ℕ) → name ≢ r.module.now ++ rest) → IsCalled r name → ⊥
not_after_module r name own h (inl e) = own e
not_after_module r name own h (inr e) = h (codes "." ++ r.name.now) e

pub not_after_dot : (r : Root) (name rest : List ℕ) → (r.name.now ≡ name → ⊥) → name ≡ r.module.now ++ rest → (rest ≡ codes "." ++ r.name.now → ⊥) → IsCalled r name → ⊥
not_after_dot r name rest own e h (inl f) = own f
not_after_dot r name rest own e h (inr f) = h (append_cancel_left r.module.now rest (codes "." ++ r.name.now) (sym e ∙ f))

pub is_dotted : (r : Root) (name rest more : List ℕ) (b : Bool) → (r.name.now ≡ name → ⊥) → name ≡ r.module.now ++ rest → rest ≡ codes "." ++ more → IsWhether b (more ≡ r.name.now) → IsWhether b (IsCalled r name)
is_dotted r name rest more true own e f g = dotted r name rest more e f g
is_dotted r name rest more false own e f g = not_after_dot r name rest own e (λ h. g (append_cancel_left (codes ".") more r.name.now (sym f ∙ h)))

pub stripped : (p s rest : List ℕ) → StripsPrefix (FindsTextPrefix p) s rest → s ≡ p ++ rest
stripped p s rest h = h.1.1 ∙ ap (λ l. p ++ l) (sym h.2)
