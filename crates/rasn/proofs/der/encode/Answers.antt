use Rattle.std.proofs.Common.{◌≡◌, ℕ, List, Result, Ok, Err, subst}
use Rattle.std.specs.Prelude.{IfOk}
use Rattle.rasn_types.specs.declared.types.codec.Codec.{Codec}
use Rattle.rasn_types.specs.declared.types.codec.Codec.TheVariants.{Der}
use Rattle.rasn_types.specs.Shapes.{Shape, Tree}
use Rattle.rasn_types.specs.Bytes.{Bytes}
use Rattle.rasn.specs.Headline.{Identify}
use Rattle.rasn.proofs.LawsHold.Written.{identify}
use Rattle.rasn.proofs.der.encode.Goals as goal

identified : {V E : Type 0} (items : V → List ℕ) (s : Shape) (t : Tree) (rule : Codec) (r : Result V E) → rule ≡ Der → IfOk r (λ v. Bytes rule s t (items v)) → IfOk r (λ v. Identify s t (items v))
identified items s t rule (Ok v) der is = identify s t (items v) (subst (λ k. Bytes k s t (items v)) der is)
identified items s t rule (Err e) _ _ = tt

-- src/der.rt:50:1
pub returns-clause-canonical : goal.returns-clause-canonical
returns-clause-canonical g c = identified (λ v. v.items) g.T.AsnType.shape (g.T.AsnType.tree c.args.value.now) c.der.result c.encode.result c.der.ensures c.encode.ensures.ok
