use Rattle.std.proofs.Common.{◌≡◌, ℕ, List, Result, Ok, Err, subst}
use Rattle.std.specs.Prelude.{OnOk}
use Rattle.rasn_types.specs.declared.types.codec.Codec.{Codec}
use Rattle.rasn_types.specs.declared.types.codec.Codec.TheVariants.{Der}
use Rattle.rasn_types.specs.Shapes.{Shape, Tree}
use Rattle.rasn_types.specs.Bytes.{Bytes}
use Rattle.rasn.specs.Headline.{Identify}
use Rattle.rasn.proofs.LawsHold.Written.{identify}
use Rattle.rasn.proofs.der.encode_buf.Goals as goal

identified : {V E : Type 0} (octets : List ℕ) (s : Shape) (t : Tree) (rule : Codec) (r : Result V E) → rule ≡ Der → OnOk r (Bytes rule s t octets) → OnOk r (Identify s t octets)
identified octets s t rule (Ok v) der is = identify s t octets (subst (λ k. Bytes k s t octets) der is)
identified octets s t rule (Err e) _ _ = tt

pub returns-clause-canonical : goal.returns-clause-canonical
returns-clause-canonical g c = identified c.encode_buf.new.buffer.items g.T.AsnType.shape (g.T.AsnType.tree c.args.value.now) c.der.result c.encode_buf.result c.der.ensures c.encode_buf.ensures.ok
