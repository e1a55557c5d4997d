use Rattle.rasn_de.specs.ValueErrors.{DecodesOr}
use Rattle.rasn_de.proofs.Constructed.Steps.{closure_inside, closure_rules}
use Rattle.std.specs.Prelude.{IfOk}
use Rattle.rasn_de.specs.Beyond.{got}
use Rattle.rasn_de.specs.Constructed.{prefix_header}
use Rattle.rasn_de.proofs.Constructed.Beyond.{inside_beyond, in_ok}
use Rattle.rasn_de.proofs.Constructed.ValueErrors.{prefix_or}
use Rattle.rasn_de.proofs.ber.de.Decoder.decode_explicit_prefix.Goals as goal

pub returns : goal.returns
returns g c =
    let k = closure_inside _ _ (DecodesOr g.D.AsnType.shape g.D.AsnType.tree (g.D.Decode.errors g.D.AsnType.TAG g.D.AsnType.CONSTRAINTS)) (λ p r q m. m.0) _ _ c.prefix.ensures _ _ _ c.inside.ensures.exact in
    record {
      exact = k;
      reads = prefix_or g.D.AsnType.shape g.D.AsnType.tree (g.D.Decode.errors g.D.AsnType.TAG g.D.AsnType.CONSTRAINTS) c.args.tag c.args.self.now c.inside.ensures.octets _ _ k;
      beyond = inside_beyond (got (g.D.Decode.beyond g.D.AsnType.TAG)) (prefix_header c.args.tag) c.args.self.now _ _
          (closure_inside _ _ (λ o r n. IfOk r (λ v. got (g.D.Decode.beyond g.D.AsnType.TAG) o v n)) (λ p r q m. in_ok (g.D.Decode.beyond g.D.AsnType.TAG) p.now r q.now m.1.1) _ _ c.prefix.ensures _ _ _ c.inside.ensures.exact);
      rules = closure_rules c.args.self.now _ _ (λ p r q m same. m.1.0) _ _ _ c.inside.ensures.exact;
    }
