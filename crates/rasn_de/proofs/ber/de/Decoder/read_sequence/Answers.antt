use Rattle.rasn_de.specs.Decodes.{DecodesParts}
use Rattle.rasn_de.specs.PartTypes.{DecodesInParts}
use Rattle.rasn_de.proofs.Constructed.Steps.{closure_leaves, closure_inside, closure_rules}
use Rattle.rasn_de.specs.Constructed.{sequence_header}
use Rattle.rasn_de.proofs.OwnTypes.PartTypes.{parts_decode}
use Rattle.rasn_de.proofs.Constructed.Beyond.{inside_beyond}
use Rattle.std.specs.Prelude.{IfOk}
use Rattle.rasn_de.proofs.ber.de.Decoder.read_sequence.Goals as goal

pub inside-requires-clause-leaves : goal.inside-requires-clause-leaves
inside-requires-clause-leaves g c = closure_leaves _ _ (DecodesParts g.P.DecodeParts.parts g.P.DecodeParts.tree) (λ p r q m. m.1.0) (λ o r n k. k.end)

pub returns : goal.returns
returns g c =
    let read = DecodesParts g.P.DecodeParts.parts g.P.DecodeParts.tree in
    record {
      exact = closure_inside _ _ (DecodesInParts g.P.DecodeParts.parts g.P.DecodeParts.tree g.P.DecodeParts.errors) (λ p r q m. m.0) _ _ c.sequence.ensures _ _ _ c.inside.ensures.exact;
      reads = parts_decode g.P.DecodeParts.parts c.requires.no_initializer g.P.DecodeParts.tree read c.args.tag c.args.self.now c.inside.ensures.octets (λ s r n k. k) _ _
          (closure_inside _ _ read (λ p r q m. m.1.0) _ _ c.sequence.ensures _ _ _ c.inside.ensures.exact);
      beyond = inside_beyond g.P.DecodeParts.beyond (sequence_header c.args.tag) c.args.self.now _ _
          (closure_inside _ _ (λ o r n. IfOk r (λ v. g.P.DecodeParts.beyond o v n)) (λ p r q m. m.1.1.1) _ _ c.sequence.ensures _ _ _ c.inside.ensures.exact);
      rules = closure_rules c.args.self.now _ _ (λ p r q m same. m.1.1.0) _ _ _ c.inside.ensures.exact;
    }
