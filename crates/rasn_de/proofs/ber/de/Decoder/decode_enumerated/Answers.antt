use Rattle.std.proofs.Common.{◌∙◌, subst}
use Rattle.std.specs.Prelude.{Contains}
use Rattle.rasn_types.specs.Shapes.{number}
use Rattle.rasn_de.proofs.Leaves.Enumerated.{handed_on, enumerated_refused, enumerated_named, enumerated_unnamed, enumerated_fails, decodes_named, decodes_unnamed, decodes_refused}
use Rattle.rasn_de.proofs.Leaves.Returns.{residual}
use Rattle.rasn_de.proofs.ber.de.Decoder.decode_enumerated.Goals as goal

pub returns-in_err-discriminant : goal.returns-in_err-discriminant
returns-in_err-discriminant g c =
    rw (residual _ c.from_residual.ensures.1) (enumerated_fails g.E.Enumerated.known g.E.Enumerated.number c.args.tag c.args.self.now _ c.in_err-discriminant.field-0.0
    (decodes_refused g.E.Enumerated.known g.met.E.Enumerated.fits c.args.tag (λ v. number (g.E.Enumerated.number v)) c.args.self.now _ c.in_err-discriminant.field-0.0 c.in_err-discriminant.ensures.reads)
    (enumerated_refused g.E.Enumerated.known (λ z. z) c.args.tag c.args.self.now _ _ c.in_err-discriminant.ensures.exact))

pub returns-in-Some : goal.returns-in-Some
returns-in-Some g c =
    let t = c.in_ok-discriminant.ensures.exact in
    record {
      reads = decodes_named g.E.Enumerated.known g.met.E.Enumerated.fits c.args.tag g.E.Enumerated.number c.args.self.now _ c.in_ok-discriminant.discriminant c.in-Some.value
          c.in_ok-discriminant.ensures.reads (c.in-Some.ensures ∙ handed_on _ _ _ _ _ t.0) (g.met.E.Enumerated.listed c.in-Some.value);
      exact = enumerated_named g.E.Enumerated.known g.E.Enumerated.number c.args.tag c.args.self.now _ c.in_ok-discriminant.discriminant c.in-Some.value t.0 t.1 (c.in-Some.ensures ∙ handed_on _ _ _ _ _ t.0) (g.met.E.Enumerated.listed c.in-Some.value);
      memory = tt;
      rules = tt;
    }

pub returns-in-None : goal.returns-in-None
returns-in-None g c =
    let t = c.in_ok-discriminant.ensures.exact in
    enumerated_fails g.E.Enumerated.known g.E.Enumerated.number c.args.tag c.args.self.now _ c.error.result
    (decodes_unnamed g.E.Enumerated.known g.met.E.Enumerated.fits c.args.tag (λ v. number (g.E.Enumerated.number v)) c.args.self.now _ c.in_ok-discriminant.discriminant c.error.result
    c.in_ok-discriminant.ensures.reads (subst (λ y. Contains g.E.Enumerated.known y → ⊥) (handed_on _ _ _ _ _ t.0) c.in-None.ensures))
    (enumerated_unnamed g.E.Enumerated.known c.args.tag c.args.self.now _ _ c.in_ok-discriminant.discriminant c.error.result (handed_on _ _ _ _ _ t.0) t.0 t.1 c.in-None.ensures c.error.ensures)
