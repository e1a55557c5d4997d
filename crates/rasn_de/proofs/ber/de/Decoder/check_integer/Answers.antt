use Rattle.std.proofs.Common.{ℤ, Ok, Err, inr, inl, refl}
use Rattle.rasn_types.specs.Contents.{signed}
use Rattle.rasn_types.specs.Shapes.{number, every}
use Rattle.rasn_de.specs.Leaves.{IntegerIn}
use Rattle.rasn_de.proofs.Leaves.Integer.{integer_ensured, bound_refused}
use Rattle.rasn_de.proofs.Leaves.Errors.{leaf_refused, contents_refused, contents_read}
use Rattle.rasn_de.proofs.Leaves.Returns.{residual}
use Rattle.rasn_de.proofs.ber.de.Decoder.check_integer.Goals as goal

pub returns-in_err-octets : goal.returns-in_err-octets
returns-in_err-octets c =
    rw (residual _ c.from_residual.ensures.1)
    (integer_ensured 0 every c.args.constraints.now (λ (z : ℤ). z) (λ z. ⊥) c.args.tag c.args.self.now _ (Err c.in_err-octets.field-0.0) c.contents.ensures.octets (inr (leaf_refused (IntegerIn c.args.self.now.rule 0 every c.args.constraints.now) c.args.tag c.args.self.now _ _ c.in_err-octets.ensures.exact)))

pub returns-in-Err : goal.returns-in-Err
returns-in-Err c =
    let t = c.in_ok-octets.ensures.exact in
    integer_ensured 0 every c.args.constraints.now (λ (z : ℤ). z) (λ z. ⊥) c.args.tag c.args.self.now _ (Err c.error.result) c.contents.ensures.octets
    (inr (contents_refused (IntegerIn c.args.self.now.rule 0 every c.args.constraints.now) c.args.tag c.args.self.now _ _ c.in-Err.fault _ t.0 (inl (rw (← c.codec-rules.ensures) c.in-Err.ensures)) t.1 c.error.ensures))

pub returns-then-admits_number : goal.returns-then-admits_number
returns-then-admits_number c =
    let t = c.in_ok-octets.ensures.exact in
    let z = signed c.in_ok-octets.octets.now in
    let e = integer_ensured 0 every c.args.constraints.now (λ (z : ℤ). z) (λ z. ⊥) c.args.tag c.args.self.now _ (Ok z) c.contents.ensures.octets
    (contents_read (λ (x : ℤ). x) (IntegerIn c.args.self.now.rule 0 every c.args.constraints.now) c.args.tag c.args.self.now _ _ z t.0 (rw (← c.codec-rules.ensures) c.in_default.ensures, tt, c.if-admits_number.ensures, refl) t.1) in
    record { reads = (number z, e.reads); exact = (z, e.exact); memory = tt; rules = tt }

pub returns : goal.returns
returns c =
    let t = c.in_ok-octets.ensures.exact in
    integer_ensured 0 every c.args.constraints.now (λ (z : ℤ). z) (λ z. ⊥) c.args.tag c.args.self.now _ (Err c.out_of_bound.result) c.contents.ensures.octets
    (inr (bound_refused 0 every c.args.constraints.now c.args.tag c.args.self.now _ _ _ t.0 t.1 (rw (← c.codec-rules.ensures) c.in_default.ensures) tt c.if-admits_number.ensures (rw (← c.value_bounds.ensures) c.out_of_bound.ensures)))
