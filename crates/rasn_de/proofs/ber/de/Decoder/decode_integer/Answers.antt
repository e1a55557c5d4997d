use Rattle.std.proofs.Common.{Ok, Err, inl, inr, refl}
use Rattle.rasn_de.specs.Leaves.{IntegerIn, IntegerAt}
use Rattle.rasn_de.proofs.Leaves.Integer.{integer_ensured, bound_refused, number_alloc_failed}
use Rattle.rasn_de.proofs.Leaves.Errors.{leaf_refused, contents_refused, contents_read}
use Rattle.rasn_de.proofs.Leaves.Returns.{residual}
use Rattle.rasn_de.proofs.ber.de.Decoder.decode_integer.Goals as goal

pub returns-in_err-contents : goal.returns-in_err-contents
returns-in_err-contents g c =
    rw (residual _ c.from_residual.ensures.1) (integer_ensured g.I.IntegerType.WIDTH g.I.IntegerType.range c.args.constraints.now g.I.IntegerType.number g.I.IntegerType.takes_memory c.args.tag c.args.self.now _ (Err c.in_err-contents.field-0.0) c.contents.ensures.octets
    (inr (leaf_refused (IntegerIn c.args.self.now.rule g.I.IntegerType.WIDTH g.I.IntegerType.range c.args.constraints.now) c.args.tag c.args.self.now _ _ c.in_err-contents.ensures.exact)))

pub returns-then-admits_number : goal.returns-then-admits_number
returns-then-admits_number g c =
    let t = c.in_ok-contents.ensures.exact in
    let k = rw c.in-Ok-Some.field-0-is at c.in-Ok-Some.ensures.ok in
    integer_ensured g.I.IntegerType.WIDTH g.I.IntegerType.range c.args.constraints.now g.I.IntegerType.number g.I.IntegerType.takes_memory c.args.tag c.args.self.now _ (Ok c.in-Ok-Some.value) c.contents.ensures.octets
    (contents_read g.I.IntegerType.number (IntegerIn c.args.self.now.rule g.I.IntegerType.WIDTH g.I.IntegerType.range c.args.constraints.now) c.args.tag c.args.self.now _ _ c.in-Ok-Some.value t.0 (rw (← c.codec-rules.ensures) c.in_default.ensures, k.1, c.if-admits_number.ensures, k.0) t.1)

pub returns-else-admits_number : goal.returns-else-admits_number
returns-else-admits_number g c =
    let t = c.in_ok-contents.ensures.exact in
    let k = rw c.in-Ok-Some.field-0-is at c.in-Ok-Some.ensures.ok in
    integer_ensured g.I.IntegerType.WIDTH g.I.IntegerType.range c.args.constraints.now g.I.IntegerType.number g.I.IntegerType.takes_memory c.args.tag c.args.self.now _ (Err c.out_of_bound.result) c.contents.ensures.octets
    (inr (bound_refused g.I.IntegerType.WIDTH g.I.IntegerType.range c.args.constraints.now c.args.tag c.args.self.now _ _ _ t.0 t.1 (rw (← c.codec-rules.ensures) c.in_default.ensures) k.1 c.if-admits_number.ensures (rw (← c.value_bounds.ensures) c.out_of_bound.ensures)))

pub returns-in-Ok-None : goal.returns-in-Ok-None
returns-in-Ok-None g c =
    let t = c.in_ok-contents.ensures.exact in
    integer_ensured g.I.IntegerType.WIDTH g.I.IntegerType.range c.args.constraints.now g.I.IntegerType.number g.I.IntegerType.takes_memory c.args.tag c.args.self.now _ (Err c.error-in-Ok-None.result) c.contents.ensures.octets
    (inr (contents_refused (IntegerIn c.args.self.now.rule g.I.IntegerType.WIDTH g.I.IntegerType.range c.args.constraints.now) c.args.tag c.args.self.now _ _ _ _ t.0 (inr (rw (← c.codec-rules.ensures) c.in_default.ensures, rw c.in-Ok-None.field-0-is at c.in-Ok-None.ensures.ok, refl)) t.1
    (rw (← c.WIDTH.ensures) c.error-in-Ok-None.ensures)))

pub returns-in-Err : goal.returns-in-Err
returns-in-Err g c =
    let t = c.in_ok-contents.ensures.exact in
    integer_ensured g.I.IntegerType.WIDTH g.I.IntegerType.range c.args.constraints.now g.I.IntegerType.number g.I.IntegerType.takes_memory c.args.tag c.args.self.now _ (Err c.error.result) c.contents.ensures.octets
    (inr (contents_refused (IntegerIn c.args.self.now.rule g.I.IntegerType.WIDTH g.I.IntegerType.range c.args.constraints.now) c.args.tag c.args.self.now _ _ c.in-Err.fault _ t.0 (inl (rw (← c.codec-rules.ensures) c.in-Err.ensures)) t.1 c.error.ensures))

pub returns-in-Err-from_octets : goal.returns-in-Err-from_octets
returns-in-Err-from_octets g c =
    let t = c.in_ok-contents.ensures.exact in
    integer_ensured g.I.IntegerType.WIDTH g.I.IntegerType.range c.args.constraints.now g.I.IntegerType.number g.I.IntegerType.takes_memory c.args.tag c.args.self.now _ (Err c.error-in-Err-from_octets.result) c.contents.ensures.octets
    (number_alloc_failed g.I.IntegerType.number g.I.IntegerType.takes_memory c.args.tag (IntegerAt g.I.IntegerType.WIDTH g.I.IntegerType.range c.args.constraints.now c.args.self.now.rule c.args.tag c.args.self.now.rest) c.args.self.now _ _ c.error-in-Err-from_octets.result t.0 t.1 (rw (← c.codec-rules.ensures) c.in_default.ensures) c.in-Err-from_octets.ensures.memory c.error-in-Err-from_octets.ensures)
