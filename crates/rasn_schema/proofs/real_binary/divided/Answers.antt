use Rattle.std.proofs.Common.{◌+◌, ◌*◌, ◌/◌, ◌%◌, ap, sym, subst}
use Rattle.rasn_types.proofs.Integer.TwosComplement.{are_octets}
use Rattle.rasn_schema.proofs.RealNumbers.{Dividing, divide_more}
use Rattle.rasn_schema.proofs.real_binary.divided.Goals as goal

pub loop-octet-preserved : goal.loop-octet-preserved
loop-octet-preserved c =
    let n = c.loop-octet.rest * 256 + c.from.result in
    let r = divide_more c.args.octets.now c.loop-octet.octet-index c.args.unit c.loop-octet.quotient.items c.loop-octet.rest (n / c.args.unit) (n % c.args.unit) c.loop-octet-test.true (are_octets c.args.octets.now c.type_inv.octets)
    c.requires.some c.requires.few c.loop-octet.invariant (ap (λ z. (c.loop-octet.rest * 256 + z) / c.args.unit) c.from.ensures) (ap (λ z. (c.loop-octet.rest * 256 + z) % c.args.unit) c.from.ensures) in
    subst (λ q. Dividing c.args.octets.now (c.loop-octet.octet-index + 1) c.args.unit q (n % c.args.unit)) (sym c.in_ok-push.ensures.items) r.1
