use Rattle.std.proofs.Common.{arith, to_z}
use Rattle.std.specs.Int.{w128}
use Rattle.rasn_types.proofs.Integer.TwosComplement.{FoldStep, fold_step, stepped, are_octets}
use Rattle.rasn_types.proofs.types.twos_complement.fold_i128.Goals as goal

pub overflow_mul-number : goal.overflow_mul-number
overflow_mul-number c =
    let s : FoldStep c.args.octets.now c.loop-octet.octet-index (to_z w128 c.loop-octet.number-bits) =
    fold_step c.args.octets.now c.loop-octet.octet-index (to_z w128 c.loop-octet.number-bits) (are_octets c.args.octets.now c.type_inv.octets) (omega arith) c.requires.few c.loop-octet.invariant in
    s.shifts

pub loop-octet-preserved : goal.loop-octet-preserved
loop-octet-preserved c =
    let s : FoldStep c.args.octets.now c.loop-octet.octet-index (to_z w128 c.loop-octet.number-bits) =
    fold_step c.args.octets.now c.loop-octet.octet-index (to_z w128 c.loop-octet.number-bits) (are_octets c.args.octets.now c.type_inv.octets) (omega arith) c.requires.few c.loop-octet.invariant in
    stepped c.args.octets.now c.loop-octet.octet-index (to_z w128 c.loop-octet.number-bits) c.from.result s (record { sfits = c.from.type_inv }) c.from.ensures
