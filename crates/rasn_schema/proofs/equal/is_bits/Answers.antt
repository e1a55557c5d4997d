use Rattle.std.proofs.Common.{sym, subst, ap₂, ◌∙◌}
use Rattle.std.specs.Bool.{beq}
use Rattle.std.specs.Cmp.Lexicographic.{pointwise}
use Rattle.rasn_types.specs.Shapes.{bits}
use Rattle.rasn_types.specs.CowBits.{cow_bits}
use Rattle.rasn_types.specs.Equality.{DecidesSame, bits_decided}
use Rattle.rasn_schema.specs.Trees.{tree_of}
use Rattle.rasn_schema.specs.Equals.{apart}
use Rattle.rasn_schema.proofs.OtherKinds.{not_bits}
use Rattle.rasn_schema.proofs.equal.is_bits.Goals as goal

pub returns-in_default : goal.returns-in_default
returns-in_default c = apart (bits (cow_bits c.args.own.now)) (tree_of c.args.other.now) (not_bits c.args.other.now c.in_default.not-Bits)

pub returns-in-Bits : goal.returns-in-Bits
returns-in-Bits c =
    let k = cow_bits c.args.own.now in
    let l = cow_bits c.in-Bits.other in
    let same = c.eq.ensures ∙ ap₂ (pointwise beq) c.as_bitstr.ensures c.as_bitstr-in-Bits.ensures in
    subst (λ v. DecidesSame c.eq.result (bits k) (tree_of v)) (sym c.in-Bits.is) (subst (λ b. DecidesSame b (bits k) (bits l)) (sym same) (bits_decided k l))
