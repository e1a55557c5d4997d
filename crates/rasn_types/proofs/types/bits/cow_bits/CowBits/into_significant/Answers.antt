use Rattle.std.proofs.Common.{ap, sym, ◌≡◌, ◌∙◌, take, arith}
use Rattle.rasn_types.specs.declared.types.bits.cow_bits.CowBits.TheVariants.{Borrowed}
use Rattle.rasn_types.specs.BitString.{significant}
use Rattle.rasn_types.specs.CowBits.{significant_cow}
use Rattle.rasn_types.proofs.BitString.Significant.{significant_le, significant_front}
use Rattle.rasn_types.proofs.types.bits.cow_bits.CowBits.into_significant.Goals as goal

pub split_at-front-requires : goal.split_at-front-requires
split_at-front-requires c = omega (arith, c.significant_len.ensures, significant_le c.in-Borrowed.bits)

pub returns-in-Borrowed : goal.returns-in-Borrowed
returns-in-Borrowed c =
    let x : c.split_at-front.result.0 ≡ significant c.in-Borrowed.bits = c.split_at-front.ensures.front ∙ (ap (λ n. take n c.in-Borrowed.bits) c.significant_len.ensures ∙ significant_front c.in-Borrowed.bits) in
    ap Borrowed x ∙ ap significant_cow (sym c.in-Borrowed.is)
