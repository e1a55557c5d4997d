use Rattle.std.proofs.Common.{ap, ◌∙◌, length}
use Rattle.std.proofs.lemmas.Bool.Decides.{eqb_tells}
use Rattle.rasn_types.specs.BitString.{significant}
use Rattle.rasn_types.specs.CowBits.{cow_bits}
use Rattle.rasn_schema.proofs.Significant.{significant_told}
use Rattle.rasn_schema.proofs.fitting.are_significant.Goals as goal

pub returns : goal.returns
returns c =
    significant_told (cow_bits c.args.bits.now) _ c.significant_len.result c.len.result (c.significant_len.ensures ∙ ap (λ l. length (significant l)) c.as_bitstr-bits.ensures) (c.len.ensures ∙ ap length c.as_bitstr-bits.ensures)
    (eqb_tells c.significant_len.result c.len.result)
