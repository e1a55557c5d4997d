-- The numbers of the rules in C: `soq_rule`.
use Rattle.std.specs.Prelude.{◌≡◌, ℕ}
use Rattle.rasn_types.specs.declared.types.codec.Codec.{Codec}
use Rattle.rasn_types.specs.declared.types.codec.Codec.TheVariants.{Ber, Cer, Der}

abbrev pub rule_number : Codec → ℕ
rule_number Ber = 0
rule_number Cer = 1
rule_number Der = 2

abbrev pub IsUnknownRule : ℕ → Type 0
IsUnknownRule number = (rule : Codec) → number ≡ rule_number rule → ⊥
