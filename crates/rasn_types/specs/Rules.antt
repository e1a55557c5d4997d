-- The encoding rules and their names.
pub use Rattle.rasn_types.specs.declared.types.codec.Codec.{Codec}
use Rattle.rasn_types.specs.declared.types.codec.Codec.TheVariants.{Ber, Cer, Der}
pub use Rattle.rasn_types.specs.declared.ber.rules.EncodingRules.{EncodingRules}
use Rattle.rasn_types.specs.declared.ber.rules.EncodingRules.TheVariants.{Ber as basic, Cer as canonical, Der as distinguished}

-- The name of the rules, by which the grammar says what they allow.
abbrev pub codec_of : EncodingRules → Codec
codec_of basic = Ber
codec_of canonical = Cer
codec_of distinguished = Der
