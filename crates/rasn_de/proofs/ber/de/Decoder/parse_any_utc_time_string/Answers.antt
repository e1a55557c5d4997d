use Rattle.std.proofs.Common.{ℕ, ap}
use Rattle.std.specs.declared.alloc.Global.{Global}
use Rattle.std.specs.declared.vec.Vec.{Vec}
use Rattle.rasn_types.specs.Time.{GeneralUtc}
use Rattle.rasn_de.specs.Time.{AtAnyOffset}
use Rattle.rasn_de.proofs.Strings.Time.{parsed_none}
use Rattle.rasn_de.proofs.ber.de.Decoder.parse_any_utc_time_string.Goals as goal

pub returns-in-None : goal.returns-in-None
returns-in-None c = parsed_none (AtAnyOffset GeneralUtc) _ _ _ c.invalid_date.result c.as_bytes.ensures.value (ap (λ (v : Vec ℕ Global). v.items) c.into_bytes.ensures.value) c.in-None.ensures c.invalid_date.ensures
