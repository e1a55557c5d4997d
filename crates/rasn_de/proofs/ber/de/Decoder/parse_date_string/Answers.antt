use Rattle.rasn_types.specs.Time.{DateText}
use Rattle.rasn_de.proofs.Strings.Time.{copied_none}
use Rattle.rasn_de.proofs.ber.de.Decoder.parse_date_string.Goals as goal

pub returns-in-None : goal.returns-in-None
returns-in-None c = copied_none DateText _ _ _ c.invalid_text.result c.as_bytes.ensures.value c.as_bytes-in-None.ensures.value c.in-None.ensures c.invalid_text.ensures
