use Rattle.std.proofs.Common.{◌<◌}
use Rattle.std.proofs.lemmas.List.Elements.{All-weaker}
use Rattle.std.proofs.lemmas.Str.{IsUtf8-from_ascii}
use Rattle.std.proofs.lemmas.Str.Ascii.{IsAscii-from_all}
use Rattle.rasn_types.specs.CharacterString.{IsAdmitted}
use Rattle.rasn_types.proofs.types.strings.restricted.RestrictedString.as_str.Goals as goal

pub from_utf8_unchecked-requires : goal.from_utf8_unchecked-requires
from_utf8_unchecked-requires g c =
    let octets = c.as_octets-octets.result.now in
    let admitted = c.as_octets-octets.ensures in
    IsUtf8-from_ascii octets (IsAscii-from_all octets (All-weaker (IsAdmitted g.S.StringType.ALPHABET) (λ b. b < 128) g.met.S.AsciiType.ascii octets (rw admitted.octets admitted.admitted)))
