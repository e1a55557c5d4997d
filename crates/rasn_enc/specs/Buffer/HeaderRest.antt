-- The octets of a header after its first two.
use Rattle.std.specs.Prelude.{ℕ, List, take}
use Rattle.rasn_enc.specs.declared.ber.enc.writer.header_rest.HeaderRest.{HeaderRest}

abbrev pub rest_octets : HeaderRest → List ℕ
rest_octets r = take r.count r.octets
