-- The bits of a KeyUsage (RFC 5280, 4.2.1.3).
use Rattle.std.specs.Prelude.{ℕ, Bool, false, get_or}
use Rattle.rasn_pkix.specs.declared.key_usage.KeyUsage.{KeyUsage}

-- Whether the bit at this position is 1. A missing bit is 0.
abbrev pub is_named : ℕ → KeyUsage → Bool
is_named place u = get_or u.value place false
