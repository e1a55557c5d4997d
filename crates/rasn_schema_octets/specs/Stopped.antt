-- Where reading octets stops.
use Rattle.std.specs.Prelude.{◌≢◌, ◌≤◌, ℕ}
use Rattle.rasn_schema_octets.specs.declared.locate.Stopped.{Stopped}
use Rattle.rasn_schema_octets.specs.declared.locate.Stopped.TheVariants.{At, Version}

-- At an octet up to this one, or at another version.
abbrev pub IsStopped : ℕ → Stopped → Type 0
IsStopped end (At part offset) = offset ≤ end
IsStopped end (Version v) = v ≢ 1
