-- Numbers that are left to be compared.
use Rattle.std.specs.Prelude.{ℕ, List, chars}
use Rattle.rasn_schema.specs.declared.numbers.Numbers.{Numbers}
use Rattle.rasn_schema.specs.declared.numbers.Numbers.TheVariants.{Octets, Characters, Units, Arcs}

abbrev pub numbers_left : Numbers → List ℕ
numbers_left (Octets o) = o.now
numbers_left (Characters t) = chars t.now
numbers_left (Units u) = u
numbers_left (Arcs a) = a.now
