-- The kinds of values that hold no others, by number.
use Rattle.std.specs.Prelude.{ℕ, pos}
use Rattle.rasn_types.specs.Shapes.{Tree, number, chosen}
use Rattle.rasn_schema.specs.declared.types.LeafKind.{LeafKind}
use Rattle.rasn_schema.specs.declared.types.LeafKind.TheVariants.{Boolean, Null, ObjectIdentifier, BitString, NamedBits, OctetString, FixedOctetString, Integer, Signed32, Signed64, Unsigned32, Unsigned64, Numeric, Printable, Visible, Ia5, AnyOctets, Bmp, Utf8, UtcTime, GeneralizedTime, Date, Universal, RelativeOid, Real, Time, Duration, TimeOfDay, DateTime}

abbrev pub plain : ℕ → Tree
plain n = chosen 0 (number (pos n))

abbrev pub kind_tree : LeafKind → Tree
kind_tree Boolean = plain 0
kind_tree Null = plain 1
kind_tree ObjectIdentifier = plain 2
kind_tree BitString = plain 3
kind_tree NamedBits = plain 4
kind_tree OctetString = plain 5
kind_tree (FixedOctetString n) = chosen 1 (number (pos n))
kind_tree Integer = plain 6
kind_tree Signed32 = plain 7
kind_tree Signed64 = plain 8
kind_tree Unsigned32 = plain 9
kind_tree Unsigned64 = plain 10
kind_tree Numeric = plain 11
kind_tree Printable = plain 12
kind_tree Visible = plain 13
kind_tree Ia5 = plain 14
kind_tree AnyOctets = plain 15
kind_tree Bmp = plain 16
kind_tree Utf8 = plain 17
kind_tree UtcTime = plain 18
kind_tree GeneralizedTime = plain 19
kind_tree Date = plain 20
kind_tree Universal = plain 21
kind_tree RelativeOid = plain 22
kind_tree Real = plain 23
kind_tree Time = plain 24
kind_tree Duration = plain 25
kind_tree TimeOfDay = plain 26
kind_tree DateTime = plain 27
