-- The numbers and the names of the kinds of leaves.
use Rattle.std.specs.Prelude.{ℕ, List, [], codes}
use Rattle.rasn_schema.specs.declared.types.LeafKind.{LeafKind}
use Rattle.rasn_schema.specs.declared.types.LeafKind.TheVariants.{Boolean, Null, ObjectIdentifier, BitString, NamedBits, OctetString, FixedOctetString, Integer, Signed32, Signed64, Unsigned32, Unsigned64, Numeric, Printable, Visible, Ia5, AnyOctets, Bmp, Utf8, UtcTime, GeneralizedTime, Date, Universal, RelativeOid, Real, Time, Duration, TimeOfDay, DateTime}

-- The number of the universal tag (X.680 8.4), the words in a module, the range of an INTEGER of fixed width, and the type in Rattle.
pub record Names : Type 0 where
  pub number : ℕ
  pub notation : List ℕ
  pub range : List ℕ
  pub rattle : List ℕ

abbrev plain : ℕ → List ℕ → List ℕ → Names
plain number notation rattle = record { number = number; notation = notation; range = []; rattle = rattle }

abbrev whole : List ℕ → List ℕ → Names
whole rattle range = record { number = 2; notation = codes "INTEGER"; range = range; rattle = rattle }

-- What a kind is called. A string of any octets is called a GeneralString. Of a kind that has no type in Rattle, the type is
-- one that holds its octets.
abbrev pub names_of : LeafKind → Names
names_of Boolean = plain 1 (codes "BOOLEAN") (codes "bool")
names_of Null = plain 5 (codes "NULL") (codes "()")
names_of ObjectIdentifier = plain 6 (codes "OBJECT IDENTIFIER") (codes "ObjectIdentifier")
names_of BitString = plain 3 (codes "BIT STRING") (codes "BitString")
names_of NamedBits = plain 3 (codes "BIT STRING") (codes "NamedBits")
names_of OctetString = plain 4 (codes "OCTET STRING") (codes "OctetString")
names_of (FixedOctetString n) = plain 4 (codes "OCTET STRING") (codes "FixedOctetString")
names_of Integer = whole (codes "Integer") []
names_of Signed32 = whole (codes "i32") (codes "-2147483648..2147483647")
names_of Signed64 = whole (codes "i64") (codes "-9223372036854775808..9223372036854775807")
names_of Unsigned32 = whole (codes "u32") (codes "0..4294967295")
names_of Unsigned64 = whole (codes "u64") (codes "0..18446744073709551615")
names_of Numeric = plain 18 (codes "NumericString") (codes "NumericString")
names_of Printable = plain 19 (codes "PrintableString") (codes "PrintableString")
names_of Visible = plain 26 (codes "VisibleString") (codes "VisibleString")
names_of Ia5 = plain 22 (codes "IA5String") (codes "Ia5String")
names_of AnyOctets = plain 27 (codes "GeneralString") (codes "GeneralString")
names_of Bmp = plain 30 (codes "BMPString") (codes "BmpString")
names_of Utf8 = plain 12 (codes "UTF8String") (codes "Utf8String")
names_of UtcTime = plain 23 (codes "UTCTime") (codes "UtcTime")
names_of GeneralizedTime = plain 24 (codes "GeneralizedTime") (codes "GeneralizedTime")
names_of Date = plain 31 (codes "DATE") (codes "Date")
names_of Universal = plain 28 (codes "UniversalString") (codes "GeneralString")
names_of RelativeOid = plain 13 (codes "RELATIVE-OID") (codes "OctetString")
names_of Real = plain 9 (codes "REAL") (codes "OctetString")
names_of Time = plain 14 (codes "TIME") (codes "VisibleString")
names_of Duration = plain 34 (codes "DURATION") (codes "VisibleString")
names_of TimeOfDay = plain 32 (codes "TIME-OF-DAY") (codes "VisibleString")
names_of DateTime = plain 33 (codes "DATE-TIME") (codes "VisibleString")
