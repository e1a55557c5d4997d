-- Which rule of X.690 the encodings with a tag follow (X.680 8.4).
use Rattle.std.specs.Prelude.{ℕ, Bool, ◌==◌, ◌||◌, ◌&&◌, nat_le, if◌then◌else◌}
use Rattle.rasn_types.specs.declared.types.tag.Tag.{Tag}
use Rattle.rasn_types.specs.Tags.{is_universal}
use Rattle.rasn_types.specs.declared.types.strings.alphabet.Alphabet.TheVariants.{Numeric, Printable, Visible, Ia5}
use Rattle.rasn_lint.specs.declared.der.universal.ContentsRule.{ContentsRule}
use Rattle.rasn_lint.specs.declared.der.universal.ContentsRule.TheVariants.{Boolean, Integer, BitString, Null, Subidentifiers, Utf8, Characters, Units, UtcTime, GeneralizedTime, Date, Octets, Values, Set, Unknown}

-- OCTET STRING, ObjectDescriptor, REAL, TIME; TeletexString, VideotexString; GraphicString; GeneralString,
-- UniversalString; TIME-OF-DAY, DATE-TIME, DURATION, OID-IRI and RELATIVE-OID-IRI.
abbrev pub has_any_octets : ℕ → Bool
has_any_octets n = (n == 4) || (n == 7) || (n == 9) || (n == 14) || (n == 20) || (n == 21) || (n == 25) || (n == 27) || (n == 28)
    || (nat_le 32 n && nat_le n 36)

-- EXTERNAL, EMBEDDED PDV, SEQUENCE and CHARACTER STRING.
abbrev pub has_values : ℕ → Bool
has_values n = (n == 8) || (n == 11) || (n == 16) || (n == 29)

-- The rule for the universal tag with a number.
unfoldable pub rule_in : ℕ → ContentsRule
rule_in n =
    if n == 1 then Boolean
    else if (n == 2) || (n == 10) then Integer
    else if n == 3 then BitString
    else if n == 5 then Null
    else if (n == 6) || (n == 13) then Subidentifiers
    else if n == 12 then Utf8
    else if n == 18 then Characters Numeric
    else if n == 19 then Characters Printable
    else if n == 22 then Characters Ia5
    else if n == 26 then Characters Visible
    else if n == 30 then Units
    else if n == 23 then UtcTime
    else if n == 24 then GeneralizedTime
    else if n == 31 then Date
    else if has_any_octets n then Octets
    else if has_values n then Values
    else if n == 17 then Set
    else Unknown

abbrev pub rule_of : Tag → ContentsRule
rule_of tag = if is_universal tag.class then rule_in tag.value else Unknown
