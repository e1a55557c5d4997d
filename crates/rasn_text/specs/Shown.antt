-- Texts as they are printed: none of their characters ends a line, reverses or colours what follows, or can't be seen.
use Rattle.std.specs.Prelude.{◌==◌, ◌/◌, ◌%◌, ◌||◌, ◌&&◌, ◌∷◌, [], ◌++◌, ℕ, List, Bool, false, not, nat_lt, if◌then◌else◌, encode_utf8, encode_utf8_all, flat_map}
use Rattle.std.specs.Char.Escape.{escape_unicode, encode_utf16}
use Rattle.std.specs.Fmt.{digit_glyph}
use Rattle.rasn_text.specs.declared.shown.Escaping.{Escaping}
use Rattle.rasn_text.specs.declared.shown.Escaping.TheVariants.{Line, Lines, Json}

-- c is one of the numbers from first to last.
abbrev pub is_from : ℕ → ℕ → ℕ → Bool
is_from first last c = not (nat_lt c first) && not (nat_lt last c)

-- Control characters: those of general category Cc.
abbrev pub is_control : ℕ → Bool
is_control c = nat_lt c 0x20 || is_from 0x7F 0x9F c

-- Characters that end a line or a paragraph, of general category Zl and Zp.
abbrev pub is_separator : ℕ → Bool
is_separator c = is_from 0x2028 0x2029 c

-- Characters with the property Default_Ignorable_Code_Point (Unicode 16.0, DerivedCoreProperties.txt). All that have Bidi_Control
-- (PropList.txt) are among them: 061C, 200E, 200F, 202A to 202E and 2066 to 2069.
abbrev pub is_ignorable_below : ℕ → Bool
is_ignorable_below c = (c == 0xAD) || (c == 0x34F) || (c == 0x61C) || is_from 0x115F 0x1160 c || is_from 0x17B4 0x17B5 c || is_from 0x180B 0x180F c

abbrev pub is_ignorable_above : ℕ → Bool
is_ignorable_above c = is_from 0x200B 0x200F c || is_from 0x202A 0x202E c || is_from 0x2060 0x206F c || (c == 0x3164) || is_from 0xFE00 0xFE0F c || (c == 0xFEFF)
    || (c == 0xFFA0) || is_from 0xFFF0 0xFFF8 c || is_from 0x1BCA0 0x1BCA3 c || is_from 0x1D173 0x1D17A c || is_from 0xE0000 0xE0FFF c

abbrev pub is_hidden : ℕ → Bool
is_hidden c = is_control c || is_separator c || is_ignorable_below c || is_ignorable_above c

-- A character as a part of a line: an escape of ASCII characters if it is hidden.
abbrev pub shown : ℕ → List ℕ
shown c = if is_hidden c then encode_utf8_all (escape_unicode c) else encode_utf8 c

-- A 16-bit unit in JSON: its four digits after \u (RFC 8259, 7).
abbrev pub unit_text : ℕ → List ℕ
unit_text u = 92 ∷ 117 ∷ digit_glyph false (u / 4096) ∷ digit_glyph false (u / 256 % 16) ∷ digit_glyph false (u / 16 % 16) ∷ digit_glyph false (u % 16) ∷ []

-- A character of a string of JSON: its units of UTF-16 if it is hidden.
abbrev pub shown_in_json : ℕ → List ℕ
shown_in_json c = if is_hidden c then flat_map unit_text (encode_utf16 c) else encode_utf8 c

-- Line feeds end lines, also those of JSON.
abbrev pub unless_line_feed : ℕ → List ℕ → List ℕ
unless_line_feed c text = if c == 10 then 10 ∷ [] else text

abbrev pub shown_by : Escaping → ℕ → List ℕ
shown_by Line c = shown c
shown_by Lines c = unless_line_feed c (shown c)
shown_by Json c = unless_line_feed c (shown_in_json c)
