-- The law of one refusal for values that contain no others.
use Rattle.rasn_types.specs.Inline.{IsLong}
use Rattle.rasn_types.specs.Shapes.{every}
use Rattle.rasn_de.proofs.Strings.Checks.{by_alphabet, by_utf8, by_units, by_length, by_size}
use Rattle.rasn.specs.RefusalLaws.{LeavesAreApart, LeavesLeaveNone, LeavesSettle}
use Rattle.rasn.proofs.OneRefusal.Leaves.{boolean_apart, null_apart, integer_apart, enumerated_apart, object_identifier_apart}
use Rattle.rasn.proofs.OneRefusal.Strings.{by_size_once, by_length_once, by_alphabet_once, by_utf8_once, by_units_once, string_apart, bit_string_apart, named_bits_apart, utc_time_apart, generalized_time_apart, date_apart}
use Rattle.rasn.proofs.OneRefusal.Decided.{boolean_decided, null_decided, integer_decided, enumerated_decided}
use Rattle.rasn.proofs.OneRefusal.Read.{by_size_all, by_length_all, by_characters_all, string_read, bit_string_read, named_bits_read, by_alphabet_all, object_identifier_read, utc_time_read, generalized_time_read, date_read}
use Rattle.rasn.proofs.OneRefusal.OpenRead.{open_type_read}
use Rattle.rasn.proofs.OneRefusal.Calls.{settled_none}
use Rattle.rasn.proofs.OneRefusal.Open.{open_type_apart}
use Rattle.rasn.proofs.OneRefusal.Lists.{unknown_apart}
use Rattle.rasn.proofs.OneRefusal.SettledLists.{unknown_read}

pub leaves : LeavesAreApart
leaves = record {
  of_boolean = boolean_apart;
  of_null = null_apart;
  of_integer = λ width range tag c. integer_apart width range c (λ z. ⊥) tag;
  of_long_integer = λ tag c. integer_apart 0 every c IsLong tag;
  of_enumerated = enumerated_apart;
  of_object_identifier = object_identifier_apart;
  of_bit_string = bit_string_apart;
  of_named_bits = named_bits_apart;
  of_octet_string = λ tag c. string_apart (by_size c) (by_size_once c.size) tag;
  of_fixed = λ n tag c. string_apart (by_length n c) (by_length_once n c.size) tag;
  of_characters = λ a tag c. string_apart (by_alphabet a c) (by_alphabet_once a c.size) tag;
  of_utf8 = λ tag c. string_apart (by_utf8 c) (by_utf8_once c.size) tag;
  of_bmp = λ tag c. string_apart (by_units c) (by_units_once c.size) tag;
  of_utc_time = utc_time_apart;
  of_generalized_time = generalized_time_apart;
  of_date = date_apart;
  of_open_type = open_type_apart;
  of_unknown = unknown_apart;
}

pub settled : LeavesSettle
settled = record {
  of_boolean = boolean_decided;
  of_null = null_decided;
  of_integer = λ width range tag c. integer_decided width range c (λ z. ⊥) tag;
  of_long_integer = λ tag c. integer_decided 0 every c IsLong tag;
  of_enumerated = enumerated_decided;
  of_object_identifier = object_identifier_read;
  of_bit_string = bit_string_read;
  of_named_bits = named_bits_read;
  of_octet_string = λ tag c. string_read (by_size c) (by_size_all c.size) tag;
  of_fixed = λ n tag c. string_read (by_length n c) (by_length_all n c.size) tag;
  of_characters = λ a tag c. string_read (by_alphabet a c) (by_alphabet_all a c.size) tag;
  of_utf8 = λ tag c. string_read (by_utf8 c) (by_characters_all _ _ c.size) tag;
  of_bmp = λ tag c. string_read (by_units c) (by_characters_all _ _ c.size) tag;
  of_utc_time = utc_time_read;
  of_generalized_time = generalized_time_read;
  of_date = date_read;
  of_open_type = open_type_read;
  of_unknown = unknown_read;
}

pub decided : LeavesLeaveNone
decided = record {
  of_boolean = λ tag. settled_none _ _ _ (settled.of_boolean tag);
  of_null = λ tag. settled_none _ _ _ (settled.of_null tag);
  of_integer = λ width range tag c. settled_none _ _ _ (settled.of_integer width range tag c);
  of_long_integer = λ tag c. settled_none _ _ _ (settled.of_long_integer tag c);
  of_enumerated = λ known fits tag. settled_none _ _ _ (settled.of_enumerated known fits tag);
  of_object_identifier = λ tag. settled_none _ _ _ (settled.of_object_identifier tag);
  of_bit_string = λ tag c. settled_none _ _ _ (settled.of_bit_string tag c);
  of_named_bits = λ tag c. settled_none _ _ _ (settled.of_named_bits tag c);
  of_octet_string = λ tag c. settled_none _ _ _ (settled.of_octet_string tag c);
  of_fixed = λ n tag c. settled_none _ _ _ (settled.of_fixed n tag c);
  of_characters = λ a tag c. settled_none _ _ _ (settled.of_characters a tag c);
  of_utf8 = λ tag c. settled_none _ _ _ (settled.of_utf8 tag c);
  of_bmp = λ tag c. settled_none _ _ _ (settled.of_bmp tag c);
  of_utc_time = λ tag c. settled_none _ _ _ (settled.of_utc_time tag c);
  of_generalized_time = λ tag c. settled_none _ _ _ (settled.of_generalized_time tag c);
  of_date = λ tag c. settled_none _ _ _ (settled.of_date tag c);
  of_open_type = λ tag. settled_none _ _ _ (settled.of_open_type tag);
  of_unknown = settled_none _ _ _ settled.of_unknown;
}
