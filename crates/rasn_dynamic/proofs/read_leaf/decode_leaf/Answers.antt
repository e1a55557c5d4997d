use Rattle.rasn_types.specs.Trees.{signed_range, unsigned_range}
use Rattle.rasn_types.specs.declared.types.strings.alphabet.Alphabet.TheVariants.{Numeric as NumericAlphabet, Printable as PrintableAlphabet, Visible as VisibleAlphabet, Ia5 as Ia5Alphabet, Every}
use Rattle.rasn_schema.specs.declared.types.LeafKind.TheVariants.{Signed32, Signed64, Unsigned32, Unsigned64, Numeric, Printable, Visible, Ia5, AnyOctets}
use Rattle.std.specs.Prelude.{chars}
use Rattle.std.specs.Cow.{cow_slice_items, cow_str_bytes}
use Rattle.rasn_de.specs.CharacterString.{BySize, ByUtf8, IsTextBorrowedIfPrimitive}
use Rattle.rasn_de.specs.OctetString.{IsBorrowedIfPrimitive}
use Rattle.rasn_de.proofs.Leaves.Returns.{residual}
use Rattle.rasn_dynamic.specs.LeafErrors.{leaf_errors}
use Rattle.rasn_dynamic.proofs.Faults.{if_err_map}
use Rattle.rasn_dynamic.proofs.LeafContents.{real_unbounded, text_unbounded, digits_unbounded}
use Rattle.rasn_dynamic.proofs.LeafErrors.{borrowed_fails, fixed_fails}
use Rattle.rasn_dynamic.proofs.FitsRead.{number_fits, string_fits, if_ok}
use Rattle.rasn_dynamic.proofs.read_leaf.decode_leaf.Goals as goal

pub returns-in-Signed32-clause-fits : goal.returns-in-Signed32-clause-fits
returns-in-Signed32-clause-fits c = rw c.in-Signed32.is (if_ok _ _ _ (number_fits Signed32 (signed_range 32) (λ n h. h)) c.decode_fixed_width.ensures.fits)

pub returns-in-Signed64-clause-fits : goal.returns-in-Signed64-clause-fits
returns-in-Signed64-clause-fits c = rw c.in-Signed64.is (if_ok _ _ _ (number_fits Signed64 (signed_range 64) (λ n h. h)) c.decode_fixed_width-in-Signed64.ensures.fits)

pub returns-in-Unsigned32-clause-fits : goal.returns-in-Unsigned32-clause-fits
returns-in-Unsigned32-clause-fits c = rw c.in-Unsigned32.is (if_ok _ _ _ (number_fits Unsigned32 (unsigned_range 32) (λ n h. h)) c.decode_fixed_width-in-Unsigned32.ensures.fits)

pub returns-in-Unsigned64-clause-fits : goal.returns-in-Unsigned64-clause-fits
returns-in-Unsigned64-clause-fits c = rw c.in-Unsigned64.is (if_ok _ _ _ (number_fits Unsigned64 (unsigned_range 64) (λ n h. h)) c.decode_fixed_width-in-Unsigned64.ensures.fits)

pub returns-in-Numeric-clause-fits : goal.returns-in-Numeric-clause-fits
returns-in-Numeric-clause-fits c = rw c.in-Numeric.is (if_ok _ _ _ (string_fits Numeric NumericAlphabet (λ l h. h)) c.decode_string.ensures.fits)

pub returns-in-Printable-clause-fits : goal.returns-in-Printable-clause-fits
returns-in-Printable-clause-fits c = rw c.in-Printable.is (if_ok _ _ _ (string_fits Printable PrintableAlphabet (λ l h. h)) c.decode_string-in-Printable.ensures.fits)

pub returns-in-Visible-clause-fits : goal.returns-in-Visible-clause-fits
returns-in-Visible-clause-fits c = rw c.in-Visible.is (if_ok _ _ _ (string_fits Visible VisibleAlphabet (λ l h. h)) c.decode_string-in-Visible.ensures.fits)

pub returns-in-Ia5-clause-fits : goal.returns-in-Ia5-clause-fits
returns-in-Ia5-clause-fits c = rw c.in-Ia5.is (if_ok _ _ _ (string_fits Ia5 Ia5Alphabet (λ l h. h)) c.decode_string-in-Ia5.ensures.fits)

pub returns-in-AnyOctets-clause-fits : goal.returns-in-AnyOctets-clause-fits
returns-in-AnyOctets-clause-fits c = rw c.in-AnyOctets.is (if_ok _ _ _ (string_fits AnyOctets Every (λ l h. tt)) c.decode_string-in-AnyOctets.ensures.fits)

pub returns-in_err-decode_with_tag_and_constraints-in-Boolean-clause-fails : goal.returns-in_err-decode_with_tag_and_constraints-in-Boolean-clause-fails
unfolding leaf_errors
returns-in_err-decode_with_tag_and_constraints-in-Boolean-clause-fails c = rw c.in-Boolean.is (rw (residual _ c.from_residual.ensures.1) c.in_err-decode_with_tag_and_constraints-in-Boolean.ensures.errors)

pub returns-in_err-decode_with_tag_and_constraints-in-Null-clause-fails : goal.returns-in_err-decode_with_tag_and_constraints-in-Null-clause-fails
unfolding leaf_errors
returns-in_err-decode_with_tag_and_constraints-in-Null-clause-fails c = rw c.in-Null.is (rw (residual _ c.from_residual-in_err-decode_with_tag_and_constraints-in-Null.ensures.1) c.in_err-decode_with_tag_and_constraints-in-Null.ensures.errors)

pub returns-in_err-decode_with_tag_and_constraints-in-ObjectIdentifier-clause-fails : goal.returns-in_err-decode_with_tag_and_constraints-in-ObjectIdentifier-clause-fails
unfolding leaf_errors
returns-in_err-decode_with_tag_and_constraints-in-ObjectIdentifier-clause-fails c = rw c.in-ObjectIdentifier.is (rw (residual _ c.from_residual-in_err-decode_with_tag_and_constraints-in-ObjectIdentifier.ensures.1) c.in_err-decode_with_tag_and_constraints-in-ObjectIdentifier.ensures.errors)

pub returns-in_err-decode_bits-in-BitString-clause-fails : goal.returns-in_err-decode_bits-in-BitString-clause-fails
unfolding leaf_errors
returns-in_err-decode_bits-in-BitString-clause-fails c = rw c.in-BitString.is (rw (residual _ c.from_residual-in_err-decode_bits-in-BitString.ensures.1) c.in_err-decode_bits-in-BitString.ensures.exact.0)

pub returns-in_err-decode_significant_bits-in-NamedBits-clause-fails : goal.returns-in_err-decode_significant_bits-in-NamedBits-clause-fails
unfolding leaf_errors
returns-in_err-decode_significant_bits-in-NamedBits-clause-fails c = rw c.in-NamedBits.is (rw (residual _ c.from_residual-in_err-decode_significant_bits-in-NamedBits.ensures.1) c.in_err-decode_significant_bits-in-NamedBits.ensures.exact.0)

pub returns-in_err-decode_octet_string-in-OctetString-clause-fails : goal.returns-in_err-decode_octet_string-in-OctetString-clause-fails
unfolding leaf_errors
returns-in_err-decode_octet_string-in-OctetString-clause-fails c = rw c.in-OctetString.is (rw (residual _ c.from_residual-in_err-decode_octet_string-in-OctetString.ensures.1) (borrowed_fails cow_slice_items IsBorrowedIfPrimitive (BySize c.args.bounds.now.size) c.args.tag c.args.decoder.now _ _ c.in_err-decode_octet_string-in-OctetString.ensures.exact))

pub returns-in_err-decode_with_tag_and_constraints-in-Integer-clause-fails : goal.returns-in_err-decode_with_tag_and_constraints-in-Integer-clause-fails
unfolding leaf_errors
returns-in_err-decode_with_tag_and_constraints-in-Integer-clause-fails c = rw c.in-Integer.is (rw (residual _ c.from_residual-in_err-decode_with_tag_and_constraints-in-Integer.ensures.1) c.in_err-decode_with_tag_and_constraints-in-Integer.ensures.errors)

pub returns-in_err-decode_bmp_string-in-Bmp-clause-fails : goal.returns-in_err-decode_bmp_string-in-Bmp-clause-fails
unfolding leaf_errors
returns-in_err-decode_bmp_string-in-Bmp-clause-fails c = rw c.in-Bmp.is (rw (residual _ c.from_residual-in_err-decode_bmp_string-in-Bmp.ensures.1) c.in_err-decode_bmp_string-in-Bmp.ensures.exact)

pub returns-in_err-decode_utf8_text-in-Utf8-clause-fails : goal.returns-in_err-decode_utf8_text-in-Utf8-clause-fails
unfolding leaf_errors
returns-in_err-decode_utf8_text-in-Utf8-clause-fails c = rw c.in-Utf8.is (rw (residual _ c.from_residual-in_err-decode_utf8_text-in-Utf8.ensures.1) (borrowed_fails (λ t. chars (cow_str_bytes t)) IsTextBorrowedIfPrimitive (ByUtf8 c.args.bounds.now.size) c.args.tag c.args.decoder.now _ _ c.in_err-decode_utf8_text-in-Utf8.ensures.exact))

pub returns-in_err-decode_with_tag_and_constraints-in-GeneralizedTime-clause-fails : goal.returns-in_err-decode_with_tag_and_constraints-in-GeneralizedTime-clause-fails
unfolding leaf_errors
returns-in_err-decode_with_tag_and_constraints-in-GeneralizedTime-clause-fails c = rw c.in-GeneralizedTime.is (rw (residual _ c.from_residual-in_err-decode_with_tag_and_constraints-in-GeneralizedTime.ensures.1) c.in_err-decode_with_tag_and_constraints-in-GeneralizedTime.ensures.exact)

pub returns-in_err-decode_with_tag_and_constraints-in-Date-clause-fails : goal.returns-in_err-decode_with_tag_and_constraints-in-Date-clause-fails
unfolding leaf_errors
returns-in_err-decode_with_tag_and_constraints-in-Date-clause-fails c = rw c.in-Date.is (rw (residual _ c.from_residual-in_err-decode_with_tag_and_constraints-in-Date.ensures.1) c.in_err-decode_with_tag_and_constraints-in-Date.ensures.errors)

pub returns-in-FixedOctetString-clause-fails : goal.returns-in-FixedOctetString-clause-fails
unfolding leaf_errors
returns-in-FixedOctetString-clause-fails c = rw c.in-FixedOctetString.is (if_err_map _ _ (λ e h. fixed_fails c.in-FixedOctetString.len c.args.tag c.args.bounds.now c.args.decoder.now _ e h) c.decode_fixed_octets.result c.decode_fixed_octets.ensures.fails)

pub returns-in-Signed32-clause-fails : goal.returns-in-Signed32-clause-fails
unfolding leaf_errors
returns-in-Signed32-clause-fails c = rw c.in-Signed32.is c.decode_fixed_width.ensures.fails

pub returns-in-Signed64-clause-fails : goal.returns-in-Signed64-clause-fails
unfolding leaf_errors
returns-in-Signed64-clause-fails c = rw c.in-Signed64.is c.decode_fixed_width-in-Signed64.ensures.fails

pub returns-in-Unsigned32-clause-fails : goal.returns-in-Unsigned32-clause-fails
unfolding leaf_errors
returns-in-Unsigned32-clause-fails c = rw c.in-Unsigned32.is c.decode_fixed_width-in-Unsigned32.ensures.fails

pub returns-in-Unsigned64-clause-fails : goal.returns-in-Unsigned64-clause-fails
unfolding leaf_errors
returns-in-Unsigned64-clause-fails c = rw c.in-Unsigned64.is c.decode_fixed_width-in-Unsigned64.ensures.fails

pub returns-in-Numeric-clause-fails : goal.returns-in-Numeric-clause-fails
unfolding leaf_errors
returns-in-Numeric-clause-fails c = rw c.in-Numeric.is c.decode_string.ensures.fails

pub returns-in-Printable-clause-fails : goal.returns-in-Printable-clause-fails
unfolding leaf_errors
returns-in-Printable-clause-fails c = rw c.in-Printable.is c.decode_string-in-Printable.ensures.fails

pub returns-in-Visible-clause-fails : goal.returns-in-Visible-clause-fails
unfolding leaf_errors
returns-in-Visible-clause-fails c = rw c.in-Visible.is c.decode_string-in-Visible.ensures.fails

pub returns-in-Ia5-clause-fails : goal.returns-in-Ia5-clause-fails
unfolding leaf_errors
returns-in-Ia5-clause-fails c = rw c.in-Ia5.is c.decode_string-in-Ia5.ensures.fails

pub returns-in-AnyOctets-clause-fails : goal.returns-in-AnyOctets-clause-fails
unfolding leaf_errors
returns-in-AnyOctets-clause-fails c = rw c.in-AnyOctets.is c.decode_string-in-AnyOctets.ensures.fails

pub returns-in-UtcTime-clause-fails : goal.returns-in-UtcTime-clause-fails
unfolding leaf_errors
returns-in-UtcTime-clause-fails c = rw c.in-UtcTime.is c.decode_utc_time.ensures.fails

pub returns-in_err-decode_with_tag_and_constraints-in-RelativeOid-clause-fails : goal.returns-in_err-decode_with_tag_and_constraints-in-RelativeOid-clause-fails
unfolding leaf_errors
returns-in_err-decode_with_tag_and_constraints-in-RelativeOid-clause-fails c = rw c.in-RelativeOid.is (rw (residual _ c.from_residual-in_err-decode_with_tag_and_constraints-in-RelativeOid.ensures.1) c.in_err-decode_with_tag_and_constraints-in-RelativeOid.ensures.errors)

pub returns-in-Universal-clause-fails : goal.returns-in-Universal-clause-fails
unfolding leaf_errors
returns-in-Universal-clause-fails c = rw c.in-Universal.is c.decode_universal.ensures.fails

pub returns-in-Real-clause-reads : goal.returns-in-Real-clause-reads
returns-in-Real-clause-reads c = rw c.in-Real.is (real_unbounded c.args.tag c.args.bounds.now c.args.decoder.now _ _ c.decode_real.ensures.reads)

pub returns-in-Real-clause-fails : goal.returns-in-Real-clause-fails
unfolding leaf_errors
returns-in-Real-clause-fails c = rw c.in-Real.is c.decode_real.ensures.fails

pub returns-in-Time-clause-reads : goal.returns-in-Time-clause-reads
returns-in-Time-clause-reads c = rw c.in-Time.is (text_unbounded c.args.tag c.args.bounds.now c.args.decoder.now _ _ c.decode_time_text.ensures.reads)

pub returns-in-Time-clause-fits : goal.returns-in-Time-clause-fits
returns-in-Time-clause-fits c = rw c.in-Time.is c.decode_time_text.ensures.fits

pub returns-in-Time-clause-fails : goal.returns-in-Time-clause-fails
unfolding leaf_errors
returns-in-Time-clause-fails c = rw c.in-Time.is c.decode_time_text.ensures.fails

pub returns-in-Duration-clause-reads : goal.returns-in-Duration-clause-reads
returns-in-Duration-clause-reads c = rw c.in-Duration.is (text_unbounded c.args.tag c.args.bounds.now c.args.decoder.now _ _ c.decode_time_text-in-Duration.ensures.reads)

pub returns-in-Duration-clause-fits : goal.returns-in-Duration-clause-fits
returns-in-Duration-clause-fits c = rw c.in-Duration.is c.decode_time_text-in-Duration.ensures.fits

pub returns-in-Duration-clause-fails : goal.returns-in-Duration-clause-fails
unfolding leaf_errors
returns-in-Duration-clause-fails c = rw c.in-Duration.is c.decode_time_text-in-Duration.ensures.fails

pub returns-in-TimeOfDay-clause-reads : goal.returns-in-TimeOfDay-clause-reads
returns-in-TimeOfDay-clause-reads c = rw c.in-TimeOfDay.is (digits_unbounded 6 c.args.tag c.args.bounds.now c.args.decoder.now _ _ c.decode_time_digits.ensures.reads)

pub returns-in-TimeOfDay-clause-fits : goal.returns-in-TimeOfDay-clause-fits
returns-in-TimeOfDay-clause-fits c = rw c.in-TimeOfDay.is c.decode_time_digits.ensures.fits

pub returns-in-TimeOfDay-clause-fails : goal.returns-in-TimeOfDay-clause-fails
unfolding leaf_errors
returns-in-TimeOfDay-clause-fails c = rw c.in-TimeOfDay.is c.decode_time_digits.ensures.fails

pub returns-in-DateTime-clause-reads : goal.returns-in-DateTime-clause-reads
returns-in-DateTime-clause-reads c = rw c.in-DateTime.is (digits_unbounded 14 c.args.tag c.args.bounds.now c.args.decoder.now _ _ c.decode_time_digits-in-DateTime.ensures.reads)

pub returns-in-DateTime-clause-fits : goal.returns-in-DateTime-clause-fits
returns-in-DateTime-clause-fits c = rw c.in-DateTime.is c.decode_time_digits-in-DateTime.ensures.fits

pub returns-in-DateTime-clause-fails : goal.returns-in-DateTime-clause-fails
unfolding leaf_errors
returns-in-DateTime-clause-fails c = rw c.in-DateTime.is c.decode_time_digits-in-DateTime.ensures.fails

pub returns-in-Signed32-clause-offset : goal.returns-in-Signed32-clause-offset
returns-in-Signed32-clause-offset c = rw c.in-Signed32.is (if_ok _ _ _ (λ v h. tt) c.decode_fixed_width.ensures.fits)

pub returns-in-Signed64-clause-offset : goal.returns-in-Signed64-clause-offset
returns-in-Signed64-clause-offset c = rw c.in-Signed64.is (if_ok _ _ _ (λ v h. tt) c.decode_fixed_width-in-Signed64.ensures.fits)

pub returns-in-Unsigned32-clause-offset : goal.returns-in-Unsigned32-clause-offset
returns-in-Unsigned32-clause-offset c = rw c.in-Unsigned32.is (if_ok _ _ _ (λ v h. tt) c.decode_fixed_width-in-Unsigned32.ensures.fits)

pub returns-in-Unsigned64-clause-offset : goal.returns-in-Unsigned64-clause-offset
returns-in-Unsigned64-clause-offset c = rw c.in-Unsigned64.is (if_ok _ _ _ (λ v h. tt) c.decode_fixed_width-in-Unsigned64.ensures.fits)

pub returns-in-Numeric-clause-offset : goal.returns-in-Numeric-clause-offset
returns-in-Numeric-clause-offset c = rw c.in-Numeric.is (if_ok _ _ _ (λ v h. tt) c.decode_string.ensures.fits)

pub returns-in-Printable-clause-offset : goal.returns-in-Printable-clause-offset
returns-in-Printable-clause-offset c = rw c.in-Printable.is (if_ok _ _ _ (λ v h. tt) c.decode_string-in-Printable.ensures.fits)

pub returns-in-Visible-clause-offset : goal.returns-in-Visible-clause-offset
returns-in-Visible-clause-offset c = rw c.in-Visible.is (if_ok _ _ _ (λ v h. tt) c.decode_string-in-Visible.ensures.fits)

pub returns-in-Ia5-clause-offset : goal.returns-in-Ia5-clause-offset
returns-in-Ia5-clause-offset c = rw c.in-Ia5.is (if_ok _ _ _ (λ v h. tt) c.decode_string-in-Ia5.ensures.fits)

pub returns-in-AnyOctets-clause-offset : goal.returns-in-AnyOctets-clause-offset
returns-in-AnyOctets-clause-offset c = rw c.in-AnyOctets.is (if_ok _ _ _ (λ v h. tt) c.decode_string-in-AnyOctets.ensures.fits)

pub returns-in-Time-clause-offset : goal.returns-in-Time-clause-offset
returns-in-Time-clause-offset c = rw c.in-Time.is (if_ok _ _ _ (λ v h. tt) c.decode_time_text.ensures.fits)

pub returns-in-Duration-clause-offset : goal.returns-in-Duration-clause-offset
returns-in-Duration-clause-offset c = rw c.in-Duration.is (if_ok _ _ _ (λ v h. tt) c.decode_time_text-in-Duration.ensures.fits)

pub returns-in-TimeOfDay-clause-offset : goal.returns-in-TimeOfDay-clause-offset
returns-in-TimeOfDay-clause-offset c = rw c.in-TimeOfDay.is (if_ok _ _ _ (λ v h. tt) c.decode_time_digits.ensures.fits)

pub returns-in-DateTime-clause-offset : goal.returns-in-DateTime-clause-offset
returns-in-DateTime-clause-offset c = rw c.in-DateTime.is (if_ok _ _ _ (λ v h. tt) c.decode_time_digits-in-DateTime.ensures.fits)

pub returns-in-FixedOctetString-clause-offset : goal.returns-in-FixedOctetString-clause-offset
returns-in-FixedOctetString-clause-offset c = rw c.in-FixedOctetString.is (if_ok _ _ _ (λ v h. tt) c.decode_fixed_octets.ensures.fits)

pub returns-in-Universal-clause-offset : goal.returns-in-Universal-clause-offset
returns-in-Universal-clause-offset c = rw c.in-Universal.is (if_ok _ _ _ (λ v h. tt) c.decode_universal.ensures.fits)

pub returns-in-Real-clause-offset : goal.returns-in-Real-clause-offset
returns-in-Real-clause-offset c = rw c.in-Real.is (if_ok _ _ _ (λ v h. tt) c.decode_real.ensures.fits)

pub returns-in-UtcTime-clause-offset : goal.returns-in-UtcTime-clause-offset
returns-in-UtcTime-clause-offset c = rw c.in-UtcTime.is c.decode_utc_time.ensures.offset
