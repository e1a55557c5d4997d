use Rattle.rasn_dynamic.specs.LeafErrors.{leaf_errors}
use Rattle.rasn_dynamic.proofs.CheckedLeaves.{checks_object}
use Rattle.rasn_dynamic.proofs.Faults.{if_err_map}
use Rattle.rasn_dynamic.proofs.LeafErrors.{number_fails}
use Rattle.rasn_dynamic.specs.Making.{reported}
use Rattle.rasn_dynamic.proofs.read_leaf.check_leaf.Goals as goal

pub returns-in-ObjectIdentifier-clause-reads : goal.returns-in-ObjectIdentifier-clause-reads
returns-in-ObjectIdentifier-clause-reads c = rw c.in-ObjectIdentifier.is (checks_object c.args.tag c.args.bounds.now c.args.decoder.now _ (reported c.check_arcs.result c.check_arcs.new.error) c.check_arcs.ensures.reads)

pub returns-in-Integer-clause-reads : goal.returns-in-Integer-clause-reads
returns-in-Integer-clause-reads c = rw c.in-Integer.is c.check_integer.ensures.reads

pub returns-in-BitString-clause-reads : goal.returns-in-BitString-clause-reads
returns-in-BitString-clause-reads c = rw c.in-BitString.is c.check_bits.ensures.reads

pub returns-in-OctetString-clause-reads : goal.returns-in-OctetString-clause-reads
returns-in-OctetString-clause-reads c = rw c.in-OctetString.is c.check_octets.ensures.reads

pub returns-in-Bmp-clause-reads : goal.returns-in-Bmp-clause-reads
returns-in-Bmp-clause-reads c = rw c.in-Bmp.is c.check_bmp.ensures.reads

pub returns-in-UtcTime-clause-reads : goal.returns-in-UtcTime-clause-reads
returns-in-UtcTime-clause-reads c = rw c.in-UtcTime.is c.check_utc_time.ensures.reads

pub returns-in-GeneralizedTime-clause-reads : goal.returns-in-GeneralizedTime-clause-reads
returns-in-GeneralizedTime-clause-reads c = rw c.in-GeneralizedTime.is c.check_generalized_time.ensures.reads

pub returns-in-Date-clause-reads : goal.returns-in-Date-clause-reads
returns-in-Date-clause-reads c = rw c.in-Date.is c.check_date.ensures.reads

pub returns-in-NamedBits-clause-reads : goal.returns-in-NamedBits-clause-reads
returns-in-NamedBits-clause-reads c = rw c.in-NamedBits.is c.check_named_bits.ensures.reads

pub returns-in-FixedOctetString-clause-reads : goal.returns-in-FixedOctetString-clause-reads
returns-in-FixedOctetString-clause-reads c = rw c.in-FixedOctetString.is c.check_fixed_octets.ensures.reads

pub returns-in-Numeric-clause-reads : goal.returns-in-Numeric-clause-reads
returns-in-Numeric-clause-reads c = rw c.in-Numeric.is c.check_string.ensures.reads

pub returns-in-Printable-clause-reads : goal.returns-in-Printable-clause-reads
returns-in-Printable-clause-reads c = rw c.in-Printable.is c.check_string-in-Printable.ensures.reads

pub returns-in-Visible-clause-reads : goal.returns-in-Visible-clause-reads
returns-in-Visible-clause-reads c = rw c.in-Visible.is c.check_string-in-Visible.ensures.reads

pub returns-in-Ia5-clause-reads : goal.returns-in-Ia5-clause-reads
returns-in-Ia5-clause-reads c = rw c.in-Ia5.is c.check_string-in-Ia5.ensures.reads

pub returns-in-AnyOctets-clause-reads : goal.returns-in-AnyOctets-clause-reads
returns-in-AnyOctets-clause-reads c = rw c.in-AnyOctets.is c.check_string-in-AnyOctets.ensures.reads

pub returns-in-Utf8-clause-reads : goal.returns-in-Utf8-clause-reads
returns-in-Utf8-clause-reads c = rw c.in-Utf8.is c.check_text.ensures.reads

pub returns-in-ObjectIdentifier-clause-fails : goal.returns-in-ObjectIdentifier-clause-fails
unfolding leaf_errors
returns-in-ObjectIdentifier-clause-fails c = rw c.in-ObjectIdentifier.is c.check_arcs.ensures.fails

pub returns-in-Integer-clause-fails : goal.returns-in-Integer-clause-fails
unfolding leaf_errors
returns-in-Integer-clause-fails c = rw c.in-Integer.is (if_err_map _ _ (λ e h. number_fails c.args.tag c.args.bounds.now c.args.decoder.now _ e h) (reported c.check_integer.result c.check_integer.new.error) c.check_integer.ensures.fails)

pub returns-in-BitString-clause-fails : goal.returns-in-BitString-clause-fails
unfolding leaf_errors
returns-in-BitString-clause-fails c = rw c.in-BitString.is c.check_bits.ensures.fails

pub returns-in-NamedBits-clause-fails : goal.returns-in-NamedBits-clause-fails
unfolding leaf_errors
returns-in-NamedBits-clause-fails c = rw c.in-NamedBits.is c.check_named_bits.ensures.fails

pub returns-in-OctetString-clause-fails : goal.returns-in-OctetString-clause-fails
unfolding leaf_errors
returns-in-OctetString-clause-fails c = rw c.in-OctetString.is c.check_octets.ensures.fails

pub returns-in-FixedOctetString-clause-fails : goal.returns-in-FixedOctetString-clause-fails
unfolding leaf_errors
returns-in-FixedOctetString-clause-fails c = rw c.in-FixedOctetString.is c.check_fixed_octets.ensures.fails

pub returns-in-Numeric-clause-fails : goal.returns-in-Numeric-clause-fails
unfolding leaf_errors
returns-in-Numeric-clause-fails c = rw c.in-Numeric.is c.check_string.ensures.fails

pub returns-in-Printable-clause-fails : goal.returns-in-Printable-clause-fails
unfolding leaf_errors
returns-in-Printable-clause-fails c = rw c.in-Printable.is c.check_string-in-Printable.ensures.fails

pub returns-in-Visible-clause-fails : goal.returns-in-Visible-clause-fails
unfolding leaf_errors
returns-in-Visible-clause-fails c = rw c.in-Visible.is c.check_string-in-Visible.ensures.fails

pub returns-in-Ia5-clause-fails : goal.returns-in-Ia5-clause-fails
unfolding leaf_errors
returns-in-Ia5-clause-fails c = rw c.in-Ia5.is c.check_string-in-Ia5.ensures.fails

pub returns-in-AnyOctets-clause-fails : goal.returns-in-AnyOctets-clause-fails
unfolding leaf_errors
returns-in-AnyOctets-clause-fails c = rw c.in-AnyOctets.is c.check_string-in-AnyOctets.ensures.fails

pub returns-in-Bmp-clause-fails : goal.returns-in-Bmp-clause-fails
unfolding leaf_errors
returns-in-Bmp-clause-fails c = rw c.in-Bmp.is c.check_bmp.ensures.fails

pub returns-in-Utf8-clause-fails : goal.returns-in-Utf8-clause-fails
unfolding leaf_errors
returns-in-Utf8-clause-fails c = rw c.in-Utf8.is c.check_text.ensures.fails

pub returns-in-UtcTime-clause-fails : goal.returns-in-UtcTime-clause-fails
unfolding leaf_errors
returns-in-UtcTime-clause-fails c = rw c.in-UtcTime.is c.check_utc_time.ensures.fails

pub returns-in-GeneralizedTime-clause-fails : goal.returns-in-GeneralizedTime-clause-fails
unfolding leaf_errors
returns-in-GeneralizedTime-clause-fails c = rw c.in-GeneralizedTime.is c.check_generalized_time.ensures.fails

pub returns-in-Date-clause-fails : goal.returns-in-Date-clause-fails
unfolding leaf_errors
returns-in-Date-clause-fails c = rw c.in-Date.is c.check_date.ensures.fails

pub returns-in-RelativeOid-clause-reads : goal.returns-in-RelativeOid-clause-reads
returns-in-RelativeOid-clause-reads c =
    rw c.in-RelativeOid.is (checks_object c.args.tag c.args.bounds.now c.args.decoder.now _ (reported c.check_arcs-in-RelativeOid.result c.check_arcs-in-RelativeOid.new.error) c.check_arcs-in-RelativeOid.ensures.reads)

pub returns-in-RelativeOid-clause-fails : goal.returns-in-RelativeOid-clause-fails
unfolding leaf_errors
returns-in-RelativeOid-clause-fails c =
    rw c.in-RelativeOid.is c.check_arcs-in-RelativeOid.ensures.fails
