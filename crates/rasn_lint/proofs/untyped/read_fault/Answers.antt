use Rattle.std.specs.Prelude.{IfOk}
use Rattle.std.proofs.Common.{sym, subst}
use Rattle.rasn_types.specs.declared.types.codec.Codec.TheVariants.{Der}
use Rattle.rasn_types.specs.Bytes.{Bytes}
use Rattle.rasn_types.specs.Shapes.{leaf, octet_string, numbers}
use Rattle.rasn_types.specs.Trees.{unconstrained}
use Rattle.rasn_lint.proofs.Clean.{if_then}
use Rattle.rasn_lint.proofs.ReadAs.{IsPrimitiveFault, boolean_fault, integer_fault, bits_fault, null_fault, utf8_fault, characters_fault, units_fault, utc_fault, generalized_fault, date_fault}
use Rattle.rasn_lint.proofs.untyped.read_fault.Goals as goal

pub returns-in-Boolean : goal.returns-in-Boolean
returns-in-Boolean c =
    let written = subst (λ l. Bytes Der (leaf octet_string c.args.tag unconstrained) (numbers c.args.contents.now) l) (sym c.deref.ensures.value) c.in-Ok.ensures in
    subst (λ z. IfOk c.fault_of.result (IsPrimitiveFault z c.args.tag c.args.contents.now)) (sym c.in-Boolean.is)
    (if_then c.fault_of.result (boolean_fault c.args.tag c.args.contents.now c.deref.result.now written c.decoder_of-decoder.result c.decode_bool.new.self c.decoder_of-decoder.ensures c.decode_bool.result c.decode_bool.ensures.reads c.decode_bool.ensures.exact) c.fault_of.ensures)

pub returns-in-Integer : goal.returns-in-Integer
returns-in-Integer c =
    let written = subst (λ l. Bytes Der (leaf octet_string c.args.tag unconstrained) (numbers c.args.contents.now) l) (sym c.deref.ensures.value) c.in-Ok.ensures in
    subst (λ z. IfOk c.fault_of-in-Integer.result (IsPrimitiveFault z c.args.tag c.args.contents.now)) (sym c.in-Integer.is)
    (if_then c.fault_of-in-Integer.result (integer_fault c.args.tag c.args.contents.now c.deref.result.now written c.decoder_of-decoder.result c.check_integer.new.self c.decoder_of-decoder.ensures c.check_integer.result c.check_integer.ensures.reads c.check_integer.ensures.exact) c.fault_of-in-Integer.ensures)

pub returns-in-BitString : goal.returns-in-BitString
returns-in-BitString c =
    let written = subst (λ l. Bytes Der (leaf octet_string c.args.tag unconstrained) (numbers c.args.contents.now) l) (sym c.deref.ensures.value) c.in-Ok.ensures in
    subst (λ z. IfOk c.fault_of-in-BitString.result (IsPrimitiveFault z c.args.tag c.args.contents.now)) (sym c.in-BitString.is)
    (if_then c.fault_of-in-BitString.result (bits_fault c.args.tag c.args.contents.now c.deref.result.now written c.decoder_of-decoder.result c.decode_bits.new.self c.decoder_of-decoder.ensures c.decode_bits.result c.decode_bits.ensures.reads c.decode_bits.ensures.exact) c.fault_of-in-BitString.ensures)

pub returns-in-Null : goal.returns-in-Null
returns-in-Null c =
    let written = subst (λ l. Bytes Der (leaf octet_string c.args.tag unconstrained) (numbers c.args.contents.now) l) (sym c.deref.ensures.value) c.in-Ok.ensures in
    subst (λ z. IfOk c.fault_of-in-Null.result (IsPrimitiveFault z c.args.tag c.args.contents.now)) (sym c.in-Null.is)
    (if_then c.fault_of-in-Null.result (null_fault c.args.tag c.args.contents.now c.deref.result.now written c.decoder_of-decoder.result c.decode_null.new.self c.decoder_of-decoder.ensures c.decode_null.result c.decode_null.ensures.reads c.decode_null.ensures.exact) c.fault_of-in-Null.ensures)

pub returns-in-Utf8 : goal.returns-in-Utf8
returns-in-Utf8 c =
    let written = subst (λ l. Bytes Der (leaf octet_string c.args.tag unconstrained) (numbers c.args.contents.now) l) (sym c.deref.ensures.value) c.in-Ok.ensures in
    subst (λ z. IfOk c.fault_of-in-Utf8.result (IsPrimitiveFault z c.args.tag c.args.contents.now)) (sym c.in-Utf8.is)
    (if_then c.fault_of-in-Utf8.result (utf8_fault c.args.tag c.args.contents.now c.deref.result.now written c.decoder_of-decoder.result c.decode_utf8_text.new.self c.decoder_of-decoder.ensures c.decode_utf8_text.result c.decode_utf8_text.ensures.reads c.decode_utf8_text.ensures.exact) c.fault_of-in-Utf8.ensures)

pub returns-in-Characters : goal.returns-in-Characters
returns-in-Characters c =
    let written = subst (λ l. Bytes Der (leaf octet_string c.args.tag unconstrained) (numbers c.args.contents.now) l) (sym c.deref.ensures.value) c.in-Ok.ensures in
    subst (λ z. IfOk c.fault_of-in-Characters.result (IsPrimitiveFault z c.args.tag c.args.contents.now)) (sym c.in-Characters.is)
    (if_then c.fault_of-in-Characters.result (characters_fault c.args.tag c.args.contents.now c.deref.result.now written c.decoder_of-decoder.result c.decode_restricted_string.new.self c.decoder_of-decoder.ensures c.in-Characters.alphabet c.decode_restricted_string.result c.decode_restricted_string.ensures.reads c.decode_restricted_string.ensures.exact) c.fault_of-in-Characters.ensures)

pub returns-in-Units : goal.returns-in-Units
returns-in-Units c =
    let written = subst (λ l. Bytes Der (leaf octet_string c.args.tag unconstrained) (numbers c.args.contents.now) l) (sym c.deref.ensures.value) c.in-Ok.ensures in
    subst (λ z. IfOk c.fault_of-in-Units.result (IsPrimitiveFault z c.args.tag c.args.contents.now)) (sym c.in-Units.is)
    (if_then c.fault_of-in-Units.result (units_fault c.args.tag c.args.contents.now c.deref.result.now written c.decoder_of-decoder.result c.decode_bmp_string.new.self c.decoder_of-decoder.ensures c.decode_bmp_string.result c.decode_bmp_string.ensures.reads c.decode_bmp_string.ensures.exact) c.fault_of-in-Units.ensures)

pub returns-in-UtcTime : goal.returns-in-UtcTime
returns-in-UtcTime c =
    let written = subst (λ l. Bytes Der (leaf octet_string c.args.tag unconstrained) (numbers c.args.contents.now) l) (sym c.deref.ensures.value) c.in-Ok.ensures in
    subst (λ z. IfOk c.fault_of-in-UtcTime.result (IsPrimitiveFault z c.args.tag c.args.contents.now)) (sym c.in-UtcTime.is)
    (if_then c.fault_of-in-UtcTime.result (utc_fault c.args.tag c.args.contents.now c.deref.result.now written c.decoder_of-decoder.result c.decode_utc_time.new.self c.decoder_of-decoder.ensures c.decode_utc_time.result (c.decode_utc_time.ensures.reads unconstrained) c.decode_utc_time.ensures.exact) c.fault_of-in-UtcTime.ensures)

pub returns-in-GeneralizedTime : goal.returns-in-GeneralizedTime
returns-in-GeneralizedTime c =
    let written = subst (λ l. Bytes Der (leaf octet_string c.args.tag unconstrained) (numbers c.args.contents.now) l) (sym c.deref.ensures.value) c.in-Ok.ensures in
    subst (λ z. IfOk c.fault_of-in-GeneralizedTime.result (IsPrimitiveFault z c.args.tag c.args.contents.now)) (sym c.in-GeneralizedTime.is)
    (if_then c.fault_of-in-GeneralizedTime.result (generalized_fault c.args.tag c.args.contents.now c.deref.result.now written c.decoder_of-decoder.result c.decode_generalized_time.new.self c.decoder_of-decoder.ensures c.decode_generalized_time.result (c.decode_generalized_time.ensures.reads unconstrained) c.decode_generalized_time.ensures.exact) c.fault_of-in-GeneralizedTime.ensures)

pub returns-in-Date : goal.returns-in-Date
returns-in-Date c =
    let written = subst (λ l. Bytes Der (leaf octet_string c.args.tag unconstrained) (numbers c.args.contents.now) l) (sym c.deref.ensures.value) c.in-Ok.ensures in
    subst (λ z. IfOk c.fault_of-in-Date.result (IsPrimitiveFault z c.args.tag c.args.contents.now)) (sym c.in-Date.is)
    (if_then c.fault_of-in-Date.result (date_fault c.args.tag c.args.contents.now c.deref.result.now written c.decoder_of-decoder.result c.decode_date.new.self c.decoder_of-decoder.ensures c.decode_date.result (c.decode_date.ensures.reads unconstrained) c.decode_date.ensures.exact) c.fault_of-in-Date.ensures)
