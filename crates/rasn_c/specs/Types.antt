-- The types that a caller may name, and their numbers in C: `soq_type`.
use Rattle.std.specs.Prelude.{◌≡◌, ◌≤◌, ℕ, zero, suc, List, [], ◌∷◌, Some, None, length, slice_get}
use Rattle.rasn_types.specs.declared.types.codec.Codec.{Codec}
use Rattle.rasn_types.specs.Tags.{in_universal, eoc}
use Rattle.rasn_types.specs.declared.types.strings.alphabet.Alphabet.TheVariants.{Printable, Ia5}
use Rattle.rasn_types.specs.Shapes.{Shape, leaf, boolean, integer, octet_string, every, utc_time, generalized_time, null, object_identifier, bit_string, utf8, ia5, printable, any}
use Rattle.rasn_types.specs.Trees.{unconstrained}
use Rattle.rasn_de.specs.ValueErrors.{Errors, errors_of}
use Rattle.rasn_de.specs.CharacterString.{DecodesString, ByAlphabet}
use Rattle.rasn_de.specs.contracts.ber.de.boolean.BoolDecode.TheImpl.{ghosts as bool_reading}
use Rattle.rasn_de.specs.contracts.ber.de.integer.IntegerDecode.TheImpl.{ghosts as integer_reading}
use Rattle.rasn_de.specs.contracts.ber.de.bit_string.BitStringDecode.TheImpl.{ghosts as bit_string_reading}
use Rattle.rasn_de.specs.contracts.ber.de.octet_string.OctetStringDecode.TheImpl.{ghosts as octet_string_reading}
use Rattle.rasn_de.specs.contracts.ber.de.null.UnitDecode.TheImpl.{ghosts as null_reading}
use Rattle.rasn_de.specs.contracts.ber.de.object_identifier.ObjectIdentifierDecode.TheImpl.{ghosts as object_identifier_reading}
use Rattle.rasn_de.specs.contracts.ber.de.character_string.StringDecode.TheImpl.{ghosts as text_reading}
use Rattle.rasn_de.specs.contracts.ber.de.time.UtcTimeDecode.TheImpl.{ghosts as utc_reading}
use Rattle.rasn_de.specs.contracts.ber.de.time.GeneralizedTimeDecode.TheImpl.{ghosts as generalized_reading}
use Rattle.rasn_de.specs.contracts.ber.de.any.AnyDecode.TheImpl.{ghosts as any_reading}
use Rattle.rasn_pkix.specs.contracts.certificate.CertificateDecode.TheImpl.{ghosts as certificate_reading}
use Rattle.rasn_pkix.specs.contracts.certificate_list.CertificateListDecode.TheImpl.{ghosts as certificate_list_reading}
use Rattle.rasn_pkix.specs.contracts.certification_request.CertificationRequestDecode.TheImpl.{ghosts as request_reading}
use Rattle.rasn_cms.specs.contracts.signed_message.SignedMessageDecode.TheImpl.{ghosts as signed_message_reading}
use Rattle.rasn_snmp.specs.contracts.message.MessageDecode.TheImpl.{ghosts as message_reading}
use Rattle.rasn_ldap.specs.contracts.ldap_message.LdapMessageDecode.TheImpl.{ghosts as ldap_message_reading}
use Rattle.rasn_pkix.specs.contracts.certificate.CertificateAsnType.TheImpl.{ghosts as certificate_ghosts}
use Rattle.rasn_pkix.specs.contracts.certificate_list.CertificateListAsnType.TheImpl.{ghosts as certificate_list_ghosts}
use Rattle.rasn_pkix.specs.contracts.certification_request.CertificationRequestAsnType.TheImpl.{ghosts as request_ghosts}
use Rattle.rasn_cms.specs.contracts.signed_message.SignedMessageAsnType.TheImpl.{ghosts as signed_message_ghosts}
use Rattle.rasn_snmp.specs.contracts.message.MessageAsnType.TheImpl.{ghosts as message_ghosts}
use Rattle.rasn_ldap.specs.contracts.ldap_message.LdapMessageAsnType.TheImpl.{ghosts as ldap_message_ghosts}

-- the shapes of the types, in the order of their numbers, beginning with 0
abbrev pub numbered_shapes : List Shape
numbered_shapes =
    leaf boolean (in_universal 1) unconstrained
    ∷ leaf (integer every) (in_universal 2) unconstrained
    ∷ leaf bit_string (in_universal 3) unconstrained
    ∷ leaf octet_string (in_universal 4) unconstrained
    ∷ leaf null (in_universal 5) unconstrained
    ∷ leaf object_identifier (in_universal 6) unconstrained
    ∷ leaf utf8 (in_universal 12) unconstrained
    ∷ leaf printable (in_universal 19) unconstrained
    ∷ leaf ia5 (in_universal 22) unconstrained
    ∷ leaf utc_time (in_universal 23) unconstrained
    ∷ leaf generalized_time (in_universal 24) unconstrained
    ∷ any None
    ∷ certificate_ghosts.shape
    ∷ certificate_list_ghosts.shape
    ∷ request_ghosts.shape
    ∷ signed_message_ghosts.shape
    ∷ message_ghosts.shape
    ∷ ldap_message_ghosts.shape
    ∷ []

abbrev pub IsShapeOf : ℕ → Shape → Type 0
IsShapeOf number shape = slice_get numbered_shapes number ≡ Some shape

-- the errors of values of the types, in the same order
abbrev pub numbered_errors : List Errors
numbered_errors =
    bool_reading.errors (in_universal 1) unconstrained
    ∷ integer_reading.errors (in_universal 2) unconstrained
    ∷ bit_string_reading.errors (in_universal 3) unconstrained
    ∷ octet_string_reading.errors (in_universal 4) unconstrained
    ∷ null_reading.errors (in_universal 5) unconstrained
    ∷ object_identifier_reading.errors (in_universal 6) unconstrained
    ∷ text_reading.errors (in_universal 12) unconstrained
    ∷ errors_of (DecodesString (λ (l : List ℕ). l) (ByAlphabet Printable None) (in_universal 19))
    ∷ errors_of (DecodesString (λ (l : List ℕ). l) (ByAlphabet Ia5 None) (in_universal 22))
    ∷ utc_reading.errors (in_universal 23) unconstrained
    ∷ generalized_reading.errors (in_universal 24) unconstrained
    ∷ any_reading.errors eoc unconstrained
    ∷ certificate_reading.errors (in_universal 16) unconstrained
    ∷ certificate_list_reading.errors (in_universal 16) unconstrained
    ∷ request_reading.errors (in_universal 16) unconstrained
    ∷ signed_message_reading.errors (in_universal 16) unconstrained
    ∷ message_reading.errors (in_universal 16) unconstrained
    ∷ ldap_message_reading.errors (in_universal 16) unconstrained
    ∷ []

abbrev pub errors_at : List Errors → ℕ → Errors
errors_at [] number = λ _ _ _. ⊥
errors_at (e ∷ es) zero = e
errors_at (e ∷ es) (suc number) = errors_at es number

-- no type has the number
abbrev pub IsUnknownType : ℕ → Type 0
IsUnknownType number = length numbered_shapes ≤ number

-- The relation `Is` of a rule, octets and a result, for the shape and the errors of the type with this number.
abbrev pub OfType : {A : Type 0} → (Codec → Shape → Errors → List ℕ → A → Type 0) → ℕ → Codec → List ℕ → A → Type 0
OfType Is number rule octets answer = (shape : Shape) × IsShapeOf number shape × Is rule shape (errors_at numbered_errors number) octets answer
