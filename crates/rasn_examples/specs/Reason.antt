-- The numbers of the ENUMERATED CRLReason (RFC 5280, 5.3.1). It has no 7.
use Rattle.std.specs.Prelude.{ℤ, pos, List, [], ◌∷◌}
use Rattle.rasn_examples.specs.declared.reason.Reason.{Reason}
use Rattle.rasn_examples.specs.declared.reason.Reason.TheVariants.{Unspecified, KeyCompromise, CaCompromise, AffiliationChanged, Superseded, CessationOfOperation, CertificateHold, RemoveFromCrl, PrivilegeWithdrawn, AaCompromise}

abbrev pub reasons : List ℤ
reasons = pos 0 ∷ pos 1 ∷ pos 2 ∷ pos 3 ∷ pos 4 ∷ pos 5 ∷ pos 6 ∷ pos 8 ∷ pos 9 ∷ pos 10 ∷ []

abbrev pub reason_number : Reason → ℤ
reason_number Unspecified = pos 0
reason_number KeyCompromise = pos 1
reason_number CaCompromise = pos 2
reason_number AffiliationChanged = pos 3
reason_number Superseded = pos 4
reason_number CessationOfOperation = pos 5
reason_number CertificateHold = pos 6
reason_number RemoveFromCrl = pos 8
reason_number PrivilegeWithdrawn = pos 9
reason_number AaCompromise = pos 10
