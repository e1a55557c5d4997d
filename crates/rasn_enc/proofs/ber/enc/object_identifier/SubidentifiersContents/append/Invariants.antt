use Rattle.std.proofs.Common.{◌≡◌, ◌++◌, ◌∷◌, length, vec_capacity}
use Rattle.rasn_enc.specs.ObjectIdentifier.{subidentifier_octets}
use Rattle.rasn_enc.proofs.ber.enc.object_identifier.SubidentifiersContents.append.Given as goal

abbrev pub invariant-loop-rest : goal.invariant-loop-rest
invariant-loop-rest l = record {
  written : l.octets.items ++ subidentifier_octets l.rest ≡ l.fn.octets.items ++ subidentifier_octets (l.self.first ∷ l.self.others.now);
  capacity : vec_capacity l.octets ≡ vec_capacity l.fn.octets;
}

abbrev pub decreases-loop-rest : goal.decreases-loop-rest
decreases-loop-rest l = length l.rest
