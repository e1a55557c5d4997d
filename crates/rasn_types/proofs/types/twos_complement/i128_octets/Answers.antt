use Rattle.std.proofs.Common.{◌≡◌, ◌∙◌, of_z, ap}
use Rattle.std.specs.Int.{w128, to_be_bytes}
use Rattle.std.proofs.lemmas.Int.{to_z-of_z}
use Rattle.rasn_types.specs.Contents.{signed}
use Rattle.rasn_types.proofs.Integer.Octets.{signed_128}
use Rattle.rasn_types.proofs.types.twos_complement.i128_octets.Goals as goal

pub returns : goal.returns
returns c =
    let e : c.to_be_bytes.result ≡ to_be_bytes w128 (of_z w128 c.args.number) =
    c.to_be_bytes.ensures ∙ ap (λ z. to_be_bytes w128 (of_z w128 z)) (to_z-of_z w128 c.args.number c.ranges.number) in
    record { is = c.shortest.ensures.same ∙ (ap signed (c.copy_from_slice.ensures.after ∙ e) ∙ signed_128 c.args.number c.ranges.number); shortest = c.shortest.ensures.short; octets = c.shortest.ensures.octets }
