use Rattle.std.proofs.Common.{◌≡◌, ◌++◌, ◌∷◌, [], ◌∙◌, ap, append-nil}
use Rattle.std.specs.Int.{w128, to_be_bytes}
use Rattle.rasn_types.specs.Contents.{signed}
use Rattle.rasn_types.proofs.Integer.Octets.{signed_after_zero}
use Rattle.rasn_types.proofs.types.twos_complement.u128_octets.Goals as goal

pub returns : goal.returns
returns c =
    let e : c.copy_from_slice.new.self ++ [] ≡ to_be_bytes w128 c.args.number =
    append-nil c.copy_from_slice.new.self ∙ (c.copy_from_slice.ensures.after ∙ c.to_be_bytes.ensures) in
    record { is = c.shortest.ensures.same ∙ (ap (λ l. signed (0 ∷ l)) e ∙ signed_after_zero c.args.number c.ranges.number.fits); shortest = c.shortest.ensures.short; octets = c.shortest.ensures.octets }
