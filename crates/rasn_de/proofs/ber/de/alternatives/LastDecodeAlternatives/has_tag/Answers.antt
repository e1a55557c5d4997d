use Rattle.std.proofs.Common.{◌≡◌, true, subst}
use Rattle.rasn_types.specs.Truth.{IsWhether}
use Rattle.rasn_types.specs.Shapes.Parts.{none}
use Rattle.rasn_de.proofs.OwnTypes.Tags.{tag_whether}
use Rattle.rasn_de.proofs.OwnTypes.AlternativeTypes.{first_has, first_whether}
use Rattle.rasn_de.proofs.ber.de.alternatives.LastDecodeAlternatives.has_tag.Goals as goal

pub returns : goal.returns
returns g c = first_whether g.A.AsnType.shape c.args.tag g.A.AsnType.TAG c.eq.result (first_has g.A.AsnType.shape g.A.AsnType.TAG none true c.requires.differ)
    (subst (λ t. IsWhether c.eq.result (c.args.tag ≡ t)) c.TAG.ensures (tag_whether c.args.tag c.TAG.result c.eq.result c.eq.ensures))
