use Rattle.std.proofs.Common.{◌≡◌, true, rules}
use Rattle.rasn_de.proofs.OwnTypes.AlternativeTypes.{first_has, this_whether, others_whether}
use Rattle.rasn_de.proofs.ber.de.alternatives.OneOfDecodeAlternatives.has_tag.Goals as goal

pub returns-then-eq : goal.returns-then-eq
returns-then-eq g c =
    let own = first_has g.A.AsnType.shape g.A.AsnType.TAG g.R.DecodeAlternatives.parts g.R.DecodeAlternatives.tags_differ c.requires.differ in
    let h : c.args.tag ≡ g.A.AsnType.TAG = search rules in
    let b : c.eq.result ≡ true = search rules in
    this_whether g.A.AsnType.shape g.R.DecodeAlternatives.parts c.args.tag g.A.AsnType.TAG c.eq.result own h b

pub returns-else-eq : goal.returns-else-eq
returns-else-eq g c =
    let own = first_has g.A.AsnType.shape g.A.AsnType.TAG g.R.DecodeAlternatives.parts g.R.DecodeAlternatives.tags_differ c.requires.differ in
    let h : c.args.tag ≡ g.A.AsnType.TAG → ⊥ = search rules in
    others_whether g.A.AsnType.shape g.R.DecodeAlternatives.parts c.args.tag g.A.AsnType.TAG c.has_tag.result own h c.has_tag.ensures
