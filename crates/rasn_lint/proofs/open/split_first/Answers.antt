use Rattle.rasn_lint.proofs.open.split_first.Goals as goal

pub octets_before-requires : goal.octets_before-requires
octets_before-requires c = (c.in_ok-others.ensures.exact.1.text, c.in_ok-others.ensures.exact.1.is)

pub returns : goal.returns
returns c = record { is = c.octets_before.ensures; follows = c.in_ok-others.ensures.exact; only = c.in_ok-others.ensures.one }
