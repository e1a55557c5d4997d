use Rattle.rasn_enc.proofs.Leaves.ObjectIdentifier.{count_first, count_next, count_all, rest_is}
use Rattle.rasn_enc.proofs.ber.enc.object_identifier.SubidentifiersContents.count.Goals as goal

pub loop-rest-init : goal.loop-rest-init
loop-rest-init c = count_first c.args.self.now.first c.args.self.now.others.now _ c.count_groups-count.ensures

pub loop-rest-preserved : goal.loop-rest-preserved
loop-rest-preserved c = count_next _ _ _ _ _ _ c.loop-rest.invariant (rest_is _ c.in-len1-up.len_at_least) c.count_groups-count-in-len1-up.ensures

pub returns : goal.returns
returns c = count_all _ _ _ c.loop-rest.invariant c.in_default.len_below
