use Rattle.std.proofs.Common.{refl, arith, ◌∷◌, vec_capacity}
use Rattle.rasn_enc.specs.ObjectIdentifier.{subidentifier_octets}
use Rattle.rasn_enc.proofs.Leaves.ObjectIdentifier.{write_next, write_room, write_all, rest_is}
use Rattle.rasn_enc.proofs.ber.enc.object_identifier.SubidentifiersContents.append.Goals as goal

pub write_groups-requires : goal.write_groups-requires
write_groups-requires c =
    let s = c.args.self.now in
    let all = subidentifier_octets (s.first ∷ s.others.now) in
    let h = c.requires all refl in
    let r = write_room (s.first ∷ s.others.now) s.others.now c.args.octets.now.items c.args.octets.now.items all s.first (vec_capacity c.args.octets.now) refl refl (omega (arith, h, c.args.octets.now.ok)) in
    omega (arith, r, c.args.octets.now.ok)

pub loop-rest-init : goal.loop-rest-init
loop-rest-init c =
    let s = c.args.self.now in
    record {
      written = write_next (s.first ∷ s.others.now) s.others.now c.args.octets.now.items c.write_groups.new.out.items _ s.first refl refl c.write_groups.ensures.items;
      capacity = c.write_groups.ensures.capacity;
    }

pub write_groups-requires-in-len1-up : goal.write_groups-requires-in-len1-up
write_groups-requires-in-len1-up c =
    let s = c.args.self.now in
    let all = subidentifier_octets (s.first ∷ s.others.now) in
    let h = c.requires all refl in
    let i = c.loop-rest.invariant in
    let r = write_room c.loop-rest.rest.now _ c.loop-rest.octets.items c.args.octets.now.items all _ (vec_capacity c.args.octets.now) (rest_is _ c.in-len1-up.len_at_least) i.written (omega (arith, h, c.args.octets.now.ok)) in
    omega (arith, r, i.capacity, c.loop-rest.octets.ok)

pub loop-rest-preserved : goal.loop-rest-preserved
loop-rest-preserved c = record {
  written = write_next c.loop-rest.rest.now _ c.loop-rest.octets.items c.write_groups-in-len1-up.new.out.items _ _ (rest_is _ c.in-len1-up.len_at_least) c.loop-rest.invariant.written c.write_groups-in-len1-up.ensures.items;
  capacity = rw c.write_groups-in-len1-up.ensures.capacity c.loop-rest.invariant.capacity;
}

pub returns-clause-ok : goal.returns-clause-ok
returns-clause-ok c = write_all c.loop-rest.rest.now c.args.octets.now.items c.loop-rest.octets.items _ c.loop-rest.invariant.written c.in_default.len_below
