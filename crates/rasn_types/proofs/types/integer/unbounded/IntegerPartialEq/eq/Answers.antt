use Rattle.rasn_types.proofs.Integer.Shortest.{equal_octets}
use Rattle.rasn_types.proofs.types.integer.unbounded.IntegerPartialEq.eq.Goals as goal

pub returns : goal.returns
returns c =
    equal_octets c.self.inside.octets c.other.inside.octets c.args.self.now c.args.other.now c.eq.result
    c.self.invariant c.other.invariant c.self.view_is c.other.view_is (rw (c.as_slice-octets.ensures, c.as_slice-others.ensures) at c.eq.ensures)
