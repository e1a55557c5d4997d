use Rattle.std.proofs.Common.{◌+◌, ◌*◌}
use Rattle.rasn_schema_octets.specs.Nodes.{node_trees}
use Rattle.rasn_schema_octets.proofs.Begins.{ReadSoFar}
use Rattle.rasn_schema_octets.proofs.value.+values.Given as goal

abbrev pub decreases-first_value : goal.decreases-first_value
decreases-first_value l = 2 * l.levels + 1

abbrev pub decreases-first_values : goal.decreases-first_values
decreases-first_values l = 2 * l.levels

abbrev pub invariant-first_values-loop : goal.invariant-first_values-loop
invariant-first_values-loop l = ReadSoFar (node_trees l.nodes) l.levels l.counter l.values.items (node_trees l.left)
