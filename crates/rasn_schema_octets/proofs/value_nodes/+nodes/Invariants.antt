use Rattle.std.proofs.Common.{◌≡◌, ◌++◌, take}
use Rattle.rasn_schema_octets.specs.Defaults.{all_nodes}
use Rattle.rasn_schema_octets.specs.Nodes.{node_trees}
use Rattle.rasn_schema_octets.proofs.value_nodes.+nodes.Given as goal

abbrev pub invariant-append_values-loop-value : goal.invariant-append_values-loop-value
invariant-append_values-loop-value l = node_trees l.nodes.items ≡ node_trees l.fn.nodes.items ++ all_nodes (take l.value-index l.values)
