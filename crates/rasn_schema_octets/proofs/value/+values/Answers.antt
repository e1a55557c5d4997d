use Rattle.rasn_schema.proofs.Lists.{split}
use Rattle.rasn_de.proofs.Leaves.Returns.{residual}
use Rattle.std.proofs.Common.{ap}
use Rattle.rasn_schema_octets.specs.Nodes.{node_trees}
use Rattle.rasn_schema_octets.specs.Forms.{node_form_tree}
use Rattle.rasn_schema_octets.proofs.Begins.{is_items, is_elements, items_refused, elements_refused, items_begins, elements_begins, read_more, value_refused}
use Rattle.rasn_schema_octets.proofs.value.+values.Goals as goal

pub first_value-returns-in_err-values-in-Items-clause-refused : goal.first_value-returns-in_err-values-in-Items-clause-refused
first_value-returns-in_err-values-in-Items-clause-refused t c =
    rw (residual _ c.from_residual-in_err-values-in-Items.ensures.1)
    (items_refused _ _ _ _ c.in-Items.count (ap node_trees (split c.args.nodes.now _ c.in-len1-up.len_at_least c.node-item.is)) (is_items _ (node_form_tree c.node-item.result) _ c.in-Items.is c.in_ok-value.ensures) c.in_err-values-in-Items.ensures.refused)

pub first_value-returns-in_err-values-in-Elements-clause-refused : goal.first_value-returns-in_err-values-in-Elements-clause-refused
first_value-returns-in_err-values-in-Elements-clause-refused t c =
    rw (residual _ c.from_residual-in_err-values-in-Elements.ensures.1)
    (elements_refused _ _ _ _ c.in-Elements.count (ap node_trees (split c.args.nodes.now _ c.in-len1-up.len_at_least c.node-item.is)) (is_elements _ (node_form_tree c.node-item.result) _ c.in-Elements.is c.in_ok-value.ensures) c.in_err-values-in-Elements.ensures.refused)

pub first_value-returns-in_ok-values-in-Items-clause-ok : goal.first_value-returns-in_ok-values-in-Items-clause-ok
first_value-returns-in_ok-values-in-Items-clause-ok t c =
    items_begins _ _ _ _ _ c.in-Items.count _ (ap node_trees (split c.args.nodes.now _ c.in-len1-up.len_at_least c.node-item.is)) (is_items _ (node_form_tree c.node-item.result) _ c.in-Items.is c.in_ok-value.ensures) c.in_ok-values-in-Items.ensures.ok

pub first_value-returns-in_ok-values-in-Elements-clause-ok : goal.first_value-returns-in_ok-values-in-Elements-clause-ok
first_value-returns-in_ok-values-in-Elements-clause-ok t c =
    elements_begins _ _ _ _ _ c.in-Elements.count _ (ap node_trees (split c.args.nodes.now _ c.in-len1-up.len_at_least c.node-item.is)) (is_elements _ (node_form_tree c.node-item.result) _ c.in-Elements.is c.in_ok-value.ensures) c.in_ok-values-in-Elements.ensures.ok

pub first_values-returns-in_err-value-clause-refused : goal.first_values-returns-in_err-value-clause-refused
first_values-returns-in_err-value-clause-refused t c =
    rw (residual _ c.from_residual.ensures.1) (value_refused _ _ _ _ _ _ c.loop.invariant c.loop-test.true c.in_err-value.ensures.refused)

pub first_values-loop-preserved : goal.first_values-loop-preserved
first_values-loop-preserved t c = read_more _ _ _ _ _ _ _ c.in_ok-value.value c.loop.invariant c.in_ok-push.ensures.items c.in_ok-value.ensures.ok
