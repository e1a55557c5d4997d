use Rattle.rasn_schema_octets.proofs.Appended.{on_ok, if_err, other, items_appended, elements_appended, items_deep, elements_deep, one_appended}
use Rattle.rasn_schema_octets.proofs.value_nodes.+nodes.Goals as goal

pub append_value-returns-in-Items-clause-ok : goal.append_value-returns-in-Items-clause-ok
append_value-returns-in-Items-clause-ok t c =
    on_ok _ (items_appended _ _ _ c.in_ok-first_node.field-0 _ c.in-Items.values _ c.in-Items.is c.deref.ensures.value c.in_ok-first_node.ensures c.in_ok-push.ensures.items) c.append_values.ensures.ok

pub append_value-returns-in-Items-clause-refused : goal.append_value-returns-in-Items-clause-refused
append_value-returns-in-Items-clause-refused t c =
    if_err _ (λ e. other (items_deep _ c.in-Items.values _ c.args.levels c.in-Items.is c.deref.ensures.value)) c.append_values.ensures.refused

pub append_value-returns-in-Elements-clause-ok : goal.append_value-returns-in-Elements-clause-ok
append_value-returns-in-Elements-clause-ok t c =
    on_ok _ (elements_appended _ _ _ c.in_ok-first_node.field-0 _ c.in-Elements.values _ c.in-Elements.is c.deref-in-Elements.ensures.value c.in_ok-first_node.ensures c.in_ok-push.ensures.items) c.append_values-in-Elements.ensures.ok

pub append_value-returns-in-Elements-clause-refused : goal.append_value-returns-in-Elements-clause-refused
append_value-returns-in-Elements-clause-refused t c =
    if_err _ (λ e. other (elements_deep _ c.in-Elements.values _ c.args.levels c.in-Elements.is c.deref-in-Elements.ensures.value)) c.append_values-in-Elements.ensures.refused

pub append_values-loop-value-preserved : goal.append_values-loop-value-preserved
append_values-loop-value-preserved t c =
    one_appended _ _ _ c.args.values.now c.loop-value.value-index c.value-item.result c.loop-value-test.true c.value-item.is c.loop-value.invariant c.in_ok-append_value.ensures.ok
