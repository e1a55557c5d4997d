use Rattle.std.proofs.Common.{subst}
use Rattle.rasn_de.proofs.OwnTypes.Beyond.{ok_then}
use Rattle.rasn_types.specs.Tags.{eoc}
use Rattle.rasn_types.specs.Shapes.{choice}
use Rattle.rasn_types.specs.Trees.{unconstrained}
use Rattle.rasn_de.specs.ValueErrors.{DecodesOr}
use Rattle.rasn_examples.specs.contracts.event.ComponentDecode.TheImpl.{ghosts as component}
use Rattle.rasn_examples.specs.Event.{event_parts, component_tree, event_beyond, MakesEvent}
use Rattle.rasn_examples.proofs.EventComponents.{set_fails}
use Rattle.rasn_examples.proofs.event.EventDecode.decode_with_tag_and_constraints.Goals as goal

pub returns-clause-beyond : goal.returns-clause-beyond
returns-clause-beyond c = ok_then (event_beyond c.args.tag c.args.decoder.now) c.decode_set.result c.decode_set.ensures.beyond (λ v k. (k.0, k.1, k.2, (k.3.0.items, k.3.1, k.3.2.1.1.0)))

pub returns-clause-errors : goal.returns-clause-errors
returns-clause-errors c = set_fails (DecodesOr (choice event_parts) component_tree (component.errors eoc unconstrained)) _ (MakesEvent c.args.decoder.now.rule) c.decode_set.ensures.reads c.args.tag c.args.decoder.now c.decode_set.result _ c.decode_set.ensures.exact (λ fields r m. subst (λ rule. MakesEvent rule fields r) c.codec-codec.ensures (m.1.0, m.1.1.1.1))
