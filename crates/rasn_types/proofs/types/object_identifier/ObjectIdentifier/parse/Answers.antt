use Rattle.std.proofs.Common.{rules, sym, ◌∙◌}
use Rattle.rasn_types.proofs.Dotted.{parsing_start, parsing_more, parsing_shorter, parsing_stopped, parsing_failed, parsing_ended, parsing_only, parsed, unparsed}
use Rattle.rasn_types.proofs.types.object_identifier.ObjectIdentifier.parse.Goals as goal

pub loop-front-init : goal.loop-front-init
loop-front-init c = (c.utf8.text, rw c.new-arcs.ensures.items (parsing_start c.args.text.now))

pub loop-front-smaller : goal.loop-front-smaller
loop-front-smaller c = parsing_shorter c.loop-front.rest.now c.split_once.result c.in-Some.front c.in-Some.behind c.split_once.ensures.cases c.in-Some.is

pub loop-front-preserved : goal.loop-front-preserved
loop-front-preserved c =
    let arc = c.in-Some-parse_arc in (
      search rules,
      rw c.in_ok-push.ensures.items (parsing_more c.args.text.now c.loop-front.arcs.items c.loop-front.rest.now c.split_once.result c.in-Some.front c.in-Some.behind arc.arc c.loop-front.invariant.1
          c.split_once.ensures.cases c.in-Some.is arc.ensures.0 arc.ensures.1),
    )

pub returns-in_default-parse_arc : goal.returns-in_default-parse_arc
returns-in_default-parse_arc c =
    unparsed c.args.text.now (parsing_stopped c.args.text.now c.loop-front.arcs.items c.loop-front.rest.now c.split_once.result c.in-Some.front c.in-Some.behind c.loop-front.invariant.1 c.split_once.ensures.cases c.in-Some.is
    c.in_default-parse_arc.ensures)

pub returns-in_default-parse_arc-2 : goal.returns-in_default-parse_arc-2
returns-in_default-parse_arc-2 c =
    unparsed c.args.text.now (parsing_failed c.args.text.now c.loop-front.arcs.items c.loop-front.rest.now c.split_once.result c.loop-front.invariant.1 c.split_once.ensures.cases c.in_default.is c.in_default-parse_arc-2.ensures)

pub returns : goal.returns
returns c =
    let text = c.args.text.now in
    let arcs = c.loop-front.arcs.items in
    let rest = c.loop-front.rest.now in
    let last = c.in-Some-parse_arc-2 in
    let ended = parsing_ended text arcs rest last.arc c.loop-front.invariant.1 last.ensures.0 last.ensures.1 in
    let is = c.in_ok-push-2.ensures.items in
    parsed text c.push-2.new.self.items c.new.result c.new.ensures (rw is ended.0) (rw is ended.1) (
    λ k h b t. parsing_only text arcs rest c.split_once.result last.arc c.loop-front.invariant.1 c.split_once.ensures.cases c.in_default.is last.ensures.0 last.ensures.1 k h b t ∙ sym is)
